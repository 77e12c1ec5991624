-- What constant integers come to (C11, 6.6, of the subset). A part may be no constant, or a constant that has no value.
use Rattle.std.specs.Prelude.{ℕ, Bool, true, false, cond, ◌==◌, Option, Some, None}
use Rattle.std.specs.Option.{option_map_or}
use Rattle.block_mem.specs.declared.operator.Op.{Op}
use Rattle.block_mem.specs.declared.operator.Op.TheVariants as op
use Rattle.block_mem.specs.Integers.{on_word, on_words}
use Rattle.typing_initialisers.specs.declared.constant_integer.ConstantInteger.{ConstantInteger}
use Rattle.typing_initialisers.specs.declared.constant_integer.ConstantInteger.TheVariants as integer

-- the operators and casts that take an integer and give one
abbrev pub takes_integer : Op → Bool
takes_integer op.Keep = true
takes_integer op.LowSigned = true
takes_integer op.LowUnsigned = true
takes_integer op.Neg = true
takes_integer op.Flip = true
takes_integer op.Not = true
takes_integer _ = false

-- those that take two
abbrev pub takes_integers : Op → Bool
takes_integers op.Add = true
takes_integers op.Sub = true
takes_integers op.Mul = true
takes_integers op.DivSigned = true
takes_integers op.DivUnsigned = true
takes_integers op.RemSigned = true
takes_integers op.RemUnsigned = true
takes_integers op.And = true
takes_integers op.Or = true
takes_integers op.Xor = true
takes_integers op.Shl = true
takes_integers op.ShrSigned = true
takes_integers op.ShrUnsigned = true
takes_integers op.Eq = true
takes_integers op.Ne = true
takes_integers op.LtSigned = true
takes_integers op.LtUnsigned = true
takes_integers op.GtSigned = true
takes_integers op.GtUnsigned = true
takes_integers op.LeSigned = true
takes_integers op.LeUnsigned = true
takes_integers op.GeSigned = true
takes_integers op.GeUnsigned = true
takes_integers _ = false

abbrev pub known_or_wrong : Option ℕ → ConstantInteger
known_or_wrong v = option_map_or (λ n. integer.Known n) v integer.Wrong

-- the value of an operator with one operand; a cast between `int` and `unsigned` keeps it
abbrev pub word_under : Op → ℕ → ConstantInteger
word_under op.Keep n = integer.Known n
word_under o n = known_or_wrong (on_word o n)

abbrev pub of_one : Op → ConstantInteger → ConstantInteger
of_one o (integer.Known n) = word_under o n
of_one o integer.Wrong = integer.Wrong
of_one o integer.NotConstant = integer.NotConstant

abbrev pub unary : Op → ConstantInteger → ConstantInteger
unary o x = cond (takes_integer o) (of_one o x) integer.NotConstant

abbrev pub of_two : Op → ConstantInteger → ConstantInteger → ConstantInteger
of_two o integer.NotConstant y = integer.NotConstant
of_two o integer.Wrong integer.NotConstant = integer.NotConstant
of_two o integer.Wrong integer.Wrong = integer.Wrong
of_two o integer.Wrong (integer.Known m) = integer.Wrong
of_two o (integer.Known n) integer.NotConstant = integer.NotConstant
of_two o (integer.Known n) integer.Wrong = integer.Wrong
of_two o (integer.Known n) (integer.Known m) = known_or_wrong (on_words o n m)

abbrev pub binary : Op → ConstantInteger → ConstantInteger → ConstantInteger
binary o x y = cond (takes_integers o) (of_two o x y) integer.NotConstant

-- whether it is other than 0, as 0 or 1
abbrev pub truth : ConstantInteger → ConstantInteger
truth (integer.Known n) = integer.Known (cond (n == 0) 0 1)
truth integer.Wrong = integer.Wrong
truth integer.NotConstant = integer.NotConstant

abbrev pub asks_integer : Op → Bool
asks_integer op.Ne = true
asks_integer _ = false

-- a condition
abbrev pub test : Op → ConstantInteger → ConstantInteger
test o x = cond (asks_integer o) (truth x) integer.NotConstant

-- where one part is no constant, neither is the whole
abbrev pub beside : ConstantInteger → ConstantInteger → ConstantInteger
beside integer.NotConstant y = integer.NotConstant
beside integer.Wrong y = y
beside (integer.Known m) y = y

-- `&&` and `||`: the second part is asked only where the first does not decide
abbrev pub both : ConstantInteger → ConstantInteger → ConstantInteger
both integer.NotConstant y = integer.NotConstant
both integer.Wrong y = beside y integer.Wrong
both (integer.Known n) y = cond (n == 0) (beside y (integer.Known 0)) y

abbrev pub either : ConstantInteger → ConstantInteger → ConstantInteger
either integer.NotConstant y = integer.NotConstant
either integer.Wrong y = beside y integer.Wrong
either (integer.Known n) y = cond (n == 0) y (beside y (integer.Known 1))
