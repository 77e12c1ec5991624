-- Which operator of block memory a unit's operator means at the types of its operands, and how an object of a type is read,
-- written and converted to (C11, 6.3.1, 6.5.3 to 6.5.14).
use Rattle.std.specs.Prelude.{ℕ, Bool, true, false, cond, Option, Some, None}
use Rattle.text_grammar.specs.declared.tree.BinaryOp.{BinaryOp}
use Rattle.text_grammar.specs.declared.tree.BinaryOp.TheVariants as b
use Rattle.block_mem.specs.declared.operator.Op.{Op}
use Rattle.block_mem.specs.declared.operator.Op.TheVariants as op
use Rattle.block_mem.specs.declared.value.Width.{Width}
use Rattle.block_mem.specs.declared.value.Width.TheVariants as width
use Rattle.typing_types.specs.declared.class.Integer.{Integer}
use Rattle.typing_types.specs.declared.class.Integer.TheVariants as integer
use Rattle.typing_types.specs.declared.class.Class.{Class}
use Rattle.typing_types.specs.declared.class.Class.TheVariants as class
use Rattle.typing_types.specs.declared.operator.Fit.{Fit}
use Rattle.typing_types.specs.declared.operator.Fit.TheVariants as fit
use Rattle.typing_types.specs.Types.{Derived, class_of}
use Rattle.typing_types.specs.Operators.{is_pointer}

-- one of two operators, by the type that both integers have become
abbrev pub by_sign : Integer → Op → Op → Op
by_sign integer.UnsignedInt signed unsigned = unsigned
by_sign i signed unsigned = signed

-- on integers of this type
abbrev pub on_integers : BinaryOp → Integer → Option Op
on_integers b.Mul i = Some op.Mul
on_integers b.Div i = Some (by_sign i op.DivSigned op.DivUnsigned)
on_integers b.Rem i = Some (by_sign i op.RemSigned op.RemUnsigned)
on_integers b.Add i = Some op.Add
on_integers b.Sub i = Some op.Sub
on_integers b.Shl i = Some op.Shl
on_integers b.Shr i = Some (by_sign i op.ShrSigned op.ShrUnsigned)
on_integers b.And i = Some op.And
on_integers b.Or i = Some op.Or
on_integers b.Xor i = Some op.Xor
on_integers b.Eq i = Some op.Eq
on_integers b.Ne i = Some op.Ne
on_integers b.Lt i = Some (by_sign i op.LtSigned op.LtUnsigned)
on_integers b.Gt i = Some (by_sign i op.GtSigned op.GtUnsigned)
on_integers b.Le i = Some (by_sign i op.LeSigned op.LeUnsigned)
on_integers b.Ge i = Some (by_sign i op.GeSigned op.GeUnsigned)
on_integers b.AndAnd i = None
on_integers b.OrOr i = None

-- on a pointer whose elements have this size, and an integer
abbrev pub on_pointer : BinaryOp → ℕ → Option Op
on_pointer b.Add size = Some (op.PtrAdd size)
on_pointer b.Sub size = Some (op.PtrSub size)
on_pointer _ size = None

-- comparisons of pointers
abbrev pub compared_pointers : BinaryOp → Option Op
compared_pointers b.Eq = Some op.PtrEq
compared_pointers b.Ne = Some op.PtrNe
compared_pointers b.Lt = Some op.PtrLt
compared_pointers b.Gt = Some op.PtrGt
compared_pointers b.Le = Some op.PtrLe
compared_pointers b.Ge = Some op.PtrGe
compared_pointers _ = None

-- `!`
abbrev pub not_of : Derived → Op
not_of t = cond (is_pointer t) op.PtrNot op.Not

-- what tells that a condition holds, with 0 at its right
abbrev pub test_of : Derived → Op
test_of t = cond (is_pointer t) op.PtrNe op.Ne

-- the conversion of a value to a type
abbrev pub conversion_at : Class → Op
conversion_at (class.Integer integer.Char) = op.LowSigned
conversion_at (class.Integer integer.UnsignedChar) = op.LowUnsigned
conversion_at _ = op.Keep

abbrev pub conversion_to : Derived → Op
conversion_to t = conversion_at (class_of t)

-- how an object of a type is read and written, where it is read and written whole
abbrev pub width_at : Class → Option Width
width_at (class.Integer integer.Char) = Some width.Signed8
width_at (class.Integer integer.UnsignedChar) = Some width.Unsigned8
width_at (class.Integer integer.Int) = Some width.Word
width_at (class.Integer integer.UnsignedInt) = Some width.Word
width_at class.Pointer = Some width.Pointer
width_at _ = None

abbrev pub width_of : Derived → Option Width
width_of t = width_at (class_of t)
