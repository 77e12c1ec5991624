-- The value and the place of an expression (C11, 6.5 and 6.3, of the subset). Where the source's rules give none there is None.
-- Expressions change nothing, so the order in which the parts of one are found makes no difference.
use Rattle.std.specs.Prelude.{ℕ, Bool, true, false, not, eqb, List, [], ◌∷◌, get_or, Option, Some, None, option_map}
use Rattle.cc_base.specs.Words.{add32}
use Rattle.block_mem.specs.Arithmetic.{bit}
use Rattle.block_mem.specs.Blocks.{Blocks}
use Rattle.block_mem.specs.Access.{load}
use Rattle.block_mem.specs.Integers.{on_word}
use Rattle.block_mem.specs.Operators.{of_word, applied}
use Rattle.block_mem.specs.declared.value.BlockName.{BlockName}
use Rattle.block_mem.specs.declared.value.BlockName.TheVariants.{Local}
use Rattle.block_mem.specs.declared.value.Value.{Value}
use Rattle.block_mem.specs.declared.value.Value.TheVariants.{Int, Ptr}
use Rattle.block_mem.specs.declared.value.Width.{Width}
use Rattle.block_mem.specs.declared.operator.Op.{Op}
use Rattle.block_mem.specs.declared.operator.Op.TheVariants.{Keep, PtrAdd}
use Rattle.clight_unit.specs.declared.expression.Expression.{Expression}
use Rattle.clight_unit.specs.declared.expression.Expression.TheOpen.{Expression-F, Test-F, Place-F}
use Rattle.clight_unit.specs.declared.expression.Expression.TheFolds.{fold-Expression, fold-Test, fold-Place}
use Rattle.clight_unit.specs.declared.expression.Test.{Test}
use Rattle.clight_unit.specs.declared.expression.Place.{Place}
use Rattle.clight_unit.specs.declared.statement.Value.{Value as Converted}

-- what an expression is found in: memory, the temporaries of the activation that finds it, what the symbols of its unit
-- mean as objects, and the activation's number
pub record Scene : Type 0 where
  pub memory : Blocks
  pub temporaries : List (Option Value)
  pub objects : List (Option BlockName)
  pub activation : ℕ

-- the first byte of a block
abbrev pub start_of : BlockName → Value
start_of b = Ptr b 0

-- an operator's value, where its operands have one
abbrev pub of_one : Blocks → Op → Option Value → Option Value
of_one m op None = None
of_one m op (Some x) = applied m op x (Int 0)

abbrev pub of_two : Blocks → Op → Option Value → Option Value → Option Value
of_two m op None y = None
of_two m op (Some x) None = None
of_two m op (Some x) (Some y) = applied m op x y

-- what a place holds
abbrev pub held : Blocks → Width → Option Value → Option Value
held m w None = None
held m w (Some p) = load m p w

-- `&&` and `||`: the second is asked only where the first does not decide
abbrev pub truth_value : Option Bool → Option Value
truth_value None = None
truth_value (Some b) = Some (Int (bit b))

abbrev pub both : Option Bool → Option Bool → Option Value
both None y = None
both (Some true) y = truth_value y
both (Some false) y = Some (Int 0)

abbrev pub either : Option Bool → Option Bool → Option Value
either None y = None
either (Some true) y = Some (Int 1)
either (Some false) y = truth_value y

-- a row for each kind of expression, from what its parts are
abbrev pub expression_step : Scene → Expression-F (Option Value) (Option Value) (Option Bool) → Option Value
expression_step s (Expression-F.Constant n) = Some (Int n)
expression_step s (Expression-F.Temporary k) = get_or s.temporaries k None
expression_step s (Expression-F.Load w p) = held s.memory w p
expression_step s (Expression-F.Decayed p) = p
expression_step s (Expression-F.Address p) = p
expression_step s (Expression-F.Unary op x) = of_one s.memory op x
expression_step s (Expression-F.Binary op x y) = of_two s.memory op x y
expression_step s (Expression-F.Both x y) = both x y
expression_step s (Expression-F.Either x y) = either x y

-- a condition holds where its value differs from 0, or from null
abbrev pub is_true : Value → Option Bool
is_true (Int n) = Some (not (eqb n 0))
is_true (Ptr b o) = None

abbrev pub truth_of : Option Value → Option Bool
truth_of None = None
truth_of (Some x) = is_true x

abbrev pub test_step : Scene → Test-F (Option Value) (Option Value) (Option Bool) → Option Bool
test_step s t = truth_of (of_one s.memory t.differs t.value)

-- a place is a pointer, or null, where nothing can be loaded or stored. A member of null has no place
abbrev pub member : ℕ → Option Value → Option Value
member offset None = None
member offset (Some (Int n)) = None
member offset (Some (Ptr b o)) = Some (Ptr b (add32 o offset))

abbrev pub place_step : Scene → Place-F (Option Value) (Option Value) (Option Bool) → Option Value
place_step s (Place-F.Object symbol) = option_map start_of (get_or s.objects symbol None)
place_step s (Place-F.Local index) = Some (start_of (Local s.activation index))
place_step s (Place-F.Deref e) = e
place_step s (Place-F.Index size e i) = of_two s.memory (PtrAdd size) e i
place_step s (Place-F.Member offset p) = member offset p
place_step s (Place-F.Arrow offset e) = member offset e

-- the value of an expression
abbrev pub value_of : Scene → Expression → Option Value
value_of s = fold-Expression (Option Value) (Option Value) (Option Bool) (expression_step s) (place_step s) (test_step s)

-- the place that a place's expression names
abbrev pub place_of : Scene → Place → Option Value
place_of s = fold-Place (Option Value) (Option Value) (Option Bool) (expression_step s) (place_step s) (test_step s)

-- whether a condition holds
abbrev pub holds : Scene → Test → Option Bool
holds s = fold-Test (Option Value) (Option Value) (Option Bool) (expression_step s) (place_step s) (test_step s)

-- a value converted to the type of where it goes (C11, 6.3.1.3)
abbrev pub convert : Op → Value → Option Value
convert Keep v = Some v
convert op v = of_word (on_word op) v

abbrev pub convert_if : Op → Option Value → Option Value
convert_if op None = None
convert_if op (Some v) = convert op v

abbrev pub converted : Scene → Converted → Option Value
converted s v = convert_if v.conversion (value_of s v.expression)

-- values from left to right
abbrev pub with_value : Option Value → Option (List Value) → Option (List Value)
with_value None vs = None
with_value (Some v) None = None
with_value (Some v) (Some vs) = Some (v ∷ vs)

abbrev pub all_converted : Scene → List Converted → Option (List Value)
all_converted s [] = Some []
all_converted s (v ∷ vs) = with_value (converted s v) (all_converted s vs)
