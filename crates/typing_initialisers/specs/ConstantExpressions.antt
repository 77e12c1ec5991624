-- The constants that an object of file scope may begin with (C11, 6.6 and 6.7.9, of the subset).
use Rattle.std.specs.Prelude.{ℕ, ◌==◌, Bool, true, false, cond, Option, Some, None}
use Rattle.std.specs.Option.{option_map, option_and_then}
use Rattle.cc_base.specs.Words.{add32}
use Rattle.block_mem.specs.Arithmetic.{minus32, product32}
use Rattle.block_mem.specs.declared.operator.Op.{Op}
use Rattle.block_mem.specs.declared.operator.Op.TheVariants as op
use Rattle.clight_unit.specs.declared.expression.Expression.{Expression}
use Rattle.clight_unit.specs.declared.expression.Expression.TheOpen.{Expression-F, Test-F, Place-F}
use Rattle.clight_unit.specs.declared.expression.Expression.TheFolds.{fold-Expression, fold-Test, fold-Place}
use Rattle.clight_unit.specs.declared.expression.Test.{Test}
use Rattle.clight_unit.specs.declared.expression.Place.{Place}
use Rattle.typing_initialisers.specs.declared.constant_integer.ConstantInteger.{ConstantInteger}
use Rattle.typing_initialisers.specs.declared.constant_integer.ConstantInteger.TheVariants as integer
use Rattle.typing_initialisers.specs.declared.constant_pointer.ConstantPointer.{ConstantPointer}
use Rattle.typing_initialisers.specs.declared.constant_pointer.ConstantPointer.TheVariants as pointer
use Rattle.typing_initialisers.specs.declared.constant_pointer.Address.{Address}
use Rattle.typing_initialisers.specs.ConstantIntegers.{unary, binary, test, both, either}

-- What is known of an expression: as an integer, as a pointer, and as the array that stands there.
pub record Known : Type 0 where
  pub integer : ConstantInteger
  pub pointer : Option ConstantPointer
  pub array : Option Address

-- What is known of a place: where it is, and whether it is an object's name alone.
pub record Placed : Type 0 where
  pub at : Option Address
  pub is_name : Bool

-- an expression that is no constant
abbrev pub unknown : Known
unknown = record { integer = integer.NotConstant; pointer = None; array = None }

abbrev pub of_integer : ConstantInteger → Known
of_integer i = record { integer = i; pointer = None; array = None }

abbrev pub of_pointer : Option ConstantPointer → Known
of_pointer p = record { integer = integer.NotConstant; pointer = p; array = None }

-- so many bytes further on, and back; the offset wraps
abbrev pub shifted : (ℕ → ℕ → ℕ) → ℕ → Address → Address
shifted f n a = record a { plus = f a.plus n }

abbrev pub by_integer : (ℕ → Address → Address) → ConstantInteger → Address → Option Address
by_integer move (integer.Known n) a = Some (move n a)
by_integer move integer.Wrong a = None
by_integer move integer.NotConstant a = None

-- arithmetic on null goes wrong
abbrev pub moved : (ℕ → Address → Address) → ConstantInteger → ConstantPointer → Option ConstantPointer
moved move i pointer.Null = None
moved move i (pointer.At a) = option_map (λ b. pointer.At b) (by_integer move i a)

-- the literal 0
abbrev pub null_of : ℕ → Option ConstantPointer
null_of n = cond (n == 0) (Some pointer.Null) None

-- a pointer's cast keeps it
abbrev pub cast_pointer : Op → Option ConstantPointer → Option ConstantPointer
cast_pointer op.Keep p = p
cast_pointer _ p = None

-- a pointer plus and minus so many elements
abbrev pub moved_pointer : Op → Option ConstantPointer → ConstantInteger → Option ConstantPointer
moved_pointer (op.PtrAdd size) p i = option_and_then (moved (λ n a. shifted add32 (product32 n size) a) i) p
moved_pointer (op.PtrSub size) p i = option_and_then (moved (λ n a. shifted minus32 (product32 n size) a) i) p
moved_pointer _ p i = None

abbrev pub at_of : Option Address → Option ConstantPointer
at_of a = option_map (λ b. pointer.At b) a

-- an array's name
abbrev pub name_of : Placed → Option Address
name_of p = cond p.is_name p.at None

abbrev pub expression_step : Expression-F Known Placed ConstantInteger → Known
expression_step (Expression-F.Constant n) = record { integer = integer.Known n; pointer = null_of n; array = None }
expression_step (Expression-F.Temporary k) = unknown
expression_step (Expression-F.Load width p) = unknown
expression_step (Expression-F.Decayed p) = record { integer = integer.NotConstant; pointer = at_of (name_of p); array = p.at }
expression_step (Expression-F.Address p) = of_pointer (at_of p.at)
expression_step (Expression-F.Unary o x) = record { integer = unary o x.integer; pointer = cast_pointer o x.pointer; array = None }
expression_step (Expression-F.Binary o x y) = record { integer = binary o x.integer y.integer; pointer = moved_pointer o x.pointer y.integer; array = None }
expression_step (Expression-F.Both s t) = of_integer (both s t)
expression_step (Expression-F.Either s t) = of_integer (either s t)

abbrev pub test_step : Test-F Known Placed ConstantInteger → ConstantInteger
test_step t = test t.differs t.value.integer

-- an element of an array, by a constant index
abbrev pub element : ℕ → Option Address → ConstantInteger → Option Address
element size a i = option_and_then (by_integer (λ n b. shifted add32 (product32 n size) b) i) a

-- a place that is no constant
abbrev pub nowhere : Placed
nowhere = record { at = None; is_name = false }

abbrev pub part : Option Address → Placed
part a = record { at = a; is_name = false }

abbrev pub place_step : Place-F Known Placed ConstantInteger → Placed
place_step (Place-F.Object symbol) = record { at = Some (record { symbol = symbol; plus = 0 }); is_name = true }
place_step (Place-F.Local k) = nowhere
place_step (Place-F.Deref e) = nowhere
place_step (Place-F.Index size e i) = part (element size e.array i.integer)
place_step (Place-F.Member offset p) = part (option_map (shifted add32 offset) p.at)
place_step (Place-F.Arrow offset e) = nowhere

abbrev pub known : Expression → Known
known = fold-Expression Known Placed ConstantInteger expression_step place_step test_step

abbrev pub known_test : Test → ConstantInteger
known_test = fold-Test Known Placed ConstantInteger expression_step place_step test_step

abbrev pub placed : Place → Placed
placed = fold-Place Known Placed ConstantInteger expression_step place_step test_step

-- the value of a constant integer, where it has one
abbrev pub integer_of : Expression → ConstantInteger
integer_of e = (known e).integer

-- the value of a constant pointer, where it has one
abbrev pub pointer_of : Expression → Option ConstantPointer
pointer_of e = (known e).pointer
