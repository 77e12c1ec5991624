-- Which operands an operator takes, and the type of its result (C11, 6.3.1.8, 6.5.3 to 6.5.14 and 6.5.16.1).
use Rattle.std.specs.Prelude.{ℕ, ◌≡◌, ◌≢◌, Bool, true, false, cond, ◌&&◌, ◌||◌, Option, Some, None, []}
use Rattle.std.specs.Option.{option_map, option_map_or, option_and_then, option_or}
use Rattle.text_grammar.specs.declared.tree.BinaryOp.{BinaryOp}
use Rattle.text_grammar.specs.declared.tree.BinaryOp.TheVariants as b
use Rattle.text_grammar.specs.declared.tree.UnaryOp.{UnaryOp}
use Rattle.text_grammar.specs.declared.tree.UnaryOp.TheVariants as u
use Rattle.typing_types.specs.declared.class.Integer.{Integer}
use Rattle.typing_types.specs.declared.class.Integer.TheVariants as integer
use Rattle.typing_types.specs.declared.class.Base.{Base}
use Rattle.typing_types.specs.declared.class.Base.TheVariants as base
use Rattle.typing_types.specs.declared.class.Class.{Class}
use Rattle.typing_types.specs.declared.class.Class.TheVariants as class
use Rattle.typing_types.specs.declared.operator.Fit.{Fit}
use Rattle.typing_types.specs.declared.operator.Fit.TheVariants as fit
use Rattle.typing_types.specs.declared.operator.Operand.{Operand}
use Rattle.typing_types.specs.Types.{Derived, plain, class_of, element_of}
use Rattle.typing_types.specs.Same.{same_type}

-- Integers: those of one byte become `int`, and where one operand is `unsigned` both are.
abbrev pub promoted : Integer → Integer
promoted integer.UnsignedInt = integer.UnsignedInt
promoted _ = integer.Int

abbrev pub common : Integer → Integer → Integer
common integer.UnsignedInt j = integer.UnsignedInt
common i j = promoted j

abbrev pub integer_at : Class → Option Integer
integer_at (class.Integer i) = Some i
integer_at _ = None

abbrev pub integer_of : Derived → Option Integer
integer_of t = integer_at (class_of t)

abbrev pub is_integer_at : Class → Bool
is_integer_at (class.Integer i) = true
is_integer_at _ = false

abbrev pub is_pointer_at : Class → Bool
is_pointer_at class.Pointer = true
is_pointer_at _ = false

abbrev pub is_void_at : Class → Bool
is_void_at class.Void = true
is_void_at _ = false

abbrev pub is_integer : Derived → Bool
is_integer t = is_integer_at (class_of t)

abbrev pub is_pointer : Derived → Bool
is_pointer t = is_pointer_at (class_of t)

-- what may stand as a condition
abbrev pub is_scalar : Derived → Bool
is_scalar t = is_integer t || is_pointer t

abbrev pub is_void : Derived → Bool
is_void t = is_void_at (class_of t)

abbrev pub is_void_pointer : Derived → Bool
is_void_pointer t = is_pointer t && option_map_or is_void (element_of t) false

-- `int`
abbrev pub int : Derived
int = plain (base.Integer integer.Int) 0

-- Operators with one operand.

-- `-` and `~` take an integer
abbrev pub negated : Derived → Option Derived
negated t = option_map (λ i. plain (base.Integer (promoted i)) 0) (integer_of t)

-- `*` and `[` take a pointer to a type other than `void`
abbrev pub known_element : Derived → Option Derived
known_element t = cond (is_void t) None (Some t)

abbrev pub pointed : Derived → Option Derived
pointed t = cond (is_pointer t) (option_and_then known_element (element_of t)) None

-- Operators with two operands. An operand has a type and may be the literal 0.

-- integers, both of their common type
abbrev pub integers : Operand → Operand → Option Fit
integers x y = option_and_then (λ i. option_map (λ j. fit.Integers (common i j)) (integer_of y.ctype)) (integer_of x.ctype)

-- integers, the first of its own type
abbrev pub shifted : Operand → Operand → Option Fit
shifted x y = option_and_then (λ i. option_map (λ j. fit.Integers (promoted i)) (integer_of y.ctype)) (integer_of x.ctype)

-- a pointer and an integer
abbrev pub moved : Operand → Operand → Option Fit
moved x y = cond (is_pointer x.ctype && is_integer y.ctype) (Some fit.PointerFirst) None

-- an integer and a pointer
abbrev pub moved_second : Operand → Operand → Option Fit
moved_second x y = cond (is_integer x.ctype && is_pointer y.ctype) (Some fit.PointerSecond) None

-- two pointers of one type
abbrev pub pointers : Operand → Operand → Option Fit
pointers x y = cond (is_pointer x.ctype && same_type x.ctype y.ctype) (Some fit.Pointers) None

-- a pointer, and `void *` or the literal 0
abbrev pub beside_any : Operand → Operand → Bool
beside_any x y = is_pointer x.ctype && (y.is_null || is_void_pointer y.ctype)

abbrev pub with_any : Operand → Operand → Option Fit
with_any x y = cond (beside_any x y || beside_any y x) (Some fit.Pointers) None

-- two conditions
abbrev pub tests : Operand → Operand → Option Fit
tests x y = cond (is_scalar x.ctype && is_scalar y.ctype) (Some fit.Tests) None

abbrev pub ordered : Operand → Operand → Option Fit
ordered x y = option_or (integers x y) (pointers x y)

abbrev pub compared : Operand → Operand → Option Fit
compared x y = option_or (ordered x y) (with_any x y)

abbrev pub added : Operand → Operand → Option Fit
added x y = option_or (integers x y) (option_or (moved x y) (moved_second x y))

abbrev pub subtracted : Operand → Operand → Option Fit
subtracted x y = option_or (integers x y) (option_or (moved x y) (pointers x y))

-- the table: how an operator takes its operands, where it takes them
abbrev pub fit_of : BinaryOp → Operand → Operand → Option Fit
fit_of b.Mul x y = integers x y
fit_of b.Div x y = integers x y
fit_of b.Rem x y = integers x y
fit_of b.And x y = integers x y
fit_of b.Or x y = integers x y
fit_of b.Xor x y = integers x y
fit_of b.Shl x y = shifted x y
fit_of b.Shr x y = shifted x y
fit_of b.Add x y = added x y
fit_of b.Sub x y = subtracted x y
fit_of b.Lt x y = ordered x y
fit_of b.Gt x y = ordered x y
fit_of b.Le x y = ordered x y
fit_of b.Ge x y = ordered x y
fit_of b.Eq x y = compared x y
fit_of b.Ne x y = compared x y
fit_of b.AndAnd x y = tests x y
fit_of b.OrOr x y = tests x y

-- the type of the result: a comparison's is `int`
abbrev pub is_comparison : BinaryOp → Bool
is_comparison b.Lt = true
is_comparison b.Gt = true
is_comparison b.Le = true
is_comparison b.Ge = true
is_comparison b.Eq = true
is_comparison b.Ne = true
is_comparison _ = false

abbrev pub result_of : BinaryOp → Fit → Derived → Derived → Derived
result_of op (fit.Integers i) s t = cond (is_comparison op) int (plain (base.Integer i) 0)
result_of op fit.PointerFirst s t = s
result_of op fit.PointerSecond s t = t
result_of op fit.Pointers s t = int
result_of op fit.Tests s t = int
