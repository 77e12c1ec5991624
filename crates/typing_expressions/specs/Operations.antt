-- Operators (C11, 6.5.3 and 6.5.5 to 6.5.14, of the subset).
use Rattle.std.specs.Prelude.{ℕ, cond, List, Option}
use Rattle.std.specs.Option.{option_map_or}
use Rattle.block_mem.specs.declared.operator.Op.{Op}
use Rattle.block_mem.specs.declared.operator.Op.TheVariants as op
use Rattle.typing_faults.specs.declared.fault.TypeKind.TheVariants as kind
use Rattle.text_grammar.specs.declared.tree.UnaryOp.{UnaryOp}
use Rattle.text_grammar.specs.declared.tree.UnaryOp.TheVariants as u
use Rattle.text_grammar.specs.declared.tree.BinaryOp.{BinaryOp}
use Rattle.text_grammar.specs.declared.tree.BinaryOp.TheVariants as b
use Rattle.typing_types.specs.Laid.{Laid}
use Rattle.typing_types.specs.declared.class.Integer.{Integer}
use Rattle.typing_types.specs.declared.operator.Fit.{Fit}
use Rattle.typing_types.specs.declared.operator.Fit.TheVariants as fit
use Rattle.typing_types.specs.Types.{Derived, pointer_to, element_of}
use Rattle.typing_types.specs.Operators.{is_scalar, negated, pointed, fit_of, result_of, int}
use Rattle.typing_types.specs.Meant.{on_integers, on_pointer, compared_pointers, not_of, test_of}
use Rattle.clight_unit.specs.declared.expression.Expression.{Expression}
use Rattle.clight_unit.specs.declared.expression.Expression.TheVariants as expression
use Rattle.clight_unit.specs.declared.expression.Place.TheVariants as place
use Rattle.clight_unit.specs.declared.expression.Test.{Test}
use Rattle.typing_expressions.specs.declared.node.Form.{Form}
use Rattle.typing_expressions.specs.declared.node.Form.TheVariants as form
use Rattle.typing_expressions.specs.declared.node.Node.{Node}
use Rattle.typing_expressions.specs.declared.node.TypedValue.{TypedValue}
use Rattle.typing_expressions.specs.declared.judgement.Judgement.{Judgement}
use Rattle.typing_expressions.specs.Judgements.{broken, fits, gives}
use Rattle.typing_expressions.specs.Values.{of_value, of_values}
use Rattle.typing_expressions.specs.Conversions.{needed_size, size_fault}

-- Operators with one operand.

-- `-` and `~`
abbrev pub signed_value : ℕ → Op → TypedValue → Judgement
signed_value at o x = option_map_or (λ t. gives t (expression.Unary o x.expression)) (negated x.operand.ctype) (broken kind.Kind at)

-- `!`
abbrev pub not_value : ℕ → TypedValue → Judgement
not_value at x = cond (is_scalar x.operand.ctype) (gives int (expression.Unary (not_of x.operand.ctype) x.expression)) (broken kind.Kind at)

-- `*`
abbrev pub pointed_place : ℕ → TypedValue → Judgement
pointed_place at x = option_map_or (λ t. fits t (form.Place (place.Deref x.expression))) (pointed x.operand.ctype) (broken kind.Kind at)

-- `&` stands on a part of a block: on no value, and on no parameter or `register` local
abbrev pub address_at : ℕ → Form → Derived → Judgement
address_at at (form.Place p) t = gives (pointer_to t) (expression.Address p)
address_at at (form.Value x) t = broken kind.NotPlace at
address_at at (form.Temporary n) t = broken kind.NotPlace at

abbrev pub address : ℕ → Node → Judgement
address at n = address_at at n.form n.ctype

-- the others take a value, which is no part of a block
abbrev pub unary_value : ℕ → UnaryOp → TypedValue → Judgement
unary_value at u.Neg x = signed_value at op.Neg x
unary_value at u.Flip x = signed_value at op.Flip x
unary_value at u.Not x = not_value at x
unary_value at u.Deref x = pointed_place at x
unary_value at u.Address x = broken kind.NotPlace at

abbrev pub unary : ℕ → UnaryOp → Node → Judgement
unary at u.Address n = address at n
unary at o n = of_value at (unary_value at o) n

-- Operators with two operands.

abbrev pub integers_value : ℕ → BinaryOp → Integer → TypedValue → TypedValue → Judgement
integers_value at o i x y =
    option_map_or (λ meant. gives (result_of o (fit.Integers i) x.operand.ctype y.operand.ctype) (expression.Binary meant x.expression y.expression))
    (on_integers o i) (broken kind.Kind at)

-- a pointer that is moved by a number of its elements, whose size is needed
abbrev pub moved_by : ℕ → BinaryOp → TypedValue → TypedValue → ℕ → Judgement
moved_by at o x y size =
    option_map_or (λ meant. gives x.operand.ctype (expression.Binary meant x.expression y.expression)) (on_pointer o size) (broken kind.Kind at)

abbrev pub moved_over : List (Option Laid) → ℕ → BinaryOp → TypedValue → TypedValue → Derived → Judgement
moved_over structs at o x y t = option_map_or (moved_by at o x y) (needed_size structs t) (broken (size_fault structs t) at)

abbrev pub moved_value : List (Option Laid) → ℕ → BinaryOp → TypedValue → TypedValue → Judgement
moved_value structs at o x y = option_map_or (moved_over structs at o x y) (element_of x.operand.ctype) (broken kind.Kind at)

-- how many elements lie between two pointers
abbrev pub between_over : List (Option Laid) → ℕ → TypedValue → TypedValue → Derived → Judgement
between_over structs at x y t =
    option_map_or (λ size. gives int (expression.Binary (op.PtrDiff size) x.expression y.expression)) (needed_size structs t) (broken (size_fault structs t) at)

abbrev pub between : List (Option Laid) → ℕ → TypedValue → TypedValue → Judgement
between structs at x y = option_map_or (between_over structs at x y) (element_of x.operand.ctype) (broken kind.Kind at)

abbrev pub compared_value : ℕ → BinaryOp → TypedValue → TypedValue → Judgement
compared_value at o x y = option_map_or (λ meant. gives int (expression.Binary meant x.expression y.expression)) (compared_pointers o) (broken kind.Kind at)

abbrev pub pointers_value : List (Option Laid) → ℕ → BinaryOp → TypedValue → TypedValue → Judgement
pointers_value structs at b.Sub x y = between structs at x y
pointers_value structs at o x y = compared_value at o x y

-- a value as a condition
abbrev pub test_on : TypedValue → Test
test_on x = record { differs = test_of x.operand.ctype; value = x.expression }

-- `&&`, and else `||`
abbrev pub joined : BinaryOp → Test → Test → Expression
joined b.AndAnd x y = expression.Both x y
joined o x y = expression.Either x y

abbrev pub tests_value : BinaryOp → TypedValue → TypedValue → Judgement
tests_value o x y = gives int (joined o (test_on x) (test_on y))

-- by how the operator takes its operands; where a pointer is moved it stands at the left
abbrev pub fitted : List (Option Laid) → ℕ → BinaryOp → TypedValue → TypedValue → Fit → Judgement
fitted structs at o x y (fit.Integers i) = integers_value at o i x y
fitted structs at o x y fit.PointerFirst = moved_value structs at o x y
fitted structs at o x y fit.PointerSecond = moved_value structs at o y x
fitted structs at o x y fit.Pointers = pointers_value structs at o x y
fitted structs at o x y fit.Tests = tests_value o x y

abbrev pub binary_value : List (Option Laid) → ℕ → BinaryOp → TypedValue → TypedValue → Judgement
binary_value structs at o x y = option_map_or (fitted structs at o x y) (fit_of o x.operand y.operand) (broken kind.Kind at)

abbrev pub binary : List (Option Laid) → ℕ → BinaryOp → Node → Node → Judgement
binary structs at o n m = of_values at (binary_value structs at o) n m
