-- Names, literals, elements and members (C11, 6.5.1, 6.5.2.1 and 6.5.2.3).
use Rattle.std.specs.Prelude.{ℕ, Bool, cond, ◌==◌, List, Option, Some, None}
use Rattle.std.specs.Option.{option_map_or}
use Rattle.block_mem.specs.Arithmetic.{signed_byte}
use Rattle.typing_faults.specs.declared.fault.TypeKind.TheVariants as kind
use Rattle.typing_types.specs.Laid.{Laid}
use Rattle.typing_types.specs.declared.class.Class.{Class}
use Rattle.typing_types.specs.declared.class.Class.TheVariants as class
use Rattle.typing_types.specs.Types.{Derived, class_of}
use Rattle.typing_types.specs.Operators.{is_integer, pointed, int}
use Rattle.typing_scopes.specs.declared.entity.Entity.{Entity}
use Rattle.typing_scopes.specs.declared.entity.Entity.TheVariants as entity
use Rattle.typing_scopes.specs.declared.entity.Member.{Member}
use Rattle.typing_scopes.specs.Visible.{Visible}
use Rattle.typing_scopes.specs.Names.{member_of}
use Rattle.clight_unit.specs.declared.expression.Expression.TheVariants as expression
use Rattle.clight_unit.specs.declared.expression.Place.TheVariants as place
use Rattle.typing_expressions.specs.declared.node.Form.{Form}
use Rattle.typing_expressions.specs.declared.node.Form.TheVariants as form
use Rattle.typing_expressions.specs.declared.node.Node.{Node}
use Rattle.typing_expressions.specs.declared.node.TypedValue.{TypedValue}
use Rattle.typing_expressions.specs.declared.judgement.Judgement.{Judgement}
use Rattle.typing_expressions.specs.declared.judgement.Judgement.TheVariants as rule
use Rattle.typing_expressions.specs.Judgements.{broken, fits, gives}
use Rattle.typing_expressions.specs.Values.{of_value, of_values}
use Rattle.typing_expressions.specs.Conversions.{needed_size, size_fault, unsigned}

-- a name, by what it means. That of a function is no expression: it stands as a callee alone
abbrev pub named : ℕ → Option Entity → Judgement
named at None = broken kind.Unknown at
named at (Some (entity.Temporary n t)) = fits t (form.Temporary n)
named at (Some (entity.Local n t)) = fits t (form.Place (place.Local n))
named at (Some (entity.Object n t)) = fits t (form.Place (place.Object n))
named at (Some (entity.Function f)) = broken kind.Kind at

-- a number. One of value 0 is the literal 0
abbrev pub number_node : ℕ → Bool → Node
number_node value is_unsigned = record { ctype = cond is_unsigned unsigned int; is_null = value == 0; form = form.Value (expression.Constant value) }

abbrev pub number : ℕ → Bool → Judgement
number value is_unsigned = rule.Kept (number_node value is_unsigned)

-- a character is an `int`, of the value of its byte as `char`
abbrev pub character : ℕ → Judgement
character byte = gives int (expression.Constant (signed_byte byte))

-- `e[i]`: a pointer, an integer, and the size of an element is needed
abbrev pub element_of_size : List (Option Laid) → ℕ → TypedValue → TypedValue → Derived → Judgement
element_of_size structs at x i t =
    option_map_or (λ size. fits t (form.Place (place.Index size x.expression i.expression))) (needed_size structs t) (broken (size_fault structs t) at)

abbrev pub index_value : List (Option Laid) → ℕ → TypedValue → TypedValue → Judgement
index_value structs at x i =
    cond (is_integer i.operand.ctype) (option_map_or (element_of_size structs at x i) (pointed x.operand.ctype) (broken kind.Kind at)) (broken kind.Kind at)

abbrev pub index : List (Option Laid) → ℕ → Node → Node → Judgement
index structs at n m = of_values at (index_value structs at) n m

-- `e.m`, of a struct that is a part of a block
abbrev pub part_of : ℕ → Form → Member → Judgement
part_of at (form.Place p) m = fits m.ctype (form.Place (place.Member m.offset p))
part_of at f m = broken kind.Kind at

abbrev pub member_at : Visible → ℕ → List ℕ → Class → Form → Judgement
member_at scope at name (class.Struct tag) f = option_map_or (part_of at f) (member_of scope tag name) (broken kind.Unknown at)
member_at scope at name c f = broken kind.Kind at

abbrev pub member : Visible → ℕ → List ℕ → Node → Judgement
member scope at name n = member_at scope at name (class_of n.ctype) n.form

-- `e->m`, of a pointer to a struct
abbrev pub arrow_to : TypedValue → Member → Judgement
arrow_to x m = fits m.ctype (form.Place (place.Arrow m.offset x.expression))

abbrev pub arrow_at : Visible → ℕ → List ℕ → TypedValue → Class → Judgement
arrow_at scope at name x (class.Struct tag) = option_map_or (arrow_to x) (member_of scope tag name) (broken kind.Unknown at)
arrow_at scope at name x c = broken kind.Kind at

abbrev pub arrow_value : Visible → ℕ → List ℕ → TypedValue → Judgement
arrow_value scope at name x = option_map_or (λ t. arrow_at scope at name x (class_of t)) (pointed x.operand.ctype) (broken kind.Kind at)

abbrev pub arrow : Visible → ℕ → List ℕ → Node → Judgement
arrow scope at name n = of_value at (arrow_value scope at name) n
