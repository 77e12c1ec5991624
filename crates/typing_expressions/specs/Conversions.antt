-- Sizes that are needed, casts and `sizeof` (C11, 6.5.3.4, 6.5.4 and 6.7.7).
use Rattle.std.specs.Prelude.{ℕ, cond, ◌&&◌, nat_lt, nat_le, List, Option, Some, None}
use Rattle.std.specs.Option.{option_map_or, option_and_then}
use Rattle.typing_faults.specs.declared.fault.TypeKind.{TypeKind}
use Rattle.typing_faults.specs.declared.fault.TypeKind.TheVariants as kind
use Rattle.text_grammar.specs.declared.tree.TypeName.{TypeName}
use Rattle.typing_types.specs.Laid.{Laid}
use Rattle.typing_types.specs.declared.class.Integer.TheVariants as integer
use Rattle.typing_types.specs.declared.class.Base.TheVariants as base
use Rattle.typing_types.specs.Types.{Derived, plain}
use Rattle.typing_types.specs.Sizes.{size_of, is_unfinished}
use Rattle.typing_types.specs.Widths.{largest}
use Rattle.typing_types.specs.Conversions.{casts}
use Rattle.typing_types.specs.Meant.{conversion_to}
use Rattle.typing_scopes.specs.Visible.{Visible}
use Rattle.typing_scopes.specs.Names.{plain_of}
use Rattle.clight_unit.specs.declared.expression.Expression.TheVariants as expression
use Rattle.typing_expressions.specs.declared.node.Node.{Node}
use Rattle.typing_expressions.specs.declared.node.TypedValue.{TypedValue}
use Rattle.typing_expressions.specs.declared.judgement.Judgement.{Judgement}
use Rattle.typing_expressions.specs.Judgements.{broken, gives}
use Rattle.typing_expressions.specs.Values.{of_value}

-- Sizes. An object, or an element that a pointer moves over, has 1 to 8,388,608 bytes; in a unit that breaks no rule every type
-- that has a size has such a one, so the other sizes need no row of their own.

abbrev pub within : ℕ → Option ℕ
within n = cond (nat_lt 0 n && nat_le n largest) (Some n) None

abbrev pub needed_size : List (Option Laid) → Derived → Option ℕ
needed_size structs t = option_and_then within (size_of structs t)

-- which rule is broken where a size is needed that is not known: Unknown for such a struct, Kind for `void` and for an array of
-- unknown length
abbrev pub size_fault : List (Option Laid) → Derived → TypeKind
size_fault structs t = cond (is_unfinished structs t) kind.Unknown kind.Kind

-- `unsigned`, the type of a size by this project's own choice
abbrev pub unsigned : Derived
unsigned = plain (base.Integer integer.UnsignedInt) 0

-- the size of a type, at a place. Where it is not known, the place is another one for a struct's tag
abbrev pub measured : List (Option Laid) → ℕ → ℕ → Derived → Judgement
measured structs tag_at at t =
    option_map_or (λ n. gives unsigned (expression.Constant n)) (needed_size structs t)
    (broken (size_fault structs t) (cond (is_unfinished structs t) tag_at at))

-- `sizeof` of a type: the place of a struct's tag is that of the last token of what the type begins with
abbrev pub sizeof_type : Visible → ℕ → TypeName → Judgement
sizeof_type scope at name = measured scope.layouts name.base.at at (plain_of scope name.base name.stars)

-- `sizeof` of an expression, whose type is asked for and not its value: an array is whole
abbrev pub sizeof : Visible → ℕ → Node → Judgement
sizeof scope at n = measured scope.layouts at at n.ctype

-- a cast
abbrev pub cast_value : ℕ → Derived → TypedValue → Judgement
cast_value at to x = cond (casts to x.operand) (gives to (expression.Unary (conversion_to to) x.expression)) (broken kind.Kind at)

abbrev pub cast : Visible → ℕ → TypeName → Node → Judgement
cast scope at name = of_value at (cast_value at (plain_of scope name.base name.stars))
