-- What a declarator says, and the rules for the types of objects (C11, 6.7.6 and 6.2.5).
use Rattle.std.specs.Prelude.{ℕ, Bool, true, false, not, cond, nat_lt, nat_le, ◌&&◌, ◌||◌, Option, Some, None}
use Rattle.std.specs.Option.{option_map, option_and_then}
use Rattle.text_grammar.specs.declared.tree.Base.{Base}
use Rattle.text_grammar.specs.declared.tree.Declarator.{Declarator}
use Rattle.typing_types.specs.declared.class.Class.{Class}
use Rattle.typing_types.specs.declared.class.Class.TheVariants as class
use Rattle.typing_types.specs.Types.{Derived, declared, class_of, is_of_void, is_empty_among}
use Rattle.typing_types.specs.Laid.{Laid, laid}
use Rattle.typing_types.specs.Widths.{largest}
use Rattle.typing_types.specs.Sizes.{size_of, align_of}
use Rattle.typing_scopes.specs.Visible.{Visible}
use Rattle.typing_scopes.specs.Names.{base_of}

-- stars before the name, and lengths behind it
abbrev pub type_of : Visible → Base → Declarator → Derived
type_of scope base d = declared (base_of scope base.kind) d.stars d.is_open d.lengths

-- `void` or an array of it, or an array of length 0
abbrev pub is_unfit : Derived → Bool
is_unfit t = is_of_void t || is_empty_among t.lengths

abbrev pub is_aggregate_at : Class → Bool
is_aggregate_at class.Array = true
is_aggregate_at (class.Struct tag) = true
is_aggregate_at _ = false

-- an array or a struct
abbrev pub is_aggregate : Derived → Bool
is_aggregate t = is_aggregate_at (class_of t)

abbrev pub is_past : Option ℕ → Bool
is_past None = false
is_past (Some n) = nat_lt largest n

abbrev pub within : Option ℕ → Option ℕ
within None = None
within (Some n) = cond (nat_le n largest) (Some n) None

-- its size is past the greatest
abbrev pub is_large : Visible → Derived → Bool
is_large scope t = not (is_empty_among t.lengths) && is_past (size_of scope.layouts t)

-- its size, where it has one and that is not past the greatest
abbrev pub declared_size : Visible → Derived → Option ℕ
declared_size scope t = cond (is_empty_among t.lengths) None (within (size_of scope.layouts t))

-- the same with its alignment
abbrev pub laid_of : Visible → Derived → Option Laid
laid_of scope t = option_and_then (λ n. option_map (λ a. laid n a) (align_of scope.layouts t)) (declared_size scope t)
