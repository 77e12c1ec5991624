-- When two types are one (C11, 6.2.7, of the subset): structs by their tags, arrays by their lengths.
use Rattle.std.specs.Prelude.{ℕ, ◌≡◌, ◌==◌, Bool, true, false, ◌&&◌, ◌||◌, List, [], ◌∷◌, Option, Some, None}
use Rattle.typing_types.specs.declared.class.Integer.{Integer}
use Rattle.typing_types.specs.declared.class.Integer.TheVariants as integer
use Rattle.typing_types.specs.declared.class.Base.{Base}
use Rattle.typing_types.specs.declared.class.Base.TheVariants as base
use Rattle.typing_types.specs.Types.{Derived}

abbrev pub same_integer : Integer → Integer → Bool
same_integer integer.Char integer.Char = true
same_integer integer.UnsignedChar integer.UnsignedChar = true
same_integer integer.Int integer.Int = true
same_integer integer.UnsignedInt integer.UnsignedInt = true
same_integer i j = false

abbrev pub same_base : Base → Base → Bool
same_base (base.Integer i) (base.Integer j) = same_integer i j
same_base base.Void base.Void = true
same_base (base.Struct s) (base.Struct t) = s == t
same_base a b = false

abbrev pub same_length : Option ℕ → Option ℕ → Bool
same_length None None = true
same_length (Some n) (Some m) = n == m
same_length a b = false

abbrev pub same_lengths : List (Option ℕ) → List (Option ℕ) → Bool
same_lengths [] [] = true
same_lengths (l ∷ ls) (m ∷ ms) = same_length l m && same_lengths ls ms
same_lengths ls ms = false

abbrev pub same_type : Derived → Derived → Bool
same_type a b = same_base a.base b.base && a.stars == b.stars && a.pointers == b.pointers && same_lengths a.lengths b.lengths

-- declarations of one name agree where their types are one, but that an unknown length agrees with any
abbrev pub agreeing_length : Option ℕ → Option ℕ → Bool
agreeing_length (Some n) (Some m) = n == m
agreeing_length a b = true

abbrev pub agreeing_lengths : List (Option ℕ) → List (Option ℕ) → Bool
agreeing_lengths [] [] = true
agreeing_lengths (l ∷ ls) (m ∷ ms) = agreeing_length l m && same_lengths ls ms
agreeing_lengths ls ms = false

abbrev pub agrees : Derived → Derived → Bool
agrees a b = same_base a.base b.base && a.stars == b.stars && a.pointers == b.pointers && agreeing_lengths a.lengths b.lengths
