-- Sizes and alignments of types (System V ABI, i386 supplement).
use Rattle.std.specs.Prelude.{ℕ, ◌*◌, zero, suc, ◌≡◌, ◌⊎◌, ◌<◌, ◌≤◌, Bool, true, ◌&&◌, List, [], ◌∷◌, Option, Some, None, is_none}
use Rattle.std.specs.Option.{option_map}
use Rattle.typing_types.specs.Laid.{Laid}
use Rattle.typing_types.specs.declared.layout.Size.{Size}
use Rattle.typing_types.specs.declared.layout.Size.TheVariants as size
use Rattle.typing_types.specs.Types.{Derived, is_of_structs, is_empty_among}
use Rattle.typing_types.specs.Widths.{largest}
use Rattle.typing_types.specs.Structs.{base_size, base_align}

-- a pointer has four bytes and stands at a multiple of four
abbrev pub starred : ℕ → Option ℕ → Option ℕ
starred zero n = n
starred (suc k) n = Some 4

-- how many elements these lengths make in all
abbrev pub count_of : List (Option ℕ) → Option ℕ
count_of [] = Some 1
count_of (None ∷ ls) = None
count_of (Some n ∷ ls) = option_map (λ m. n * m) (count_of ls)

abbrev pub times : Option ℕ → Option ℕ → Option ℕ
times (Some n) (Some m) = Some (n * m)
times (Some n) None = None
times None m = None

-- the size of a type in bytes, however great; none of `void`, of an array of unknown length, and of a struct whose
-- definition has not ended
abbrev pub size_of : List (Option Laid) → Derived → Option ℕ
size_of structs t = starred t.pointers (times (count_of t.lengths) (starred t.stars (base_size structs t.base)))

-- an array stands where its elements do
abbrev pub align_of : List (Option Laid) → Derived → Option ℕ
align_of structs t = starred t.pointers (starred t.stars (base_align structs t.base))

-- a struct whose definition has not ended, or an array of it: what its size is waits for the end of that definition
abbrev pub is_unfinished : List (Option Laid) → Derived → Bool
is_unfinished structs t = is_of_structs t && is_none (align_of structs t)

-- a size as it is told: as a number, or that a part of it is past the greatest, and so is it, but where a length is 0
abbrev pub IsSize : List (Option Laid) → Derived → Size → Type 0
IsSize structs t (size.Known n) = (size_of structs t ≡ Some n) × (n ≤ largest)
IsSize structs t size.TooLarge = (n : ℕ) × (size_of structs t ≡ Some n) × ((largest < n) ⊎ (is_empty_among t.lengths ≡ true))
IsSize structs t size.Unknown = size_of structs t ≡ None
