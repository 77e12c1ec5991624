-- Widths of integers (System V ABI, i386 supplement), the greatest size, and products of lengths.
use Rattle.std.specs.Prelude.{ℕ, ◌≡◌, ◌⊎◌, ◌*◌, ◌<◌, ◌==◌, Bool, true, List, [], ◌∷◌}
use Rattle.std.specs.List.{list_any}
use Rattle.text_grammar.specs.declared.tree.Number.{Number}
use Rattle.typing_types.specs.declared.class.Integer.{Integer}
use Rattle.typing_types.specs.declared.class.Integer.TheVariants as integer

-- the greatest size of an object, of an array's element and of a struct
abbrev pub largest : ℕ
largest = 8388608

-- a byte or four
abbrev pub width_of : Integer → ℕ
width_of integer.Char = 1
width_of integer.UnsignedChar = 1
width_of integer.Int = 4
width_of integer.UnsignedInt = 4

-- a size times all these lengths
abbrev pub scaled : ℕ → List Number → ℕ
scaled size [] = size
scaled size (n ∷ ns) = scaled (size * n.value) ns

-- whether one of these lengths is 0
abbrev pub has_zero : List Number → Bool
has_zero ns = list_any (λ (n : Number). n.value == 0) ns

-- a size times all these lengths is past the greatest size, or a length is 0
abbrev pub IsPast : ℕ → List Number → Type 0
IsPast size ns = (largest < scaled size ns) ⊎ (has_zero ns ≡ true)
