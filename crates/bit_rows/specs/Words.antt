-- How rows of bits are kept: in words of 64 bits, those of one row behind those of the row before it.
use Rattle.std.specs.Prelude.{◌≡◌, ℕ, ◌+◌, ◌*◌, ◌/◌, ◌%◌, ◌^◌, ◌≤◌, ◌<◌, Bool, false, List, length, map, slice_index, nat_eq}
use Rattle.std.specs.Int.{bit_at}
use Rattle.std.specs.List.{range_with_len}

-- whether the word has a 1 at that place
abbrev pub is_one : ℕ → ℕ → Bool
is_one word place = nat_eq (bit_at word place) 1

-- whether the bit of that row is set
abbrev pub bit_in : List ℕ → ℕ → ℕ → ℕ → Bool
bit_in words row_words row bit = is_one (slice_index words (row * row_words + bit / 64)) (bit % 64)

unfoldable pub row_in : List ℕ → ℕ → ℕ → ℕ → List Bool
row_in words row_words width row = map (bit_in words row_words row) (range_with_len 0 width)

-- all rows
unfoldable pub rows_in : List ℕ → ℕ → ℕ → ℕ → List (List Bool)
rows_in words row_words width height = map (row_in words row_words width) (range_with_len 0 height)

-- there is a word for each 64 bits of a row, and no bit is set beyond the width
pub record Keeps (words : List ℕ) (row_words width height : ℕ) : Type 0 where
  pub all : length words ≡ height * row_words
  pub wide : width ≤ row_words * 64
  pub small : width ≤ 2 ^ 32
  pub few : row_words ≤ 2 ^ 26
  pub clean : (row bit : ℕ) → row < height → width ≤ bit → bit / 64 < row_words → bit_in words row_words row bit ≡ false
