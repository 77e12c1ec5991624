-- What stands at a place of a file, and numbers as bytes, the lowest first (gABI, chapter 4, data representation).
use Rattle.std.specs.Prelude.{◌≡◌, ℕ, ◌+◌, ◌*◌, List, [], ◌∷◌, length, take, drop, slice_index}
use Rattle.std.specs.List.{flat_map}
use Rattle.cc_base.specs.Words.{word_bytes, byte_of, join}

-- the bytes of these words, one after the other
abbrev pub words_bytes : List ℕ → List ℕ
words_bytes words = flat_map word_bytes words

-- the two bytes of a number of 16 bits
abbrev pub half_bytes : ℕ → List ℕ
half_bytes half = byte_of half 0 ∷ byte_of half 1 ∷ []

-- the word of 32 bits and the number of 16 bits at a place of a file
abbrev pub word_at : List ℕ → ℕ → ℕ
word_at file at = join (slice_index file at) (slice_index file (at + 1)) (slice_index file (at + 2)) (slice_index file (at + 3))

abbrev pub half_at : List ℕ → ℕ → ℕ
half_at file at = slice_index file at + 256 * slice_index file (at + 1)

-- these bytes stand in the file from this place on
pub record Stands (file : List ℕ) (at : ℕ) (bytes : List ℕ) : Type 0 where
  pub are : take (length bytes) (drop at file) ≡ bytes
