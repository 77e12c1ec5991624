-- Where the parts of an object stand, when each begins at or behind the end of the one before it (C11, 6.7.9, 19 and 21).
use Rattle.std.specs.Prelude.{ℕ, ◌+◌, ◌-◌, ◌%◌, ◌≤◌, ◌≡◌, Bool, cond, ◌&&◌, nat_le, nat_lt, List, [], ◌∷◌, length, slice_index}
use Rattle.typing_initialisers.specs.declared.data.Pointed.{Pointed}
use Rattle.typing_initialisers.specs.Data.{Part, Bytes, Pointer}

abbrev pub start_of : Part → ℕ
start_of (Bytes at bytes) = at
start_of (Pointer at to) = at

-- the four bytes of a pointer are told apart from the others, and are zero here
abbrev pub bytes_of : Part → List ℕ
bytes_of (Bytes at bytes) = bytes
bytes_of (Pointer at to) = 0 ∷ 0 ∷ 0 ∷ 0 ∷ []

abbrev pub end_of : Part → ℕ
end_of p = start_of p + length (bytes_of p)

-- all stand from one place on and up to another, in order
abbrev pub Within : ℕ → ℕ → List Part → Type 0
Within from to [] = from ≤ to
Within from to (p ∷ ps) = (from ≤ start_of p) × Within (end_of p) to ps

abbrev pub covers : Part → ℕ → Bool
covers p i = nat_le (start_of p) i && nat_lt i (end_of p)

-- the byte that the parts give at a place, and zero where none gives one
abbrev pub byte_in : List Part → ℕ → ℕ
byte_in [] i = 0
byte_in (p ∷ ps) i = cond (covers p i) (slice_index (bytes_of p) (i - start_of p)) (byte_in ps i)

-- the words that the parts give as pointers
abbrev pub words_in : List Part → List Pointed
words_in [] = []
words_in (Bytes at bytes ∷ ps) = words_in ps
words_in (Pointer at to ∷ ps) = record { offset = at; to = to } ∷ words_in ps

-- pointers stand at multiples of four
abbrev pub AtFours : List Part → Type 0
AtFours [] = Unit
AtFours (Bytes at bytes ∷ ps) = AtFours ps
AtFours (Pointer at to ∷ ps) = (at % 4 ≡ 0) × AtFours ps
