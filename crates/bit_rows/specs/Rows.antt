-- Rows of bits.
use Rattle.std.specs.Prelude.{◌≡◌, ℕ, ◌≤◌, ◌<◌, Bool, true, false, cond, List, [], length, slice_index_or, Option, Some, None, eqb}

-- so many rows, each of so many bits
pub record Rows : Type 0 where
  pub width : ℕ
  pub rows : List (List Bool)

-- how many rows there are
abbrev pub height : Rows → ℕ
height v = length v.rows

-- whether the row has the bit; no row has a bit beyond the width
abbrev pub has : Rows → ℕ → ℕ → Bool
has v row bit = slice_index_or (slice_index_or v.rows row []) bit false

-- the bit is the one to be left out, if there is one
abbrev pub is_left_out : Option ℕ → ℕ → Bool
is_left_out None bit = false
is_left_out (Some but) bit = eqb bit but

-- the first bit of the row from a place on, or none
abbrev pub IsFirstFrom : Rows → ℕ → ℕ → Option ℕ → Type 0
IsFirstFrom v row from None = (k : ℕ) → from ≤ k → has v row k ≡ false
IsFirstFrom v row from (Some bit) = (from ≤ bit) × (has v row bit ≡ true) × ((k : ℕ) → from ≤ k → k < bit → has v row k ≡ false)
