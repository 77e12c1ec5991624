-- The size of the rows of neighbours.
use Rattle.std.specs.Prelude.{◌≡◌, ℕ, ◌≤◌, ◌^◌}
use Rattle.bit_rows.specs.Rows.{Rows, height}

-- a row for each of so many temporaries, and a bit in it for each of them
pub record IsSquare (rows : Rows) (count : ℕ) : Type 0 where
  pub high : height rows ≡ count
  pub wide : rows.width ≡ count
  pub small : count ≤ 2 ^ 13
