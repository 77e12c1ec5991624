-- The size and alignment of a struct, or of what stands in it so far, in bytes.
use Rattle.std.specs.Prelude.{ℕ}

pub record Laid : Type 0 where
  pub size : ℕ
  pub align : ℕ

abbrev pub laid : ℕ → ℕ → Laid
laid size align = record { size = size; align = align }
