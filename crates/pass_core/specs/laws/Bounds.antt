-- Bounds go through a unit in the middle.
use Rattle.std.specs.Prelude.{◌≤◌, ℕ}
use Rattle.std.proofs.Common.{arith}

pub le_both : {a b c : ℕ} → a ≤ b → b ≤ c → a ≤ c
le_both h k = omega arith
