use Rattle.std.proofs.Common.{◌≡◌, ℕ, ◌≤◌, ◌<◌, ◌/◌, false}
use Rattle.bit_rows.specs.Rows.{has}
use Rattle.bit_rows.proofs.rows.BitRows.first_from.Given as goal

-- no bit of the words so far is set from the place on
abbrev pub invariant-loop-index : goal.invariant-loop-index
invariant-loop-index l = (k : ℕ) → l.from ≤ k → k / 64 < l.index → has l.self l.row k ≡ false
