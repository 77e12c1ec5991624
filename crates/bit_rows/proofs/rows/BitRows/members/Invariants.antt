use Rattle.std.proofs.Common.{◌≡◌, ℕ, ◌≤◌, ◌<◌, ◌-◌, ◌↔◌, true}
use Rattle.std.specs.List.{Contains}
use Rattle.std.specs.List.Sorted.{IsStrictlyIncreasing}
use Rattle.bit_rows.specs.Rows.{has}
use Rattle.bit_rows.proofs.rows.BitRows.members.Given as goal

-- the bits below `from` are taken
abbrev pub invariant-loop-bit : goal.invariant-loop-bit
invariant-loop-bit l =
    record {
      within : l.from ≤ l.self.width;
      taken : (k : ℕ) → Contains l.members.items k ↔ ((k < l.from) × (has l.self l.row k ≡ true));
      rising : IsStrictlyIncreasing l.members.items;
    }

abbrev pub decreases-loop-bit : goal.decreases-loop-bit
decreases-loop-bit l = l.self.width - l.from
