use Rattle.std.proofs.Common.{◌≡◌, ◌-◌}
use Rattle.mean_start.specs.Making.{with_block}
use Rattle.mean_start.proofs.Making.{padded, so_far}
use Rattle.mean_start.proofs.memory.make_filled.Given as goal

-- the bytes before the place are there
abbrev pub invariant-places : goal.invariant-places
invariant-places l = l.memory ≡ with_block l.fn.memory l.name (so_far (padded l.bytes l.size) l.place (l.size - l.place)) l.writable
