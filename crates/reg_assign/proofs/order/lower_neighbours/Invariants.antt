use Rattle.std.proofs.Common.{◌≡◌, ◌≤◌, ◌<◌, ◌-◌, All, length}
use Rattle.reg_assign.specs.Rows.{IsSquare}
use Rattle.reg_assign.specs.Assignments.{HasOwnSlots}
use Rattle.reg_assign.proofs.order.lower_neighbours.Given as goal

abbrev pub invariant-loop-other : goal.invariant-loop-other
invariant-loop-other l =
    record {
      heads : length l.chains.lists ≡ 5;
      nodes : l.chains.nodes ≡ l.fn.chains.nodes;
      count : length l.degrees.items ≡ length l.fn.degrees.items;
    }

-- the bits that are left
abbrev pub decreases-loop-other : goal.decreases-loop-other
decreases-loop-other l = l.rows.width - l.from
