use Rattle.std.proofs.Common.{◌≡◌, ◌≤◌, ◌<◌, ◌-◌, All, length}
use Rattle.reg_assign.specs.Rows.{IsSquare}
use Rattle.reg_assign.specs.Assignments.{HasOwnSlots}
use Rattle.reg_assign.proofs.order.chains_of.Given as goal

abbrev pub invariant-loop-node : goal.invariant-loop-node
invariant-loop-node l =
    record {
      heads : length l.chains.lists ≡ 5;
      nodes : l.chains.nodes ≡ length l.degrees;
    }
