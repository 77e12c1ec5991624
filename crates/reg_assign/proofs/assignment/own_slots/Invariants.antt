use Rattle.std.proofs.Common.{◌≡◌, ◌≤◌, ◌<◌, ◌-◌, All, length}
use Rattle.reg_assign.specs.Rows.{IsSquare}
use Rattle.reg_assign.specs.Assignments.{HasOwnSlots}
use Rattle.reg_assign.proofs.assignment.own_slots.Given as goal

abbrev pub invariant-loop-temporary : goal.invariant-loop-temporary
invariant-loop-temporary l =
    record {
      count : length l.homes ≡ l.temporary;
      own : HasOwnSlots l.homes;
    }
