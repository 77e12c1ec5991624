use Rattle.std.proofs.Common.{◌≡◌, ◌≤◌, ◌<◌, ◌-◌, All, length}
use Rattle.reg_assign.specs.Rows.{IsSquare}
use Rattle.reg_assign.specs.Assignments.{HasOwnSlots}
use Rattle.reg_assign.proofs.meetings.meetings_of.Given as goal

abbrev pub invariant-loop-place : goal.invariant-loop-place
invariant-loop-place l =
    record {
      square : IsSquare l.rows (length l.degrees.items);
      count : length l.degrees.items ≡ l.count;
    }
