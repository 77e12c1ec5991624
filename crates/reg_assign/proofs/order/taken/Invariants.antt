use Rattle.std.proofs.Common.{◌≡◌, ◌≤◌, ◌<◌, ◌-◌, All, length}
use Rattle.reg_assign.specs.Rows.{IsSquare}
use Rattle.reg_assign.specs.Assignments.{HasOwnSlots}
use Rattle.reg_assign.proofs.order.taken.Given as goal

abbrev pub invariant-loop : goal.invariant-loop
invariant-loop l =
    record {
      heads : length l.chains.lists ≡ 5;
      nodes : l.chains.nodes ≡ length l.meetings.degrees.items;
      square : IsSquare l.meetings.rows (length l.meetings.degrees.items);
      count : length l.meetings.degrees.items ≡ length l.fn.meetings.degrees.items;
      in_range : All (λ node. node < length l.meetings.degrees.items) l.order.items;
    }
