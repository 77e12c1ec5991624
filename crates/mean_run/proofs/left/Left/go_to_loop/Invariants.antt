use Rattle.std.proofs.Common.{◌≡◌, ◌≤◌, length, vec_len}
use Rattle.clight_sem.specs.States.{from_loop}
use Rattle.mean_run.specs.Lefts.{left_of}
use Rattle.mean_run.proofs.left.Left.go_to_loop.Given as goal

abbrev pub invariant-entries : goal.invariant-entries
invariant-entries l = record {
  none : length l.self.current.now ≤ l.self.next;
  held : from_loop (left_of l.self.held.items) ≡ from_loop (left_of l.initial.self.held.items);
}

abbrev pub decreases-entries : goal.decreases-entries
decreases-entries l = vec_len l.self.held
