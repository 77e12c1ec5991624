use Rattle.std.proofs.Common.{◌≡◌, ◌≤◌, length, vec_len}
use Rattle.mean_run.specs.Lefts.{left_of}
use Rattle.mean_run.proofs.left.Left.take.Given as goal

-- nothing is left of the current statements, and what is held is all that is left
abbrev pub invariant-entries : goal.invariant-entries
invariant-entries l = record {
  none : length l.self.current.now ≤ l.self.next;
  held : left_of l.self.held.items ≡ left_of l.initial.self.held.items;
}

abbrev pub decreases-entries : goal.decreases-entries
decreases-entries l = vec_len l.self.held
