use Rattle.std.proofs.Common.{◌≡◌}
use Rattle.std.specs.Ordering.{nat_cmp}
use Rattle.std.specs.Cmp.Lexicographic.{slice_cmp}
use Rattle.std.specs.FinMap.{get, from_entries, find}
use Rattle.std.specs.VecDeque.Iter.{deque_iter_rest}
use Rattle.cc_base.proofs.in_memory.find.Given as goal

abbrev pub invariant-loop-entry : goal.invariant-loop-entry
invariant-loop-entry l = get (from_entries {R = slice_cmp nat_cmp} l.log.items) l.name ≡ find (slice_cmp nat_cmp) l.name (deque_iter_rest l.entry-iterator)
