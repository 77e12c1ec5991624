use Rattle.std.proofs.Common.{◌≡◌, length}
use Rattle.index_chains.proofs.tests.moves_leave_the_lists.Given as goal

abbrev pub invariant-loop-step : goal.invariant-loop-step
invariant-loop-step g l = (length l.chains.lists ≡ 2) × (l.chains.nodes ≡ 4)
