use Rattle.second_tests.proofs.runs.+call.Given as goal

abbrev pub decreases-call : goal.decreases-call
decreases-call l = l.depth
