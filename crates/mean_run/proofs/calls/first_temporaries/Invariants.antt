use Rattle.std.proofs.Common.{◌≡◌, ◌++◌, Some, None, map, replicate}
use Rattle.mean_run.proofs.calls.first_temporaries.Given as goal

abbrev pub invariant-registers : goal.invariant-registers
invariant-registers l = l.temporaries ≡ map Some l.arguments ++ replicate l._register None
