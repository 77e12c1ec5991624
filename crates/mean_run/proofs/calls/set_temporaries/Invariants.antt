use Rattle.std.proofs.Common.{◌≡◌, Some, map, take}
use Rattle.mean_run.proofs.calls.set_temporaries.Given as goal

abbrev pub invariant-arguments : goal.invariant-arguments
invariant-arguments l = l.temporaries ≡ map Some (take l.argument-index l.arguments)
