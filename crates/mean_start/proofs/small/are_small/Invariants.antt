use Rattle.std.proofs.Common.{drop}
use Rattle.mean_start.specs.Small.{AreSmall}
use Rattle.mean_start.proofs.small.are_small.Given as goal

abbrev pub invariant-units : goal.invariant-units
invariant-units l = (AreSmall (drop l.unit-index l.units) → AreSmall l.units) × (AreSmall l.units → AreSmall (drop l.unit-index l.units))
