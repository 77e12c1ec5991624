use Rattle.std.proofs.Common.{◌≡◌, drop}
use Rattle.mean_start.specs.Noted.{AllLack}
use Rattle.mean_start.specs.Small.{AreSmall}
use Rattle.mean_start.proofs.linkage.linkage_of.Given as goal

abbrev pub invariant-units : goal.invariant-units
invariant-units l = record {
  number : l.number ≡ l.unit-index;
  all : AreSmall l.units;
  small : AreSmall (drop l.unit-index l.units);
  units : l.linkage.units.now ≡ l.units;
  left : AllLack l.linkage l.unit-index (drop l.unit-index l.units) l.units;
}
