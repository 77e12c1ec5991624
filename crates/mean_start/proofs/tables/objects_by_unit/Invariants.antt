use Rattle.std.proofs.Common.{◌≡◌, ◌++◌, drop}
use Rattle.clight_sem.specs.Functions.{all_parts, objects_of, of_each}
use Rattle.mean_start.specs.Small.{AreSmall}
use Rattle.mean_start.proofs.tables.objects_by_unit.Given as goal

abbrev pub invariant-units : goal.invariant-units
invariant-units l = record {
  number : l.number ≡ l.unit-index;
  small : AreSmall (drop l.unit-index l.linkage.units.now);
  left : l.all ++ of_each (objects_of (all_parts l.linkage.units.now)) l.unit-index (drop l.unit-index l.linkage.units.now) ≡ of_each (objects_of (all_parts l.linkage.units.now)) 0 l.linkage.units.now;
}
