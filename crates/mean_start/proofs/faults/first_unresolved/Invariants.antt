use Rattle.std.proofs.Common.{◌≡◌, drop}
use Rattle.cc_base.specs.Faces.{first_answer, unresolved}
use Rattle.block_mem.specs.Start.{faces_of}
use Rattle.clight_sem.specs.Functions.{all_parts}
use Rattle.mean_start.specs.Small.{AreSmall}
use Rattle.mean_start.proofs.faults.first_unresolved.Given as goal

abbrev pub invariant-units : goal.invariant-units
invariant-units l = record {
  number : l.number ≡ l.unit-index;
  small : AreSmall (drop l.unit-index l.linkage.units.now);
  left : first_answer (unresolved (faces_of (all_parts l.linkage.units.now))) l.unit-index (faces_of (all_parts (drop l.unit-index l.linkage.units.now))) ≡ first_answer (unresolved (faces_of (all_parts l.linkage.units.now))) 0 (faces_of (all_parts l.linkage.units.now));
}
