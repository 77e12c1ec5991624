use Rattle.std.proofs.Common.{◌≡◌, ℕ, List, take, drop}
use Rattle.cc_base.specs.Faces.{first_answer, all_defs, is_defined, doubled}
use Rattle.block_mem.specs.Start.{faces_of}
use Rattle.clight_sem.specs.Functions.{all_parts}
use Rattle.mean_start.specs.FaultsAt.{knows}
use Rattle.mean_start.specs.Small.{AreSmall}
use Rattle.mean_start.proofs.faults.first_doubled.Given as goal

abbrev pub invariant-units : goal.invariant-units
invariant-units l = record {
  number : l.number ≡ l.unit-index;
  small : AreSmall (drop l.unit-index l.units);
  known : (name : List ℕ) → knows l.known name ≡ is_defined (all_defs (take l.unit-index (faces_of (all_parts l.units)))) name;
  left : first_answer (doubled (faces_of (all_parts l.units))) l.unit-index (faces_of (all_parts (drop l.unit-index l.units))) ≡ first_answer (doubled (faces_of (all_parts l.units))) 0 (faces_of (all_parts l.units));
}
