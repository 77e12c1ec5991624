use Rattle.std.proofs.Common.{◌≡◌, drop}
use Rattle.cc_base.specs.Faces.{first_answer}
use Rattle.block_mem.specs.Start.{faces_of}
use Rattle.clight_sem.specs.Functions.{all_parts}
use Rattle.mean_start.specs.FaultsAt.{unresolved_at}
use Rattle.mean_start.proofs.faults.unresolved.Given as goal

abbrev pub invariant-uses : goal.invariant-uses
invariant-uses l = record {
  index : l.index ≡ l.wanted-index;
  left : first_answer (unresolved_at (faces_of (all_parts l.linkage.units.now)) l.number) l.wanted-index (drop l.wanted-index l.uses) ≡ first_answer (unresolved_at (faces_of (all_parts l.linkage.units.now)) l.number) 0 l.uses;
}
