use Rattle.std.proofs.Common.{◌+◌, ap, sym, ◌∙◌}
use Rattle.cc_base.specs.Faces.{doubled}
use Rattle.block_mem.specs.Start.{faces_of}
use Rattle.clight_sem.specs.Functions.{all_parts}
use Rattle.mean_start.specs.FaultsAt.{knows, doubled_after}
use Rattle.mean_start.proofs.Lists.{small_tail, faces_answered, faces_passed}
use Rattle.mean_start.proofs.ByName.{doubled_same, unit_more}
use Rattle.mean_start.proofs.faults.first_doubled.Goals as goal

pub returns-in-Some : goal.returns-in-Some
returns-in-Some c =
    let us = c.args.units.now in let faces = faces_of (all_parts us) in
    let i = c.units.unit-index in let u = c.unit-item.result in
    let asks = c.in_ok-fault.ensures.fault ∙ ap (λ k. doubled_after (knows c.units.known) k u.face.defs) c.units.invariant.number ∙ doubled_same (knows c.units.known) faces i u.face c.units.invariant.known in
    faces_answered (doubled faces) us i u c.in-Some.fault c.units-test.true c.unit-item.is (sym c.in-Some.is ∙ asks) ∙ c.units.invariant.left

pub units-preserved : goal.units-preserved
units-preserved c =
    let us = c.args.units.now in let faces = faces_of (all_parts us) in
    let i = c.units.unit-index in let u = c.unit-item.result in
    let asks = c.in_ok-fault.ensures.fault ∙ ap (λ k. doubled_after (knows c.units.known) k u.face.defs) c.units.invariant.number ∙ doubled_same (knows c.units.known) faces i u.face c.units.invariant.known in
    record {
      number = ap (λ k. k + 1) c.units.invariant.number;
      small = small_tail us i u c.units-test.true c.unit-item.is c.units.invariant.small;
      known = unit_more us i u (knows c.units.known) (knows c.doubled.new.known) c.units-test.true c.unit-item.is c.units.invariant.known (c.in_ok-fault.ensures.knows c.in_default.is);
      left = faces_passed (doubled faces) us i u c.units-test.true c.unit-item.is (sym c.in_default.is ∙ asks) ∙ c.units.invariant.left;
    }
