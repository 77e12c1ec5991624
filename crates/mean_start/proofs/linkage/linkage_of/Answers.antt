use Rattle.std.proofs.Common.{◌+◌, List, ap, subst, ◌∙◌, arith}
use denote.Ref.{Bor}
use Rattle.clight_unit.specs.declared.unit.ClightUnit.{ClightUnit as TypedUnit}
use Rattle.mean_start.specs.Noted.{AddsUnit}
use Rattle.mean_start.proofs.Lists.{small_tail}
use Rattle.mean_start.proofs.Noting.{all_more, all_told}
use Rattle.mean_start.proofs.linkage.linkage_of.Goals as goal

pub units-preserved : goal.units-preserved
units-preserved c =
    let us = c.args.units.now in
    let i = c.units.unit-index in
    let u = c.unit-item.result in
    let adds = subst (λ k. AddsUnit c.units.linkage c.note_unit.new.linkage k u) c.units.invariant.number c.in_ok-note_unit.ensures in
    record {
      number = ap (λ k. k + 1) c.units.invariant.number;
      all = c.units.invariant.all;
      small = small_tail us i u c.units-test.true c.unit-item.is c.units.invariant.small;
      units = ap (λ (b : Bor (List TypedUnit)). b.now) adds.units ∙ c.units.invariant.units;
      left = all_more us i u c.units.linkage c.note_unit.new.linkage c.units-test.true c.unit-item.is adds c.units.invariant.left;
    }

pub returns-clause-is : goal.returns-clause-is
returns-clause-is c =
    all_told c.args.units.now c.units.unit-index c.units.linkage (omega arith) c.requires.few c.units.invariant.all c.units.invariant.units c.units.invariant.left
