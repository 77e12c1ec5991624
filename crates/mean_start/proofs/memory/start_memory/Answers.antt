use Rattle.std.proofs.Common.{◌≡◌, ◌+◌, ◌-◌, ◌<◌, ℕ, length, drop, ap, subst, arith, ◌∙◌}
use Rattle.std.specs.FinMap as map_of
use Rattle.block_mem.specs.Names.{name_cmp}
use Rattle.block_mem.specs.Start.{blocks_of_unit, blocks_from}
use Rattle.clight_unit.specs.declared.unit.ClightUnit.{ClightUnit as TypedUnit}
use Rattle.clight_sem.specs.Functions.{parts_of, all_parts}
use Rattle.mean_start.specs.Making.{with_blocks}
use Rattle.mean_start.proofs.Lists.{small_at}
use Rattle.mean_start.proofs.Making.{one_unit_more}
use Rattle.mean_start.proofs.memory.start_memory.Goals as goal

pub own_of-requires : goal.own_of-requires
own_of-requires c =
    let us = c.args.linkage.now.units.now in
    let within : c.units.number - 1 < length us = omega arith in
    record { small = small_at us (c.units.number - 1) c.index-units-number.result within c.index-units-number.is c.requires.linkage.small }

pub units-preserved : goal.units-preserved
units-preserved c =
    let us = c.args.linkage.now.units.now in
    let parts = all_parts us in
    let k = c.units.number - 1 in
    let u = c.index-units-number.result in
    let own = c.in_ok-own.own in
    let m = c.units.memory in
    let within : k < length us = omega arith in
    let next : c.units.number ≡ k + 1 = omega arith in
    let made : m ≡ map_of.from_entries {R = name_cmp} (blocks_from parts (k + 1) (all_parts (drop (k + 1) us))) = subst (λ (n : ℕ). m ≡ map_of.from_entries {R = name_cmp} (blocks_from parts n (all_parts (drop n us)))) next c.units.invariant.made in
    record {
      within = omega arith;
      made =
          c.in_ok-make_objects.ensures
          ∙ ap (λ (n : ℕ). with_blocks (blocks_of_unit parts n (parts_of own.unit.now) 0 own.unit.now.globals) m) c.in_ok-own.ensures.number
          ∙ ap (λ (v : TypedUnit). with_blocks (blocks_of_unit parts k (parts_of v) 0 v.globals) m) c.in_ok-own.ensures.unit
          ∙ one_unit_more us k u m within c.index-units-number.is made;
    }
