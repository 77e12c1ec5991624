use Rattle.std.proofs.Common.{◌≡◌, ◌≤◌, length, drop}
use Rattle.block_mem.specs.Start.{blocks_of_unit}
use Rattle.clight_sem.specs.Functions.{all_parts, parts_of}
use Rattle.mean_start.specs.Making.{with_blocks}
use Rattle.mean_start.proofs.memory.make_objects.Given as goal

-- the objects from the index on are made
abbrev pub invariant-objects : goal.invariant-objects
invariant-objects l = record {
  within : l.index ≤ length l.objects;
  made : l.memory ≡ with_blocks (blocks_of_unit (all_parts l.linkage.units.now) l.own.number (parts_of l.own.unit.now) l.index (drop l.index l.objects)) l.fn.memory;
}

abbrev pub decreases-objects : goal.decreases-objects
decreases-objects l = l.index
