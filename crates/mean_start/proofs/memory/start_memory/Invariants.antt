use Rattle.std.proofs.Common.{◌≡◌, ◌≤◌, length, drop}
use Rattle.std.specs.FinMap as map_of
use Rattle.block_mem.specs.Names.{name_cmp}
use Rattle.block_mem.specs.Start.{blocks_from}
use Rattle.clight_sem.specs.Functions.{all_parts}
use Rattle.mean_start.proofs.memory.start_memory.Given as goal

-- the objects of the units from the number on are made
abbrev pub invariant-units : goal.invariant-units
invariant-units l = record {
  within : l.number ≤ length l.units;
  made : l.memory ≡ map_of.from_entries {R = name_cmp} (blocks_from (all_parts l.units) l.number (all_parts (drop l.number l.units)));
}

abbrev pub decreases-units : goal.decreases-units
decreases-units l = l.number
