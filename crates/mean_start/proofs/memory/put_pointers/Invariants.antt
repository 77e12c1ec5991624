use Rattle.std.proofs.Common.{◌≡◌, drop}
use Rattle.block_mem.specs.Start.{meant}
use Rattle.clight_sem.specs.Functions.{all_parts, parts_of}
use Rattle.mean_start.specs.Making.{size_in, all_pointed}
use Rattle.mean_start.proofs.memory.put_pointers.Given as goal

abbrev pub invariant-words : goal.invariant-words
invariant-words l = record {
  size : size_in l.memory l.name ≡ l.size;
  left : all_pointed (meant (all_parts l.linkage.units.now) l.own.number (parts_of l.own.unit.now)) l.name (drop l.word-index l.words) l.memory ≡ all_pointed (meant (all_parts l.linkage.units.now) l.own.number (parts_of l.own.unit.now)) l.name l.words l.fn.memory;
}
