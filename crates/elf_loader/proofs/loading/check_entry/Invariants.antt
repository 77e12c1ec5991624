use Rattle.std.proofs.Common.{◌≡◌}
use Rattle.std.specs.List.{list_any}
use Rattle.elf_loader.specs.Load.{has_entry}
use Rattle.elf_loader.proofs.LoadFacts.{entry_from}
use Rattle.elf_loader.proofs.loading.check_entry.Given as goal

abbrev pub invariant-loop-index : goal.invariant-loop-index
invariant-loop-index l = list_any (has_entry l.image.entry) l.image.segments ≡ entry_from l.image l.index
