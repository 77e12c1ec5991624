use Rattle.std.proofs.Common.{◌≡◌, take}
use Rattle.elf_file.proofs.tests.relocs_of.Given as goal

abbrev pub invariant-loop-index : goal.invariant-loop-index
invariant-loop-index l = l.relocs ≡ take l.index l.view.relocs
