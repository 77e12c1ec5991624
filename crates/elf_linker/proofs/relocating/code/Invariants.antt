use Rattle.elf_linker.specs.LinkSteps.{IsMade}
use Rattle.elf_linker.proofs.relocating.code.Given as goal

abbrev pub invariant-loop-number : goal.invariant-loop-number
invariant-loop-number l = IsMade l.addresses l.number l.code.items
