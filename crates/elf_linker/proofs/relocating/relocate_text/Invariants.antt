use Rattle.elf_linker.proofs.Words.{Half}
use Rattle.elf_linker.proofs.relocating.relocate_text.Given as goal

abbrev pub invariant-loop-index : goal.invariant-loop-index
invariant-loop-index l = Half l.addresses l.number l.fn.code l.code l.index
