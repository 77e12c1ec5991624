use Rattle.std.proofs.Common.{ℕ, ◌<◌}
use Rattle.elf_file.specs.Checks.{RelocEntryFits, sections_in, symbols_of}
use Rattle.elf_file.specs.Object.{reloc_bytes}
use Rattle.elf_file.proofs.read.relocs_fit.Given as goal

abbrev pub invariant-loop-index : goal.invariant-loop-index
invariant-loop-index l = (k : ℕ) → k < l.index → RelocEntryFits (sections_in l.sizes) (reloc_bytes l.file l.sizes k) (symbols_of l.file l.sizes)
