use Rattle.std.proofs.Common.{ℕ, ◌+◌, ◌<◌, ◌≤◌}
use Rattle.elf_file.specs.Object.{reloc_in, reloc_bytes}
use Rattle.elf_file.proofs.read.relocs_rise.Given as goal

abbrev pub invariant-loop-index : goal.invariant-loop-index
invariant-loop-index l = (k : ℕ) → k + 1 < l.index → (reloc_in (reloc_bytes l.file l.sizes k)).offset + 4 ≤ (reloc_in (reloc_bytes l.file l.sizes (k + 1))).offset
