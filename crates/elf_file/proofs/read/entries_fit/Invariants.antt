use Rattle.std.proofs.Common.{ℕ, ◌+◌, ◌<◌}
use Rattle.elf_file.specs.Checks.{EntryFits, sections_in}
use Rattle.elf_file.specs.Object.{symbol_bytes, strings_in}
use Rattle.elf_file.proofs.read.entries_fit.Given as goal

abbrev pub invariant-loop-symbol : goal.invariant-loop-symbol
invariant-loop-symbol l = (k : ℕ) → k + 1 < l.symbol → EntryFits (sections_in l.sizes) (strings_in l.file l.sizes) (symbol_bytes l.file l.sizes (k + 1))
