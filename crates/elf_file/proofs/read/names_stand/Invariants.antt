use Rattle.std.proofs.Common.{◌≡◌, ℕ, ◌+◌, ◌-◌, ◌<◌, length, take}
use Rattle.elf_file.specs.Written.{string_table}
use Rattle.elf_file.specs.Checks.{NameStands, symbols_of}
use Rattle.elf_file.proofs.read.names_stand.Given as goal

abbrev pub invariant-loop-symbol : goal.invariant-loop-symbol
invariant-loop-symbol l = record {
  each : (k : ℕ) → k + 1 < l.symbol → NameStands l.file l.sizes k;
  place : l.name ≡ length (string_table (take (l.symbol - 1) (symbols_of l.file l.sizes)));
}
