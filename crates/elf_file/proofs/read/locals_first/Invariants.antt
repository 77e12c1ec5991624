use Rattle.std.proofs.Common.{◌≡◌, ℕ, true, ◌+◌, ◌-◌, ◌<◌, take}
use Rattle.std.specs.List.{count_by}
use Rattle.elf_file.specs.Object.{symbol_in, strings_in, symbol_bytes}
use Rattle.elf_file.specs.Checks.{symbols_of}
use Rattle.elf_file.proofs.read.locals_first.Given as goal

abbrev pub invariant-loop-symbol : goal.invariant-loop-symbol
invariant-loop-symbol l = record {
  each : (k : ℕ) → k + 1 < l.symbol → (symbol_in (strings_in l.file l.sizes) (symbol_bytes l.file l.sizes (k + 1))).local ≡ true → count_by (λ symbol. symbol.local) (take k (symbols_of l.file l.sizes)) ≡ k;
  count : l.locals ≡ count_by (λ symbol. symbol.local) (take (l.symbol - 1) (symbols_of l.file l.sizes)) + 1;
}
