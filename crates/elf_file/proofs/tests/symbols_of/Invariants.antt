use Rattle.std.proofs.Common.{◌≡◌, ◌-◌, take, drop}
use Rattle.elf_file.proofs.tests.symbols_of.Given as goal

abbrev pub invariant-loop-symbol : goal.invariant-loop-symbol
invariant-loop-symbol l = l.symbols ≡ take (l.symbol - 1) (drop 1 l.view.symbols)
