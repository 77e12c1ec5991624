use Rattle.std.proofs.Common.{◌≡◌, ◌++◌, take}
use Rattle.elf_file.specs.Written.{string_table}
use Rattle.elf_file.proofs.write.put_strings.Given as goal

abbrev pub invariant-loop-symbol : goal.invariant-loop-symbol
invariant-loop-symbol l = l.out.items ≡ l.fn.out.items ++ string_table (take l.symbol-index l.symbols)
