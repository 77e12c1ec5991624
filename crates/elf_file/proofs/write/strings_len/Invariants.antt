use Rattle.std.proofs.Common.{◌≡◌, take, length}
use Rattle.elf_file.specs.Written.{string_table}
use Rattle.elf_file.proofs.write.strings_len.Given as goal

abbrev pub invariant-loop-symbol : goal.invariant-loop-symbol
invariant-loop-symbol l = l.len ≡ length (string_table (take l.symbol-index l.symbols))
