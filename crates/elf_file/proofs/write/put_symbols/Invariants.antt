use Rattle.std.proofs.Common.{◌≡◌, ◌++◌, take, length}
use Rattle.elf_file.specs.Written.{symbol_table, string_table}
use Rattle.elf_file.proofs.write.put_symbols.Given as goal

abbrev pub invariant-loop-symbol : goal.invariant-loop-symbol
invariant-loop-symbol l = record {
  entries : l.out.items ≡ l.fn.out.items ++ symbol_table (take l.symbol-index l.symbols);
  place : l.name ≡ length (string_table (take l.symbol-index l.symbols));
}
