use Rattle.std.proofs.Common.{arith}
use Rattle.elf_file.proofs.Tables.{string_table-read}
use Rattle.elf_file.proofs.write.strings_len.Goals as goal

pub overflow_cast-len : goal.overflow_cast-len
overflow_cast-len c = let w = string_table-read c.args.symbols.now c.loop-symbol.symbol-index c.symbol-item.result c.loop-symbol-test.true c.symbol-item.is in omega arith

pub overflow_add-len : goal.overflow_add-len
overflow_add-len c = let w = string_table-read c.args.symbols.now c.loop-symbol.symbol-index c.symbol-item.result c.loop-symbol-test.true c.symbol-item.is in omega arith

pub overflow_add-len-in-loop-symbol : goal.overflow_add-len-in-loop-symbol
overflow_add-len-in-loop-symbol c = let w = string_table-read c.args.symbols.now c.loop-symbol.symbol-index c.symbol-item.result c.loop-symbol-test.true c.symbol-item.is in omega arith

pub loop-symbol-preserved : goal.loop-symbol-preserved
loop-symbol-preserved c = let w = string_table-read c.args.symbols.now c.loop-symbol.symbol-index c.symbol-item.result c.loop-symbol-test.true c.symbol-item.is in omega arith
