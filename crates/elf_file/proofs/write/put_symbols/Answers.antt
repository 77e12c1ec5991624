use Rattle.std.proofs.Common.{arith}
use Rattle.elf_file.proofs.Tables.{string_table-read, appended}
use Rattle.elf_file.proofs.write.put_symbols.Goals as goal

pub overflow_cast-name : goal.overflow_cast-name
overflow_cast-name c = let w = string_table-read c.args.symbols.now c.loop-symbol.symbol-index c.symbol-item.result c.loop-symbol-test.true c.symbol-item.is in omega arith

pub overflow_add-name : goal.overflow_add-name
overflow_add-name c = let w = string_table-read c.args.symbols.now c.loop-symbol.symbol-index c.symbol-item.result c.loop-symbol-test.true c.symbol-item.is in omega arith

pub overflow_add-name-in-loop-symbol : goal.overflow_add-name-in-loop-symbol
overflow_add-name-in-loop-symbol c = let w = string_table-read c.args.symbols.now c.loop-symbol.symbol-index c.symbol-item.result c.loop-symbol-test.true c.symbol-item.is in omega arith

pub loop-symbol-preserved : goal.loop-symbol-preserved
loop-symbol-preserved c =
    let w = string_table-read c.args.symbols.now c.loop-symbol.symbol-index c.symbol-item.result c.loop-symbol-test.true c.symbol-item.is in
    record {
      entries = appended c.loop-symbol.out.items c.put_symbol.new.out.items c.args.out.now.items c.args.symbols.now c.loop-symbol.symbol-index c.loop-symbol.name c.symbol-item.result
          c.loop-symbol-test.true c.symbol-item.is c.loop-symbol.invariant.place c.loop-symbol.invariant.entries c.in_ok-put_symbol.ensures;
      place = omega arith;
    }
