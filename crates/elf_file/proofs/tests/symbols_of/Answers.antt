use Rattle.std.proofs.Common.{◌∙◌, arith}
use Rattle.elf_file.specs.Object.{symbol_of}
use Rattle.elf_file.proofs.Decoded.{same_symbol}
use Rattle.elf_file.proofs.TestFacts.{symbol_next, symbols_all}
use Rattle.elf_file.proofs.tests.symbols_of.Goals as goal

pub loop-symbol-preserved : goal.loop-symbol-preserved
loop-symbol-preserved c =
    let count = c.symbols-symbol-end.ensures in
    c.in_ok-push.ensures.ok ∙ symbol_next c.args.view.now c.loop-symbol.symbols _ c.loop-symbol.symbol c.loop-symbol.auto.symbol (omega arith) c.loop-symbol.invariant
    (same_symbol _ (symbol_of c.args.view.now c.loop-symbol.symbol) (c.in_ok-from_slice.ensures ∙ c.symbol_name.ensures) c.symbol_local.ensures c.symbol_kind.ensures c.symbol_place.ensures c.symbol_value.ensures c.symbol_size.ensures)

pub returns : goal.returns
returns c = let count = c.symbols-symbol-end.ensures in c.loop-symbol.invariant ∙ symbols_all c.args.view.now c.loop-symbol.symbol (omega arith)
