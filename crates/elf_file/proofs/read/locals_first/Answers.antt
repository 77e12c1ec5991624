use Rattle.std.proofs.Common.{sym, ◌∙◌, arith, eq-eqb}
use Rattle.std.proofs.lemmas.Bool.{eqb-true}
use Rattle.elf_file.proofs.ReadLoops.{local_step, global_step, locals_next, locals_end}
use Rattle.elf_file.proofs.read.locals_first.Goals as goal
use Rattle.elf_file.proofs.read.locals_first.Goals.{then-entry_at-eq0+else-locals-symbol, else-entry_at-eq0}

pub loop-symbol-preserved : goal.loop-symbol-preserved
loop-symbol-preserved c = elim c.if-entry_at-eq0.branch [
  | then-entry_at-eq0+else-locals-symbol w ↦
      let step = local_step c.args.file.now c.entry_at.result.now c.args.sizes c.loop-symbol.symbol c.loop-symbol.locals c.loop-symbol.auto.symbol c.loop-symbol-test.true c.entry_at.ensures.bytes
      w.if-entry_at-eq0.true w.if-locals-symbol.false c.loop-symbol.invariant.each c.loop-symbol.invariant.count in
      record { each = step.0; count = w.locals-is ∙ step.1 ∙ locals_next c.args.file.now c.args.sizes c.loop-symbol.symbol }
  | else-entry_at-eq0 w ↦
      let step = global_step c.args.file.now c.entry_at.result.now c.args.sizes c.loop-symbol.symbol c.loop-symbol.locals c.loop-symbol.auto.symbol c.loop-symbol-test.true c.entry_at.ensures.bytes
      w.if-entry_at-eq0.false c.loop-symbol.invariant.each c.loop-symbol.invariant.count in
      record { each = step.0; count = w.locals-is ∙ step.1 ∙ locals_next c.args.file.now c.args.sizes c.loop-symbol.symbol }
]

pub returns : goal.returns
returns c =
    let end = locals_end c.args.file.now c.args.sizes c.loop-symbol.symbol c.loop-symbol.locals c.loop-symbol-test.false c.loop-symbol.invariant.count in (
      λ h. record { each = λ k k-in. c.loop-symbol.invariant.each k (omega arith); whole = sym end ∙ eqb-true _ _ h },
      λ first. eq-eqb _ _ (end ∙ first.whole),
    )
