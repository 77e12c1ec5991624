use Rattle.std.proofs.Common.{arith, sym}
use Rattle.std.proofs.lemmas.List.{take_rest}
use Rattle.text_grammar.specs.laws.Elements.{closed_here, none_here, none_at_all, reaches_further, passes_further}
use Rattle.text_grammar.proofs.spelling.elements.Goals as goal

pub returns-then-text-at-eq34-clause-value : goal.returns-then-text-at-eq34-clause-value
returns-then-text-at-eq34-clause-value c = closed_here c.args.text.now c.loop-at.at c.loop-at.invariant.reaches c.if-text-at-eq34.true

pub returns-in_err-at-clause-value : goal.returns-in_err-at-clause-value
returns-in_err-at-clause-value c =
    rw c.from_residual.ensures (none_here c.args.text.now c.loop-at.at c.loop-at.invariant.passes (rw take_rest at (sym c.in_err-at.ensures.value)) c.if-text-at-eq34.false)

pub loop-at-preserved : goal.loop-at-preserved
loop-at-preserved c =
    record {
      within = omega (arith, c.in_ok-at.ensures.within);
      reaches = reaches_further c.args.text.now c.loop-at.at c.in_ok-at.field-0 c.loop-at.invariant.reaches (rw take_rest at (sym c.in_ok-at.ensures.value));
      passes = passes_further c.args.text.now c.loop-at.at c.in_ok-at.field-0 c.loop-at.invariant.passes (rw take_rest at (sym c.in_ok-at.ensures.value));
    }

pub returns-clause-value : goal.returns-clause-value
returns-clause-value c = none_at_all c.args.text.now c.loop-at.at c.loop-at.invariant.passes (omega arith)
