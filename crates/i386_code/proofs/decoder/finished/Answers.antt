-- A word behind the operand.
use Rattle.std.proofs.Common.{sym, ap, ◌∙◌}
use Rattle.i386_code.specs.declared.instr.Instr.TheVariants.{StoreImm, AluImm}
use Rattle.i386_code.specs.declared.rows.Head.{Head}
use Rattle.i386_code.specs.Reading.{Done, run, finish}
use Rattle.i386_code.proofs.Runs.{run-word_some}
use Rattle.i386_code.proofs.decoder.finished.Goals as goal

pub returns-in-Some : goal.returns-in-Some
returns-in-Some c = sym (ap (λ (h : Head). run (finish h c.args.to) c.args.length c.args.rest.now) c.in-StoreImm-default.is-0
    ∙ run-word_some (λ value. Done (StoreImm c.args.to value)) c.args.length c.args.rest.now c.in-Some.value (sym c.word_at.ensures ∙ c.in-Some.is))

pub returns-in-Some-word_at : goal.returns-in-Some-word_at
returns-in-Some-word_at c = sym (ap (λ (h : Head). run (finish h c.args.to) c.args.length c.args.rest.now) c.in-AluImm-default.is-0
    ∙ run-word_some (λ value. Done (AluImm c.in-AluImm-default.op c.args.to value)) c.args.length c.args.rest.now c.in-Some-word_at.value (sym c.word_at-in-AluImm-default.ensures ∙ c.in-Some-word_at.is))
