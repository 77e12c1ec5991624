-- A word behind the opcode.
use Rattle.std.proofs.Common.{sym, ap, ◌+◌, ◌∙◌, Some}
use Rattle.i386_code.specs.declared.instr.Instr.{Instr}
use Rattle.i386_code.specs.declared.instr.Decoded.TheVariants.{Is}
use Rattle.i386_code.specs.declared.rows.Row.{Row}
use Rattle.i386_code.specs.Reading.{Done, run, opened, word_instr}
use Rattle.i386_code.proofs.Runs.{run-word_some}
use Rattle.i386_code.proofs.decoder.behind_opcode.Goals as goal

pub returns-in-Some : goal.returns-in-Some
returns-in-Some c = ap (λ (instr : Instr). Is instr (c.args.length + 4)) c.word_instruction.ensures
    ∙ sym (ap (λ (row : Row). run (opened (Some row)) c.args.length c.args.rest.now) c.in-WithWord.is
    ∙ run-word_some (λ value. Done (word_instr c.in-WithWord.row value)) c.args.length c.args.rest.now c.in-Some.value (sym c.word_at.ensures ∙ c.in-Some.is))
