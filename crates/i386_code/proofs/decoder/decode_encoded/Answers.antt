-- The bytes spell the instruction, and all of them stand at the front.
use Rattle.std.proofs.Common.{◌≤◌, ℕ, List, length, take, ap, sym, subst, ◌∙◌, arith}
use Rattle.std.proofs.lemmas.List.{take_all}
use Rattle.i386_code.specs.declared.instr.Decoded.TheVariants.{Is}
use Rattle.i386_code.specs.Spelling.{Spells}
use Rattle.i386_code.proofs.decoder.decode_encoded.Goals as goal

pub returns : goal.returns
returns c =
    let instr = c.args.instr.now in
    let bytes = c.as_slice.result.now in
    let spelled : Spells instr bytes = subst (Spells instr) (sym c.as_slice.ensures) c.encode.ensures.spelled in
    let room : length bytes ≤ length bytes = omega arith in
    let whole : Spells instr (take (length bytes) bytes) = subst (Spells instr) (sym (take_all (length bytes) bytes room)) spelled in
    (c.decode.ensures.found instr (length bytes)).1 (room, whole) ∙ ap (λ (b : List ℕ). Is instr (length b)) (c.as_slice.ensures ∙ c.encode.ensures.canonical)
