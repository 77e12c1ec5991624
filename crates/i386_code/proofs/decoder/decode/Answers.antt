-- The three answers, from the laws of the reader.
use Rattle.std.proofs.Common.{◌∙◌, sym, arith}
use Rattle.i386_code.proofs.Readers.{AreBytes}
use Rattle.i386_code.proofs.Decoding.{at_front, from_front, cut_short, from_cut_short, no_instruction, from_no_instruction}
use Rattle.i386_code.proofs.Lengths.{answer_length}
use Rattle.i386_code.specs.Reading.{decoded}
use Rattle.i386_code.proofs.decoder.decode.Goals as goal

pub returns-clause-found : goal.returns-clause-found
returns-clause-found c instr count =
    let fit : AreBytes c.args.bytes.now = λ i. omega (arith, c.type_inv.bytes i) in
    ((λ e. at_front c.args.bytes.now fit instr count (sym c.read_instruction.ensures ∙ e)), (λ h. c.read_instruction.ensures ∙ from_front c.args.bytes.now instr count h))

pub returns-clause-short : goal.returns-clause-short
returns-clause-short c =
    let fit : AreBytes c.args.bytes.now = λ i. omega (arith, c.type_inv.bytes i) in
    ((λ e. cut_short c.args.bytes.now fit (sym c.read_instruction.ensures ∙ e)), (λ h. c.read_instruction.ensures ∙ from_cut_short c.args.bytes.now h))

pub returns-clause-unknown : goal.returns-clause-unknown
returns-clause-unknown c =
    let fit : AreBytes c.args.bytes.now = λ i. omega (arith, c.type_inv.bytes i) in
    ((λ e. no_instruction c.args.bytes.now (sym c.read_instruction.ensures ∙ e)), (λ h. c.read_instruction.ensures ∙ from_no_instruction c.args.bytes.now fit h))

pub returns-clause-length : goal.returns-clause-length
returns-clause-length c =
    let fit : AreBytes c.args.bytes.now = λ i. omega (arith, c.type_inv.bytes i) in
    answer_length c.args.bytes.now fit c.read_instruction.result (sym c.read_instruction.ensures)

pub returns-clause-value : goal.returns-clause-value
unfolding decoded
returns-clause-value c = c.read_instruction.ensures
