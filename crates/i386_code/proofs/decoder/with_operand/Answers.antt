-- Behind the ModRM byte the head and the operand lead on to the rest.
use Rattle.std.proofs.Common.{◌≡◌, ℕ, ◌+◌, ◌/◌, ◌%◌, ◌-◌, length, get_or, take, drop, sym, ap, ◌∙◌, arith, Option, Some}
use Rattle.std.proofs.lemmas.List.{take_rest}
use Rattle.i386_code.specs.declared.rows.Head.{Head}
use Rattle.i386_code.specs.Rows.{head_at}
use Rattle.i386_code.specs.Reading.{run, finish, begun, operand_of}
use Rattle.i386_code.proofs.Runs.{run-next, run-operand_some}
use Rattle.i386_code.proofs.decoder.with_operand.Goals as goal

pub returns-in-Some-operand_at : goal.returns-in-Some-operand_at
returns-in-Some-operand_at c =
    let bytes = c.args.rest.now in
    let modrm = get_or bytes 0 0 in
    let at_head : head_at c.args.row (modrm / 8 % 8) ≡ Some c.in-Some.head = sym c.head_of.ensures ∙ c.in-Some.is in
    let rest : take (length bytes - 1) (drop 1 bytes) ≡ drop 1 bytes = take_rest bytes 1 in
    let found : operand_of modrm (drop 1 bytes) ≡ Some (c.in-Some-operand_at.operand, c.in-Some-operand_at.count) = ap (operand_of modrm) (sym rest) ∙ sym c.operand_at.ensures.found ∙ c.in-Some-operand_at.is in
    let started = run-next (λ modrm. begun (head_at c.args.row (modrm / 8 % 8)) modrm) c.args.length bytes (omega arith)
    ∙ ap (λ (h : Option Head). run (begun h modrm) (c.args.length + 1) (drop 1 bytes)) at_head
    ∙ run-operand_some modrm (finish c.in-Some.head) (c.args.length + 1) (drop 1 bytes) c.in-Some-operand_at.operand c.in-Some-operand_at.count found in
    let cut = take (length bytes - 1) (drop 1 bytes) in
    let left : take (length cut - c.from.result) (drop c.from.result cut) ≡ drop c.in-Some-operand_at.count (drop 1 bytes) =
    take_rest cut c.from.result ∙ ap (λ (k : ℕ). drop k cut) c.from.ensures ∙ ap (drop c.in-Some-operand_at.count) rest in
    c.finished.ensures ∙ ap (run (finish c.in-Some.head c.in-Some-operand_at.operand) (c.args.length + 1 + c.in-Some-operand_at.count)) left ∙ sym started
