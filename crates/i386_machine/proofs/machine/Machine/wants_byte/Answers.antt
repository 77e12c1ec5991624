use Rattle.std.proofs.Common.{◌≡◌, true, Some, option_map, ap, sym, ◌∙◌}
use Rattle.std.proofs.lemmas.Bool.{false≢true}
use Rattle.i386_code.specs.declared.instr.Decoded.{Decoded}
use Rattle.i386_code.specs.Reading.{decoded}
use Rattle.i386_machine.specs.Machine.{State}
use Rattle.i386_machine.specs.Regions.{fetch}
use Rattle.i386_machine.specs.Pending.{runs}
use Rattle.i386_machine.proofs.NotAsked.{no_read}
use Rattle.i386_machine.proofs.machine.Machine.wants_byte.Goals as goal

pub returns-else-is_system_call : goal.returns-else-is_system_call
returns-else-is_system_call c =
    let m = c.args.self.now in
    let going : runs m.standing ≡ true = cc in
    let found = ap (λ (s : State). option_map decoded (fetch s.regions s.eip)) (sym c.self.view_is) ∙ sym c.peek_instruction.ensures ∙ c.in-Some.is ∙ ap (λ (d : Decoded). Some d) c.in-Is.is in
    ((λ w. absurd (false≢true (sym c.if-is_system_call.false ∙ w))), (λ e. absurd (no_read m c.in-Is.instr c.in-Is.field-1 going found (sym c.if-is_system_call.ensures) e)))
