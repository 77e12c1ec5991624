use Rattle.std.proofs.Common.{sym, ap, ◌∙◌}
use Rattle.i386_machine.specs.Machine.{State}
use Rattle.i386_machine.specs.Regions.{shapes}
use Rattle.i386_machine.specs.Step.{Doing, Asks, Stepped, stepped}
use Rattle.i386_machine.specs.laws.Steps.{shapes-step, shapes-stepped}
use Rattle.i386_machine.proofs.machine.Machine.step.Goals as goal

pub returns-in-Nothing-clause-shape : goal.returns-in-Nothing-clause-shape
returns-in-Nothing-clause-shape c =
    let m = c.args.self.now in
    sym (ap (λ (d : Doing). shapes (stepped d m c.args.next).after.regions) c.in-Nothing.ensures.does) ∙ shapes-step m c.args.next

pub returns-in-Byte-clause-shape : goal.returns-in-Byte-clause-shape
returns-in-Byte-clause-shape c =
    ap (λ (s : Stepped). shapes s.after.regions) c.take.ensures ∙ shapes-stepped Asks c.advance.new.self c.args.next tt ∙ ap (λ (m : State). shapes m.regions) c.in-Byte.ensures.kept
