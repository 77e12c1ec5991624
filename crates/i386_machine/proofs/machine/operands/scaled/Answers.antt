use Rattle.std.proofs.Common.{◌<◌, sym, arith}
use Rattle.i386_machine.proofs.Scaling.{shifted_out}
use Rattle.i386_machine.proofs.machine.operands.scaled.Goals as goal

pub returns-in-None : goal.returns-in-None
returns-in-None c =
    let far : ¬ (c.args.shift < 32) = λ small. c.in-None.ensures (omega (arith, small)) in
    sym (shifted_out c.args.word c.args.shift far)
