use Rattle.i386_machine.specs.Pieces.{HasNoneBelow}
use Rattle.i386_machine.proofs.memory.find.Given as goal

abbrev pub invariant-loop-i : goal.invariant-loop-i
invariant-loop-i l = HasNoneBelow l.pieces l.at l.size l.i
