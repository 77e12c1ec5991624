use Rattle.i386_machine.specs.Runs.{Ran}
use Rattle.i386_machine.proofs.running.run.Given as goal

-- so many steps were taken
abbrev pub invariant-loop-count : goal.invariant-loop-count
invariant-loop-count g l = Ran l.fn.machine l.count (g.S.Source.seen l.fn.input) (g.O.Sink.seen l.fn.output) l.machine (g.S.Source.seen l.input) (g.O.Sink.seen l.output)
