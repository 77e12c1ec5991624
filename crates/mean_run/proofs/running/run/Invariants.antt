use Rattle.std.proofs.Common.{◌≤◌, ◌+◌}
use Rattle.clight_sem.specs.States.{Going}
use Rattle.mean_run.specs.Processes.{linked_of, world_of}
use Rattle.mean_run.specs.Running.{Ran, RunsBefore}
use Rattle.mean_run.proofs.running.run.Given as goal

-- so many turns were taken, the run goes on, and each turn made one call at most
abbrev pub invariant-loop-count : goal.invariant-loop-count
invariant-loop-count g l = record {
  calls : l.process.calls ≤ l.fn.process.calls + l.count;
  ran : Ran (linked_of l.program) (world_of l.fn.process) l.count (g.S.Source.seen l.fn.input) (g.O.Sink.seen l.fn.output) (Going (world_of l.process)) (g.S.Source.seen l.input) (g.O.Sink.seen l.output);
  first : RunsBefore (linked_of l.program) (world_of l.fn.process) l.count (g.S.Source.seen l.fn.input);
}
