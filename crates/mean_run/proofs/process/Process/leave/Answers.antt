use Rattle.std.proofs.Common.{subst, sym}
use Rattle.clight_sem.specs.States.{Turned}
use Rattle.mean_run.specs.Frames.{frame_of}
use Rattle.mean_run.specs.Processes.{world_of, TurnsTo}
use Rattle.mean_run.proofs.Turns.{has_left}
use Rattle.mean_run.proofs.process.Process.leave.Goals as goal

pub returns-clause-turn : goal.returns-clause-turn
returns-clause-turn c =
    subst (λ (t : Turned). TurnsTo t c.receive.result (world_of c.receive.new.self))
    (sym (has_left (world_of c.args.self.now) (world_of c.pop.new.self) (frame_of c.in-Some.callee) c.args.value c.end_locals.new.memory c.as_slice-locals.result.now c.in-Some.ensures.world c.as_slice-locals.ensures c.in_ok-end_locals.ensures))
    c.receive.ensures.turn
