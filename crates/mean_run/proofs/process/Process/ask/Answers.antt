use Rattle.clight_sem.specs.Turns.{given, minus_one}
use Rattle.mean_run.specs.Processes.{world_of}
use Rattle.mean_run.proofs.Given.{is_given, is_asked}
use Rattle.mean_run.proofs.process.Process.ask.Goals as goal

pub returns-then-give-clause-turn : goal.returns-then-give-clause-turn
returns-then-give-clause-turn c =
    let w = world_of c.args.self.now in
    let new = world_of c.give.new.self in
    is_asked c.args.destination w new (is_given c.give.result new (given c.args.destination minus_one w) c.if-give.true c.give.ensures.given)
