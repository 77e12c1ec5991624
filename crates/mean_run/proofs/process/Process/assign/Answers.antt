use Rattle.clight_sem.specs.Turns.{given}
use Rattle.mean_run.specs.Scenes.{seen}
use Rattle.mean_run.specs.Processes.{linked_of, world_of}
use Rattle.mean_run.proofs.Given.{is_given, not_given, is_assigned}
use Rattle.mean_run.proofs.process.Process.assign.Goals as goal

pub returns-then-give-clause-turn : goal.returns-then-give-clause-turn
returns-then-give-clause-turn c =
    let w = world_of c.args.self.now in
    let new = world_of c.give.new.self in
    let d = c.in-Some.destination in
    let v = c.in-Some-value_of.value in
    is_assigned (linked_of c.args.program.now) w (seen c.scene-scene.result) c.args.assignment.now d v _ c.scene-scene.ensures c.in-Some.ensures c.in-Some-value_of.ensures (is_given c.give.result new (given d v w) c.if-give.true c.give.ensures.given)

pub returns-else-give-clause-turn : goal.returns-else-give-clause-turn
returns-else-give-clause-turn c =
    let w = world_of c.args.self.now in
    let new = world_of c.give.new.self in
    let d = c.in-Some.destination in
    let v = c.in-Some-value_of.value in
    is_assigned (linked_of c.args.program.now) w (seen c.scene-scene.result) c.args.assignment.now d v _ c.scene-scene.ensures c.in-Some.ensures c.in-Some-value_of.ensures (not_given c.give.result new (given d v w) c.if-give.false c.give.ensures.given)
