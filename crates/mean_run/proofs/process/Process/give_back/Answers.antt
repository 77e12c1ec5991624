use Rattle.std.proofs.Common.{Some, None}
use Rattle.mean_run.specs.Scenes.{seen}
use Rattle.mean_run.specs.Processes.{linked_of, world_of}
use Rattle.mean_run.proofs.Turns.{is_returned}
use Rattle.mean_run.proofs.process.Process.give_back.Goals as goal

pub returns-in-None-converted-clause-turn : goal.returns-in-None-converted-clause-turn
returns-in-None-converted-clause-turn c = is_returned (linked_of c.args.program.now) (world_of c.args.self.now) (seen c.scene.result) c.args.value.now c.in-Some.value None c.in-Some.is c.scene.ensures c.in-None-converted.ensures

pub returns-in-Some-converted-clause-turn : goal.returns-in-Some-converted-clause-turn
returns-in-Some-converted-clause-turn c =
    rw (is_returned (linked_of c.args.program.now) (world_of c.args.self.now) (seen c.scene.result) c.args.value.now c.in-Some.value (Some c.in-Some-converted.value) c.in-Some.is c.scene.ensures c.in-Some-converted.ensures)
    c.leave-in-Some-converted.ensures.turn
