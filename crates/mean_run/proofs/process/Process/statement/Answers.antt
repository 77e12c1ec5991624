use Rattle.mean_run.specs.Scenes.{seen}
use Rattle.mean_run.specs.Processes.{linked_of, world_of}
use Rattle.mean_run.proofs.Turns.{is_while}
use Rattle.mean_run.proofs.process.Process.statement.Goals as goal

pub returns-in-While-clause-turn : goal.returns-in-While-clause-turn
returns-in-While-clause-turn c =
    rw (is_while (linked_of c.args.program.now) (world_of c.args.self.now) (seen c.scene-in-While.result) c.args.statement.now c.in-While.test c.in-While.body c.as_slice-body.result.now c.holds-holds.result c.in-While.is c.scene-in-While.ensures c.holds-holds.ensures c.as_slice-body.ensures)
    c.test.ensures.turn
