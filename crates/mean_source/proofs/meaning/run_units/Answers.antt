use Rattle.std.proofs.Common.{subst}
use Rattle.clight_sem.specs.Functions.{Linked}
use Rattle.mean_source.specs.Means.{Comes, Happens}
use Rattle.mean_source.specs.Programs.{program_after}
use Rattle.mean_source.proofs.meaning.run_units.Goals as goal

pub returns : goal.returns
returns g c =
    let P : Linked → Type 0 = λ p.
    Comes (program_after p) c.args.steps (g.S.Source.seen c.args.input.now) (g.O.Sink.seen c.args.output.now) c.run_program.result (g.S.Source.seen c.run_program.new.input) (g.O.Sink.seen c.run_program.new.output)
    × Happens p c.args.steps (g.S.Source.seen c.args.input.now) (g.O.Sink.seen c.args.output.now) c.run_program.result (g.S.Source.seen c.run_program.new.input) (g.O.Sink.seen c.run_program.new.output) in
    subst P c.in-Ok.ensures.linked c.run_program.ensures
