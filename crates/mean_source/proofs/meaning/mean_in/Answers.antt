use Rattle.std.proofs.Common.{List, subst}
use Rattle.clight_unit.specs.declared.unit.ClightUnit.{ClightUnit as TypedUnit}
use Rattle.mean_source.specs.Means.{Means}
use Rattle.mean_source.proofs.meaning.mean_in.Goals as goal

pub returns : goal.returns
returns g c =
    let P : List TypedUnit → Type 0 = λ units.
    Means units c.args.room c.args.steps (g.S.Source.seen c.args.input.now) (g.O.Sink.seen c.args.output.now) c.mean_linked.result (g.S.Source.seen c.mean_linked.new.input) (g.O.Sink.seen c.mean_linked.new.output) in
    subst P c.in-Ok.ensures.units c.mean_linked.ensures
