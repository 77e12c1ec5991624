use Rattle.std.proofs.Common.{List, length, inr, ap, subst, arith}
use Rattle.clight_unit.specs.declared.unit.ClightUnit.{ClightUnit as TypedUnit}
use Rattle.command_words.specs.Orders.{texts}
use Rattle.commands.specs.Doing.{outside}
use Rattle.commands.specs.Meanings.{MeansBy}
use Rattle.commands.proofs.Meaningful.{few_units}
use Rattle.commands.proofs.WholeCommands.{some_input, some_output}
use Rattle.commands.proofs.performing.mean.Goals as goal

pub returns : goal.returns
returns g c =
    let i = g.S.Source.seen c.args.input.now in let o = g.O.Sink.seen c.args.output.now in
    let f = g.F.Files.seen c.check_all.new.files in
    let new = outside f (g.S.Source.seen c.mean_units.new.input) (g.O.Sink.seen c.mean_units.new.output) in
    let P : List TypedUnit → Type 0 = λ us. MeansBy c.args.steps (texts c.args.units.now) us (outside f i o) c.mean_units.result new in
    inr (record { value = c.in-Ok.typed; between = outside f i o; went = c.in-Ok.ensures i o; goes_on = subst P c.as_slice.ensures (c.mean_units.ensures f) })

pub mean_units-requires : goal.mean_units-requires
mean_units-requires g c =
    let few = few_units c.args.units.now _ c.in-Ok.typed _ (c.in-Ok.ensures some_input some_output) c.requires.few in
    let s = ap (λ (us : List TypedUnit). length us) c.as_slice.ensures in
    record { few = omega (arith, few, s) }
