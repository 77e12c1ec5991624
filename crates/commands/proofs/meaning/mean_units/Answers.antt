use Rattle.std.proofs.Common.{sym, subst}
use Rattle.command_words.specs.Orders.{texts}
use Rattle.commands.specs.declared.answer.Answer.{Answer}
use Rattle.commands.specs.Doing.{outside}
use Rattle.commands.specs.Meanings.{MeansBy}
use Rattle.commands.proofs.Meaningful.{end_is_told, fault_is_told}
use Rattle.commands.proofs.meaning.mean_units.Goals as goal

pub returns-in-Ok : goal.returns-in-Ok
returns-in-Ok g c files =
    let i = g.S.Source.seen c.args.input.now in let o = g.O.Sink.seen c.args.output.now in
    let i' = g.S.Source.seen c.mean.new.input in let o' = g.O.Sink.seen c.mean.new.output in
    let P : Answer → Type 0 = λ a. MeansBy c.args.steps (texts c.args.names.now) c.args.units.now (outside files i o) a (outside files i' o') in
    subst P (sym c.end_told.ensures) (end_is_told c.args.steps (texts c.args.names.now) c.args.units.now files i i' o o' c.in-Ok.end c.in-Ok.ensures)

pub returns-in-Ok-fault_told : goal.returns-in-Ok-fault_told
returns-in-Ok-fault_told g c files =
    let i = g.S.Source.seen c.args.input.now in let o = g.O.Sink.seen c.args.output.now in
    let i' = g.S.Source.seen c.mean.new.input in let o' = g.O.Sink.seen c.mean.new.output in
    let P : Answer → Type 0 = λ a. MeansBy c.args.steps (texts c.args.names.now) c.args.units.now (outside files i o) a (outside files i' o') in
    subst P (sym c.in-Ok-fault_told.ensures.told) (fault_is_told c.args.steps (texts c.args.names.now) c.args.units.now files i i' o o' c.in-Err.fault c.in-Err.ensures)
