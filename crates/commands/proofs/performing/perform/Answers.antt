use Rattle.std.proofs.Common.{sym, subst}
use Rattle.command_words.specs.declared.words.Order.{Order}
use Rattle.command_words.specs.Orders.{request_of}
use Rattle.commands.specs.Doing.{outside}
use Rattle.commands.specs.Does.{does}
use Rattle.commands.proofs.performing.perform.Goals as goal

pub returns-in-Compile : goal.returns-in-Compile
returns-in-Compile g c =
    let input = g.S.Source.seen c.args.input.now in let output = g.O.Sink.seen c.args.output.now in
    let P : Order → Type 0 = λ o. does (request_of o) (outside (g.F.Files.seen c.args.files.now) input output) c.compile.result (outside (g.F.Files.seen c.compile.new.files) input output) in
    subst P (sym c.in-Compile.is) (c.compile.ensures input output)
