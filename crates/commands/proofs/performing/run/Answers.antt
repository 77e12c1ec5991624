use Rattle.std.proofs.Common.{List, ℕ, refl, inr, subst}
use Rattle.commands.specs.Doing.{outside}
use Rattle.commands.specs.Steps.{Runs}
use Rattle.commands.proofs.performing.run.Goals as goal

pub returns-in-Ok : goal.returns-in-Ok
returns-in-Ok g c =
    let between = outside (g.F.Files.seen c.fetch.new.files) (g.S.Source.seen c.args.input.now) (g.O.Sink.seen c.args.output.now) in
    let new = outside (g.F.Files.seen c.fetch.new.files) (g.S.Source.seen c.run_image.new.input) (g.O.Sink.seen c.run_image.new.output) in
    let P : List ℕ → Type 0 = λ bytes. Runs c.args.steps c.args.image.now bytes between c.run_image.result new in
    inr (record { value = c.in-Ok.bytes; between = between; went = (c.in-Ok.ensures, refl); goes_on = subst P c.as_slice.ensures (c.run_image.ensures (g.F.Files.seen c.fetch.new.files)) })
