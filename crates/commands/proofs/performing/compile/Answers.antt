use Rattle.std.proofs.Common.{ℕ, refl, inr, ap}
use Rattle.commands.specs.declared.answer.Answer.TheVariants as answer
use Rattle.commands.specs.Doing.{outside}
use Rattle.commands.proofs.performing.compile.Goals as goal

pub returns-in-Ok : goal.returns-in-Ok
returns-in-Ok g c input output =
    inr (record { value = c.in-Ok.bytes; between = outside (g.F.Files.seen c.compile_to.new.files) input output; went = c.in-Ok.ensures input output; goes_on = (ap (λ (n : ℕ). answer.ObjectStored n) c.len.ensures, refl) })
