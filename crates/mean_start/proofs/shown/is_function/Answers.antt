use Rattle.std.proofs.Common.{ap, ◌∙◌}
use Rattle.std.specs.Option.{is_some}
use Rattle.mean_start.proofs.Meanings.{function_some}
use Rattle.mean_start.proofs.shown.is_function.Goals as goal

pub returns : goal.returns
returns c =
    c.is_some.ensures
    ∙ ap is_some (c.look_up.ensures ∙ c.requires.linkage.function_definitions c.args.name.now)
    ∙ function_some c.args.linkage.now.units.now c.args.name.now
