use Rattle.std.proofs.Common.{ap, ◌∙◌}
use Rattle.std.specs.Option.{is_some}
use Rattle.mean_start.proofs.Meanings.{defined_some}
use Rattle.mean_start.proofs.faces.is_defined.Goals as goal

pub returns : goal.returns
returns c =
    c.is_some.ensures
    ∙ ap is_some (c.look_up.ensures ∙ c.requires.linkage.definitions c.args.name.now)
    ∙ defined_some c.args.linkage.now.units.now c.args.name.now
