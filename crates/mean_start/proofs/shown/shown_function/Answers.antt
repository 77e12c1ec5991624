use Rattle.std.proofs.Common.{◌∙◌}
use Rattle.mean_start.proofs.Meanings.{shown_is}
use Rattle.mean_start.proofs.shown.shown_function.Goals as goal

pub returns : goal.returns
returns c = c.look_up.ensures ∙ c.requires.linkage.shown c.args.name.now ∙ shown_is c.args.linkage.now.units.now c.args.name.now
