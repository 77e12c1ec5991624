use Rattle.std.proofs.Common.{◌∙◌}
use Rattle.mean_start.proofs.Meanings.{shared_is}
use Rattle.mean_start.proofs.shown.shared_object.Goals as goal

pub returns : goal.returns
returns c = c.look_up.ensures ∙ c.requires.linkage.shared c.args.name.now ∙ shared_is c.args.linkage.now.units.now c.args.name.now
