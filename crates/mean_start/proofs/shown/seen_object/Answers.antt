use Rattle.std.proofs.Common.{◌∙◌}
use Rattle.mean_start.proofs.Meanings.{seen_is}
use Rattle.mean_start.proofs.shown.seen_object.Goals as goal

pub returns : goal.returns
returns c = c.look_up.ensures ∙ c.requires.linkage.seen c.args.name.now ∙ seen_is c.args.linkage.now.units.now c.args.name.now
