use Rattle.std.proofs.Common.{◌∙◌}
use Rattle.block_mem.specs.Start.{is_own}
use Rattle.mean_start.proofs.Meanings.{object_is}
use Rattle.mean_start.proofs.own.own_object.Goals as goal

pub returns : goal.returns
returns c =
    let own = c.args.own.now in let name = c.args.name.now in
    c.look_up.ensures ∙ c.requires.own.objects name ∙ object_is (is_own name) own.number own.unit.now
