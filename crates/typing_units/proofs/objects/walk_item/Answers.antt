use Rattle.typing_units.proofs.ItemParts.{item_is}
use Rattle.typing_units.proofs.objects.walk_item.Goals as goal

pub returns-clause-walk : goal.returns-clause-walk
returns-clause-walk c =
    item_is c.args.whole.now c.args.linkage c.args.base.now c.args.walk.now c.args.item.now c.in_ok-target.target.declared c.in_ok-target.target.stated c.begin_object.new.scope c.end_object.new.scope c.begin_object.new.sum c.object_nodes.result c.together-walk.result c.in_ok-content.content c.laid_of-shape.result c.add_global.new.globals c.in_ok-target.ensures.declared c.in_ok-target.ensures.stated c.in_ok-target.ensures.scope c.in_ok-end_object.ensures c.in_ok-target.ensures.sum c.in_ok-content.ensures.data c.laid_of-shape.ensures c.object_nodes.ensures c.together-walk.ensures c.in_ok-add_global.ensures
