use Rattle.std.proofs.Common.{◌∙◌}
use Rattle.typing_units.proofs.Walked.{items_more, item_rows_more}
use Rattle.typing_units.proofs.objects.walk_items.Goals as goal

pub items-preserved : goal.items-preserved
items-preserved c =
    let one = c.in_ok-walk_item.ensures.walk in
    record {
      walk = items_more c.args.whole.now c.args.linkage c.args.base.now c.items.walk c.walk_item.new.walk c.args.items.now c.items.item-index c.item-item.result c.items-test.true c.item-item.is one ∙ c.items.invariant.walk;
      told = item_rows_more c.args.whole.now c.args.linkage c.args.base.now c.items.walk c.walk_item.new.walk c.items.faults c.walk_item.new.faults c.args.items.now c.items.item-index c.item-item.result c.items-test.true c.item-item.is one c.in_ok-walk_item.ensures.rows ∙ c.items.invariant.told;
    }
