use Rattle.std.proofs.Common.{◌∙◌}
use Rattle.typing_initialisers.proofs.Turns.{one_told}
use Rattle.typing_initialisers.proofs.filling.+item.Goals as goal

pub tell_items-items-preserved : goal.tell_items-items-preserved
tell_items-items-preserved t c =
    one_told c.args.scope.now c.items.faults c.tell.new.faults c.args.items.now c.items.item-index c.item-item.result c.items-test.true c.item-item.is c.in_ok-tell.ensures
    ∙ c.items.invariant
