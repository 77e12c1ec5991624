use Rattle.std.proofs.Common.{refl}
use Rattle.second_form.specs.SecondForm.{IsItem}
use Rattle.second_form.proofs.Each.{one_more, all_of_them}
use Rattle.second_form.proofs.second_rules.are_items.Goals as goal

pub items-preserved : goal.items-preserved
items-preserved c = one_more IsItem c.args.items.now c.items.item-index c.item-item.result c.items-test.true c.item-item.is c.items.invariant (c.is_item.ensures.0 c.if-not-is_item.false)

pub returns : goal.returns
returns c = (λ _. all_of_them IsItem c.args.items.now c.items.item-index c.items-test.false c.items.invariant, λ _. refl)
