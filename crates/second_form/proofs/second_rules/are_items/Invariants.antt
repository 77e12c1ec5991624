use Rattle.std.proofs.Common.{take}
use Rattle.std.specs.List.{All}
use Rattle.second_form.specs.SecondForm.{IsItem}
use Rattle.second_form.proofs.second_rules.are_items.Given as goal

abbrev pub invariant-items : goal.invariant-items
invariant-items l = All IsItem (take l.item-index l.items)
