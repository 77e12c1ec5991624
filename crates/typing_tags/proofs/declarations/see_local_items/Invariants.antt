use Rattle.std.proofs.Common.{◌≡◌, ◌++◌, take}
use Rattle.std.specs.List.{flat_map}
use Rattle.typing_tags.specs.Tags.{local_tags}
use Rattle.typing_tags.proofs.declarations.see_local_items.Given as goal

abbrev pub invariant-items : goal.invariant-items
invariant-items l = l.out ≡ l.initial.out ++ flat_map local_tags (take l.item-index l.items)
