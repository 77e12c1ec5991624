use Rattle.std.proofs.Common.{◌≡◌, ◌++◌, take}
use Rattle.std.specs.List.{flat_map}
use Rattle.typing_symbols.specs.Sights.{object_sights}
use Rattle.typing_symbols.proofs.declarations.see_objects.Given as goal

abbrev pub invariant-items : goal.invariant-items
invariant-items l = l.out ≡ l.initial.out ++ flat_map (object_sights l.linkage) (take l.item-index l.items)
