use Rattle.std.proofs.Common.{◌≡◌, ◌++◌, take}
use Rattle.std.specs.List.{flat_map}
use Rattle.typing_symbols.specs.Sights.{initialiser_sights}
use Rattle.typing_symbols.proofs.declarations.+initialiser.Given as goal

abbrev pub invariant-see_initialisers-items : goal.invariant-see_initialisers-items
invariant-see_initialisers-items l = l.out ≡ l.initial.out ++ flat_map (initialiser_sights l.hidden) (take l.item-index l.items)
