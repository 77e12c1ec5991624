use Rattle.std.proofs.Common.{◌≡◌, drop, map}
use Rattle.typing_faults.specs.Faults.{told}
use Rattle.typing_initialisers.specs.Initialisers.{item_of, inner_rows}
use Rattle.typing_initialisers.proofs.filling.+item.Given as goal

-- what is left is told from here on
abbrev pub invariant-tell_items-items : goal.invariant-tell_items-items
invariant-tell_items-items l = told l.faults (inner_rows (map (item_of l.scope) (drop l.item-index l.items))) ≡ told l.initial.faults (inner_rows (map (item_of l.scope) l.items))
