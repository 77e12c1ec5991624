use Rattle.std.proofs.Common.{◌≡◌, drop, map}
use Rattle.typing_faults.specs.Faults.{told}
use Rattle.typing_initialisers.specs.Data.{with_parts}
use Rattle.typing_initialisers.specs.Slots.{slot_in}
use Rattle.typing_initialisers.specs.Initialisers.{item_of, items_from}
use Rattle.typing_initialisers.proofs.filling.+initialiser.Given as goal

-- what is left is told and given from here on
abbrev pub invariant-fill_items-items : goal.invariant-fill_items-items
invariant-fill_items-items l = record {
  rows : told l.faults (items_from (slot_in l.scope l.slots) l.index (map (item_of l.scope) (drop l.index l.items))).rows ≡ told l.initial.faults (items_from (slot_in l.scope l.slots) 0 (map (item_of l.scope) l.items)).rows;
  parts : with_parts l.out (items_from (slot_in l.scope l.slots) l.index (map (item_of l.scope) (drop l.index l.items))).parts ≡ with_parts l.initial.out (items_from (slot_in l.scope l.slots) 0 (map (item_of l.scope) l.items)).parts;
}
