use Rattle.std.proofs.Common.{◌≡◌, drop}
use Rattle.typing_faults.specs.Faults.{told}
use Rattle.typing_units.specs.Objects.{items_rows, items_behind}
use Rattle.typing_units.proofs.objects.walk_items.Given as goal

-- those that are left are walked from here on
abbrev pub invariant-items : goal.invariant-items
invariant-items l = record {
  walk : items_behind l.whole l.linkage l.base l.walk (drop l.item-index l.items) ≡ items_behind l.whole l.linkage l.base l.initial.walk l.items;
  told : told l.faults (items_rows l.whole l.linkage l.base l.walk (drop l.item-index l.items)) ≡ told l.initial.faults (items_rows l.whole l.linkage l.base l.initial.walk l.items);
}
