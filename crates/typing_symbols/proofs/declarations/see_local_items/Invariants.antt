use Rattle.std.proofs.Common.{◌≡◌, ◌++◌, drop}
use Rattle.typing_symbols.specs.Sights.{hidden_by_items, items_sights}
use Rattle.typing_symbols.proofs.declarations.see_local_items.Given as goal

-- those that are left hide on from here, and are seen behind what was seen
abbrev pub invariant-items : goal.invariant-items
invariant-items l = record {
  hidden : hidden_by_items l.hidden (drop l.item-index l.items) ≡ hidden_by_items l.initial.hidden l.items;
  sights : l.out ++ items_sights l.hidden (drop l.item-index l.items) ≡ l.initial.out ++ items_sights l.initial.hidden l.items;
}
