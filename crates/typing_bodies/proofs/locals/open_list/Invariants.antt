use Rattle.std.proofs.Common.{◌≡◌, drop}
use Rattle.typing_faults.specs.Faults.{told}
use Rattle.typing_bodies.specs.Locals.{opened, list_rows, list_behind}
use Rattle.typing_bodies.proofs.locals.open_list.Given as goal

-- those that are left are opened from here on
abbrev pub invariant-items : goal.invariant-items
invariant-items l = record {
  behind : list_behind (opened l.scope l.prologue) l.list.is_register l.list.base (drop l.item-index l.list.items) ≡ list_behind (opened l.initial.scope l.initial.prologue) l.list.is_register l.list.base l.list.items;
  rows : told l.faults (list_rows (opened l.scope l.prologue) l.list.is_register l.list.base (drop l.item-index l.list.items)) ≡ told l.initial.faults (list_rows (opened l.initial.scope l.initial.prologue) l.list.is_register l.list.base l.list.items);
}
