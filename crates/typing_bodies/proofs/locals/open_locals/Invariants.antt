use Rattle.std.proofs.Common.{◌≡◌, drop}
use Rattle.typing_faults.specs.Faults.{told}
use Rattle.typing_bodies.specs.Locals.{opened, locals_rows, locals_behind}
use Rattle.typing_bodies.proofs.locals.open_locals.Given as goal

-- those that are left are opened from here on
abbrev pub invariant-locals : goal.invariant-locals
invariant-locals l = record {
  behind : locals_behind (opened l.scope l.prologue) (drop l.list-index l.locals) ≡ locals_behind (opened l.initial.scope l.initial.prologue) l.locals;
  rows : told l.faults (locals_rows (opened l.scope l.prologue) (drop l.list-index l.locals)) ≡ told l.initial.faults (locals_rows (opened l.initial.scope l.initial.prologue) l.locals);
}
