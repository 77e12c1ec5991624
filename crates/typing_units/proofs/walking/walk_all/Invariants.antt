use Rattle.std.proofs.Common.{◌≡◌, drop}
use Rattle.typing_faults.specs.Faults.{told}
use Rattle.typing_units.specs.Walk.{walk_rows, walk_behind}
use Rattle.typing_units.proofs.walking.walk_all.Given as goal

-- those that are left are walked from here on
abbrev pub invariant-externals : goal.invariant-externals
invariant-externals l = record {
  walk : walk_behind l.whole l.walk (drop l.external-index l.tree) ≡ walk_behind l.whole l.initial.walk l.tree;
  told : told l.faults (walk_rows l.whole l.walk (drop l.external-index l.tree)) ≡ told l.initial.faults (walk_rows l.whole l.initial.walk l.tree);
}
