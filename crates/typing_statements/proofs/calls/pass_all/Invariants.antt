use Rattle.std.proofs.Common.{◌≡◌, [], drop, Some}
use Rattle.typing_faults.specs.Faults.{told}
use Rattle.typing_statements.specs.Calls.{arguments, arguments_rows}
use Rattle.typing_statements.proofs.calls.pass_all.Given as goal

-- the rows of those that are left are told, and those that are left are gathered, from here on
abbrev pub invariant-trees : goal.invariant-trees
invariant-trees l = record {
  rows : told l.faults (arguments_rows l.scope l.left (drop l.tree-index l.trees)) ≡ told l.initial.faults (arguments_rows l.scope l.parameters l.trees);
  values : arguments l.scope l.values l.left (drop l.tree-index l.trees) ≡ arguments l.scope (Some []) l.parameters l.trees;
}
