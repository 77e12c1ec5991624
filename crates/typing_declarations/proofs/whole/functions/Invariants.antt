use Rattle.std.proofs.Common.{◌≡◌, [], drop}
use Rattle.typing_declarations.specs.Whole.{with_functions}
use Rattle.typing_declarations.proofs.whole.functions.Given as goal

-- those that are left are added from here on
abbrev pub invariant-externals : goal.invariant-externals
invariant-externals l = with_functions l.names (drop l.external-index l.tree) ≡ with_functions [] l.tree
