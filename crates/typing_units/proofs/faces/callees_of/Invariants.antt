use Rattle.std.proofs.Common.{◌≡◌, drop}
use Rattle.typing_units.specs.Faces.{with_externals, callees_of}
use Rattle.typing_units.proofs.faces.callees_of.Given as goal

abbrev pub invariant-externals : goal.invariant-externals
invariant-externals l = with_externals l.symbols l.callees (drop l.external-index l.tree) ≡ callees_of l.symbols l.tree
