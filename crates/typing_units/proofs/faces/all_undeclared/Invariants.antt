use Rattle.std.proofs.Common.{◌≡◌, map, take}
use Rattle.typing_units.specs.Faces.{undeclared}
use Rattle.typing_units.proofs.faces.all_undeclared.Given as goal

abbrev pub invariant-symbols : goal.invariant-symbols
invariant-symbols l = l.callees ≡ map undeclared (take l.number l.symbols.names)
