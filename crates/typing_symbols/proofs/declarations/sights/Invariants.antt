use Rattle.std.proofs.Common.{◌≡◌, ◌++◌, take}
use Rattle.std.specs.List.{flat_map}
use Rattle.typing_symbols.specs.Sights.{external_sights}
use Rattle.typing_symbols.proofs.declarations.sights.Given as goal

abbrev pub invariant-externals : goal.invariant-externals
invariant-externals l = l.out ≡ flat_map external_sights (take l.external-index l.tree)
