use Rattle.std.proofs.Common.{◌≡◌, ◌++◌, drop}
use Rattle.typing_units.specs.Faces.{symbol_names}
use Rattle.typing_units.proofs.faces.symbol_names.Given as goal

-- the names from here on are left
abbrev pub invariant-symbols : goal.invariant-symbols
invariant-symbols l = l.names ++ symbol_names l.symbols l.number (drop l.number l.symbols.names) ≡ symbol_names l.symbols 0 l.symbols.names
