use Rattle.std.proofs.Common.{◌≡◌, drop}
use Rattle.typing_units.specs.Faces.{face_from}
use Rattle.typing_units.proofs.faces.add_symbols.Given as goal

-- the symbols from here on are left
abbrev pub invariant-symbols : goal.invariant-symbols
invariant-symbols l = face_from l.symbols l.scope l.needs l.face l.number (drop l.number l.symbols.names) ≡ face_from l.symbols l.scope l.needs l.initial.face 0 l.symbols.names
