-- Units whose objects, functions, definitions and uses are numbered by 32 bits.
use Rattle.std.specs.Prelude.{◌<◌, ◌^◌, List, [], ◌∷◌, length}
use Rattle.clight_unit.specs.declared.unit.ClightUnit.{ClightUnit as TypedUnit}

pub record IsSmall (u : TypedUnit) : Type 0 where
  pub globals : length u.globals < 2 ^ 32
  pub functions : length u.functions < 2 ^ 32
  pub defs : length u.face.defs < 2 ^ 32
  pub uses : length u.face.uses < 2 ^ 32

abbrev pub AreSmall : List TypedUnit → Type 0
AreSmall [] = Unit {0}
AreSmall (u ∷ us) = IsSmall u × AreSmall us
