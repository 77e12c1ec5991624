-- What the passes as one may make of a typed unit.
use Rattle.pass_core.specs.Lists.{Through}
use Rattle.unit_passes.specs.declared.units.UnitOf.{UnitOf}
use Rattle.clight_unit.specs.declared.unit.ClightUnit.{ClightUnit}
use Rattle.rtl_lang.specs.declared.syntax.RtlParts.{RtlParts}
use Rattle.core_gen.specs.Units as core_units
use Rattle.rtl_gen.specs.Units as rtl_units

-- the unit of Rtl that is made of that of Core
abbrev pub Made : ClightUnit → UnitOf RtlParts → Type 0
Made = Through core_units.Matches rtl_units.Matches
