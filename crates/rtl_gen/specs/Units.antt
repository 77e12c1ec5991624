-- What Rtl has for Core's units.
use Rattle.std.specs.Prelude.{◌≡◌, map}
use Rattle.core_lang.specs.declared.syntax.CoreUnit.{CoreUnit}
use Rattle.unit_passes.specs.declared.units.UnitOf.{UnitOf}
use Rattle.rtl_lang.specs.declared.syntax.RtlParts.{RtlParts}
use Rattle.rtl_gen.specs.Translation.{rtl_function}

-- the unit of Rtl that the pass makes
pub record Matches (u : CoreUnit) (v : UnitOf RtlParts) : Type 0 where
  pub naming : v.naming ≡ u.naming
  pub functions : v.functions ≡ map rtl_function u.functions
