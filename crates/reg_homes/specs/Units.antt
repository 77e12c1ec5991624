-- Units of Ltl that match units of Rtl.
use Rattle.unit_names.specs.declared.naming.Naming.{Naming}
use Rattle.unit_passes.specs.declared.units.UnitOf.{UnitOf}
use Rattle.unit_passes.specs.Units.{UnitMatches}
use Rattle.rtl_lang.specs.declared.syntax.RtlParts.{RtlParts}
use Rattle.ltl_lang.specs.declared.syntax.LtlParts.{LtlParts}
use Rattle.reg_homes.specs.Homes.{Placed}

-- the names are kept, and each function is placed in homes
abbrev pub Matches : UnitOf RtlParts → UnitOf LtlParts → Type 0
Matches u v = UnitMatches (λ (naming : Naming) (f : RtlParts) (h : LtlParts). Placed f h) u v
