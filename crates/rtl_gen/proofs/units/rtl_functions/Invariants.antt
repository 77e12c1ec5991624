use Rattle.std.proofs.Common.{◌≡◌, map, take}
use Rattle.rtl_gen.specs.Translation.{rtl_function}
use Rattle.rtl_gen.proofs.units.rtl_functions.Given as goal

-- those that were gone through are in Rtl
abbrev pub invariant-functions : goal.invariant-functions
invariant-functions l = l.made ≡ map rtl_function (take l.function-index l.functions)
