-- What naming needs of a typed unit.
use Rattle.std.specs.Prelude.{List, map}
use Rattle.clight_unit.specs.declared.unit.ClightUnit.{ClightUnit as TypedUnit}
use Rattle.clight_unit.specs.declared.function.Function.{Function}
use Rattle.unit_names.specs.Names.{FunctionPart, NamedUnit}

abbrev pub function_part : Function → FunctionPart
function_part f = record { symbol = f.symbol; is_static = f.is_static; need = f.need }

abbrev pub named : TypedUnit → NamedUnit
named u = record { face = u.face; globals = u.globals; symbol_names = u.symbol_names; functions = map function_part u.functions }

abbrev pub all_named : List TypedUnit → List NamedUnit
all_named units = map named units
