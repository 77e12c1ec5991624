use Rattle.std.proofs.Common.{◌≡◌, map, take}
use Rattle.typing_declarations.specs.Functions.{parameter_type}
use Rattle.typing_declarations.proofs.prototypes.parameter_types.Given as goal

abbrev pub invariant-parameters : goal.invariant-parameters
invariant-parameters l = l.types ≡ map (parameter_type l.scope) (take l.parameter-index l.parameters)
