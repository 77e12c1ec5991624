use Rattle.std.proofs.Common.{◌≡◌, map, take}
use Rattle.typing_bodies.specs.Signatures.{parameter_type}
use Rattle.typing_bodies.proofs.signatures.parameter_types.Given as goal

abbrev pub invariant-parameters : goal.invariant-parameters
invariant-parameters l = l.types ≡ map parameter_type (take l.parameter-index l.parameters)
