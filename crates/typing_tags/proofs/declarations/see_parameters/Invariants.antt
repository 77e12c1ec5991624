use Rattle.std.proofs.Common.{◌≡◌, ◌++◌, take}
use Rattle.std.specs.List.{flat_map}
use Rattle.typing_tags.specs.Tags.{parameter_tags}
use Rattle.typing_tags.proofs.declarations.see_parameters.Given as goal

abbrev pub invariant-parameters : goal.invariant-parameters
invariant-parameters l = l.out ≡ l.initial.out ++ flat_map parameter_tags (take l.parameter-index l.parameters)
