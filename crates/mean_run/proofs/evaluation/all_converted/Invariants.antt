use Rattle.std.proofs.Common.{◌≡◌, ◌++◌, drop}
use Rattle.std.specs.Option.{option_map}
use Rattle.clight_sem.specs.Values.{all_converted}
use Rattle.mean_run.specs.Scenes.{seen}
use Rattle.mean_run.proofs.evaluation.all_converted.Given as goal

-- those that are left come behind those that were found
abbrev pub invariant-values : goal.invariant-values
invariant-values l = option_map (λ more. l.found ++ more) (all_converted (seen l.scene) (drop l.value-index l.values)) ≡ all_converted (seen l.scene) l.values
