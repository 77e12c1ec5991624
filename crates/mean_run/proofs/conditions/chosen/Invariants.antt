use Rattle.std.proofs.Common.{◌≡◌, drop}
use Rattle.clight_sem.specs.Turns.{chosen}
use Rattle.mean_run.specs.Scenes.{seen}
use Rattle.mean_run.proofs.conditions.chosen.Given as goal

-- what is chosen among the arms that are left is chosen among all
abbrev pub invariant-arms : goal.invariant-arms
invariant-arms l = chosen (seen l.scene) (drop l.arm-index l.arms) l.last ≡ chosen (seen l.scene) l.arms l.last
