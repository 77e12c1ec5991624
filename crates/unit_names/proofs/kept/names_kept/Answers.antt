use Rattle.pass_core.specs.laws.Lists.{same_of_each}
use Rattle.unit_names.proofs.kept.names_kept.Goals as goal

pub returns-clause-units : goal.returns-clause-units
returns-clause-units g c = same_of_each _ _ _ g.met.P.KeepsNames.same_named
