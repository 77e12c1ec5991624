use Rattle.second_code.proofs.LinkableUnits.{units_linkable, units_right}
use Rattle.second_code.proofs.refining.linked_units_are_linkable.Goals as goal

pub returns : goal.returns
returns c = record { linkable = λ units are fine. units_linkable units are fine; right = λ units are fine turns. units_right units are fine turns }
