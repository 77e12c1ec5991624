use Rattle.second_code.proofs.TwoUnitsLinked.{two_units_linked, two_units_no_fault}
use Rattle.second_code.proofs.refining.two_units_are_linked.Goals as goal

pub returns : goal.returns
returns c = record { linked = two_units_linked; no_fault = two_units_no_fault }
