use Rattle.second_code.proofs.WholeLinking.{whole_linking}
use Rattle.second_code.proofs.refining.linked_units_refine.Goals as goal

pub returns : goal.returns
returns c = λ units image are linked fine input. whole_linking units image linked fine are input
