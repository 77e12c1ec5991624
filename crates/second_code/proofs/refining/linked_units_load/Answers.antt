use Rattle.second_code.proofs.WholeLoading.{whole_loading}
use Rattle.second_code.proofs.refining.linked_units_load.Goals as goal

pub returns : goal.returns
returns c = λ units image are linked fine. whole_loading units image linked fine are
