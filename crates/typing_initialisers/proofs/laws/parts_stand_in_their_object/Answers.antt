use Rattle.typing_initialisers.proofs.Within.{whole, object_fits}
use Rattle.typing_initialisers.proofs.Fours.{fours}
use Rattle.typing_initialisers.proofs.laws.parts_stand_in_their_object.Goals as goal

pub returns-clause-parts : goal.returns-clause-parts
returns-clause-parts c = whole

pub returns-clause-bytes : goal.returns-clause-bytes
returns-clause-bytes c = object_fits

pub returns-clause-pointers : goal.returns-clause-pointers
returns-clause-pointers c = fours
