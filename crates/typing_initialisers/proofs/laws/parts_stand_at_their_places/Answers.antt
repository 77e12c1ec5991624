use Rattle.typing_initialisers.proofs.Standing.{stand, point}
use Rattle.typing_initialisers.proofs.laws.parts_stand_at_their_places.Goals as goal

pub returns-clause-bytes : goal.returns-clause-bytes
returns-clause-bytes c = stand

pub returns-clause-words : goal.returns-clause-words
returns-clause-words c = point
