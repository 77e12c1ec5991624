use Rattle.typing_types.specs.laws.Same.{same_type-true, same_type-self}
use Rattle.typing_types.proofs.same.same_types_are_one.Goals as goal

pub returns-clause-one : goal.returns-clause-one
returns-clause-one c = same_type-true

pub returns-clause-itself : goal.returns-clause-itself
returns-clause-itself c = same_type-self
