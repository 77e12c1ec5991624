use Rattle.typing_statements.proofs.Agreeing.{bodies_agree}
use Rattle.typing_statements.proofs.laws.broken_bodies_are_not_typed.Goals as goal

pub returns : goal.returns
returns c = bodies_agree c.broken_expressions_have_no_type.ensures
