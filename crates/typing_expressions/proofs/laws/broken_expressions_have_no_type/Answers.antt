use Rattle.typing_expressions.proofs.Agreeing.{whole}
use Rattle.typing_expressions.proofs.laws.broken_expressions_have_no_type.Goals as goal

pub returns : goal.returns
returns c = whole
