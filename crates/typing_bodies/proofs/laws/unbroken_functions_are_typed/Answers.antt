use Rattle.typing_bodies.proofs.Unbroken.{is_typed}
use Rattle.typing_bodies.proofs.laws.unbroken_functions_are_typed.Goals as goal

pub returns : goal.returns
returns c = λ whole scope head locals body h.
    is_typed c.broken_expressions_have_no_type.ensures c.broken_bodies_are_not_typed.ensures whole scope head locals body h
