use Rattle.std.proofs.lemmas.Result.{on_ok_weaker}
use Rattle.typing_declarations.proofs.FunctionHeads.{head_told}
use Rattle.typing_declarations.proofs.functions.add_head.Goals as goal

pub returns-clause-told : goal.returns-clause-told
returns-clause-told c =
    on_ok_weaker c.add_parameters.result
    (λ after_is. head_told c.args.whole.now c.args.scope.now c.leave.new.self c.name_function.new.scope c.args.is_definition c.args.head.now c.in_ok-prototype.prototype c.as_slice.result.now c.args.faults.now c.tell_head.new.faults c.add_parameters.new.faults c.leave.ensures c.in_ok-prototype.ensures c.in_ok-name_function.ensures c.tell_head.ensures c.as_slice.ensures after_is)
    c.add_parameters.ensures.told
