use Rattle.std.proofs.Common.{ap, ◌∙◌}
use Rattle.typing_nodes.specs.Nodes.{told_nodes, function_nodes}
use Rattle.typing_bodies.proofs.FunctionParts.{function_is}
use Rattle.typing_bodies.proofs.functions.typed_function.Goals as goal

pub returns-clause-function : goal.returns-clause-function
returns-clause-function c =
    c.in_ok-function.ensures
    ∙ (function_is c.args.whole.now c.args.scope.now c.begin_function.new.scope c.open_locals.new.scope c.args.head.now c.args.locals.now c.args.body.now c.in_ok-begin_function.field-0 c.new.result c.new-2.result c.open_locals.new.prologue c.in_ok-result.result c.function_nodes-nodes.result c.in_ok-statements.statements c.in_ok-begin_function.ensures.scope c.in_ok-begin_function.ensures.frame c.new.ensures c.new-2.ensures c.in_ok-open_locals.ensures.opened c.in_ok-result.ensures (c.function_nodes-nodes.ensures ∙ ap (λ ps. told_nodes (function_nodes ps c.args.locals.now c.args.body.now)) c.as_slice.ensures) c.in_ok-statements.ensures.body)
