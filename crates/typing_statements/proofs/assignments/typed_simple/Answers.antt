use Rattle.std.proofs.Common.{Option, sym, ap, ◌∙◌}
use Rattle.std.proofs.lemmas.Result.{IfOk-weaker}
use Rattle.typing_faults.specs.Faults.{told}
use Rattle.text_grammar.specs.declared.tree.Simple.{Simple}
use Rattle.typing_expressions.specs.declared.node.Node.{Node}
use Rattle.typing_expressions.specs.Expressions.{rows, node_of}
use Rattle.typing_statements.specs.Assignments.{target_rows, value_rows, simple_rows}
use Rattle.typing_statements.proofs.Told.{told_three}
use Rattle.typing_statements.proofs.assignments.typed_simple.Goals as goal

pub returns-in_ok-node-in-Assign-clause-rows : goal.returns-in_ok-node-in-Assign-clause-rows
returns-in_ok-node-in-Assign-clause-rows c =
    let a = c.in-Assign in
    let scope = c.args.scope.now in
    let node = node_of scope a.left in
    let is = c.in_ok-node-in-Assign.ensures.node in
    let before = c.args.faults.now in
    let typed = c.typed.new.faults in
    let checked = c.check_target.new.faults in
    IfOk-weaker _ _ _ (λ _ h.
    told_three before typed checked c.assigned.new.faults (rows scope a.left) (target_rows a.at node) (value_rows scope a.at node a.value)
    c.in_ok-node-in-Assign.ensures.rows
    (c.check_target.ensures ∙ ap (λ (n : Option Node). told typed (target_rows a.at n)) is)
    (h ∙ ap (λ (n : Option Node). told checked (value_rows scope a.at n a.value)) is)
    ∙ ap (λ (z : Simple). told before (simple_rows scope z)) (sym a.is)) c.assigned.ensures.rows
