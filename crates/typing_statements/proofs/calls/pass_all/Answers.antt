use Rattle.std.proofs.Common.{◌≡◌, ℕ, ◌+◌, ◌<◌, List, length, drop, slice_get, Option, ap, ◌∙◌, arith}
use Rattle.std.specs.Option.{option_copied}
use Rattle.typing_types.specs.Types.{Derived}
use Rattle.typing_faults.specs.Faults.{told}
use Rattle.clight_unit.specs.declared.statement.Value.{Value}
use Rattle.typing_expressions.specs.declared.node.Node.{Node}
use Rattle.typing_expressions.specs.Expressions.{node_of}
use Rattle.typing_expressions.specs.Places.{text_place}
use Rattle.typing_statements.specs.Gathering.{with_next}
use Rattle.typing_statements.specs.Calls.{argument, argument_rows, arguments, arguments_rows}
use Rattle.typing_statements.proofs.Told.{argument_rows_left, arguments_left}
use Rattle.typing_statements.proofs.calls.pass_all.Goals as goal

pub trees-preserved : goal.trees-preserved
trees-preserved c =
    let scope = c.args.scope.now in
    let trees = c.args.trees.now in
    let left = c.trees.left.now in
    let tree = c.tree-item.result in
    let i = c.trees.tree-index in
    let found = c.in_ok-node.node in
    let is = c.in_ok-node.ensures.node in
    let faults = c.typed.new.faults in
    let next = slice_get left 0 in
    let h : i < length trees = omega arith in
    let told_here =
    argument_rows_left scope left trees i tree c.trees.faults faults c.pass.new.faults h c.tree-item.is c.in_ok-node.ensures.rows
    (c.in_ok-value.ensures.rows
    ∙ ap (λ (at : ℕ). told faults (argument_rows at (option_copied c.next_type.result) found)) c.text_place.ensures
    ∙ ap (λ (p : Option Derived). told faults (argument_rows (text_place tree) p found)) c.next_type.ensures
    ∙ ap (λ (n : Option Node). told faults (argument_rows (text_place tree) next n)) is) in
    let added : c.add.new.self ≡ with_next c.trees.values (argument next (node_of scope tree)) =
    c.in_ok-add.ensures
    ∙ ap (λ (v : Option Value). with_next c.trees.values v)
    (c.in_ok-value.ensures.value ∙ ap (λ (p : Option Derived). argument p found) c.next_type.ensures ∙ ap (λ (n : Option Node). argument next n) is) in
    let behind = drop (i + 1) trees in
    record {
      rows = ap (λ (ps : List Derived). told c.pass.new.faults (arguments_rows scope ps behind)) c.types_behind-left.ensures ∙ told_here ∙ c.trees.invariant.rows;
      values =
          ap (λ (z : Option (List Value)). arguments scope z c.types_behind-left.result.now behind) added
          ∙ ap (λ (ps : List Derived). arguments scope (with_next c.trees.values (argument next (node_of scope tree))) ps behind) c.types_behind-left.ensures
          ∙ arguments_left scope left trees i tree c.trees.values h c.tree-item.is
          ∙ c.trees.invariant.values;
    }
