use Rattle.std.proofs.Common.{◌≡◌, ◌+◌, ◌<◌, true, List, ◌++◌, map, length, drop, Option, sym, ap, ◌∙◌, arith}
use Rattle.typing_faults.specs.declared.fault.Row.{Row}
use Rattle.typing_faults.specs.Faults.{told}
use Rattle.text_grammar.specs.declared.tree.Stmt.{Stmt}
use Rattle.text_grammar.specs.declared.tree.Arm.{Arm}
use Rattle.clight_unit.specs.declared.statement.Statement.{Statement}
use Rattle.clight_unit.specs.declared.statement.Arm.{Arm as TypedArm}
use Rattle.typing_statements.specs.Gathering.{with_next}
use Rattle.typing_statements.specs.Statements.{all_rows, all_items, test_rows, maybe_test_rows, maybe_simple_rows, stmt_finding, arm_finding}
use Rattle.typing_statements.proofs.Told.{told_two, told_four, rows_left, items_left, rows_of_choice, rows_of_while, rows_of_do, rows_of_for, rows_of_arm}
use Rattle.typing_statements.proofs.statements.+statement.Goals as goal

pub typed_arm-returns-clause-rows : goal.typed_arm-returns-clause-rows
typed_arm-returns-clause-rows t c =
    let arm = c.args.arm.now in
    let scope = c.args.scope.now in
    let result = c.args.result_type.now in
    let before = c.args.faults.now in
    let test = test_rows scope arm.test in
    told_two before c.typed_test.new.faults c.typed_body.new.faults test (all_rows (map (stmt_finding scope result) c.as_slice.result.now) c.args.in_loop) c.in_ok-test.ensures.rows c.in_ok-body.ensures.rows
    ∙ ap (λ (ss : List Stmt). told before (test ++ all_rows (map (stmt_finding scope result) ss) c.args.in_loop)) c.as_slice.ensures
    ∙ ap (λ (rs : List Row). told before rs) (sym (rows_of_arm scope result c.args.in_loop arm))

pub typed_arms-arms-preserved : goal.typed_arms-arms-preserved
typed_arms-arms-preserved t c =
    let finding = arm_finding c.args.scope.now c.args.result_type.now in
    let arms = c.args.arms.now in
    let i = c.arms.arm-index in
    let in_loop = c.args.in_loop in
    let arm = c.arm-item.result in
    let found = c.arms.found in
    let h : i < length arms = omega arith in
    let added : c.add.new.self ≡ with_next found (finding arm in_loop).item = c.in_ok-add.ensures ∙ ap (λ (x : Option TypedArm). with_next found x) c.in_ok-arm.ensures.arm in
    record {
      rows = rows_left finding in_loop arms i arm c.arms.faults c.typed_arm.new.faults h c.arm-item.is c.in_ok-arm.ensures.rows ∙ c.arms.invariant.rows;
      items =
          ap (λ (z : Option (List TypedArm)). all_items z (map finding (drop (i + 1) arms)) in_loop) added
          ∙ items_left finding in_loop arms i arm found h c.arm-item.is
          ∙ c.arms.invariant.items;
    }

pub typed_body-body-preserved : goal.typed_body-body-preserved
typed_body-body-preserved t c =
    let finding = stmt_finding c.args.scope.now c.args.result_type.now in
    let body = c.args.body.now in
    let i = c.body.statement-index in
    let in_loop = c.args.in_loop in
    let statement = c.statement-item.result in
    let found = c.body.statements in
    let h : i < length body = omega arith in
    let added : c.add.new.self ≡ with_next found (finding statement in_loop).item = c.in_ok-add.ensures ∙ ap (λ (x : Option Statement). with_next found x) c.in_ok-found.ensures.statement in
    record {
      rows = rows_left finding in_loop body i statement c.body.faults c.typed_statement.new.faults h c.statement-item.is c.in_ok-found.ensures.rows ∙ c.body.invariant.rows;
      items =
          ap (λ (z : Option (List Statement)). all_items z (map finding (drop (i + 1) body)) in_loop) added
          ∙ items_left finding in_loop body i statement found h c.statement-item.is
          ∙ c.body.invariant.items;
    }

pub typed_statement-returns-in_ok-body-in-While-clause-rows : goal.typed_statement-returns-in_ok-body-in-While-clause-rows
typed_statement-returns-in_ok-body-in-While-clause-rows t c =
    let a = c.in-While in
    let scope = c.args.scope.now in
    let result = c.args.result_type.now in
    let finding = stmt_finding scope result in
    let before = c.args.faults.now in
    let test = test_rows scope a.test in
    told_two before c.typed_test.new.faults c.typed_body-in-While.new.faults test (all_rows (map finding c.as_slice-in-While.result.now) true) c.in_ok-test-in-While.ensures.rows c.in_ok-body-in-While.ensures.rows
    ∙ ap (λ (ss : List Stmt). told before (test ++ all_rows (map finding ss) true)) c.as_slice-in-While.ensures
    ∙ ap (λ (rs : List Row). told before rs) (sym (rows_of_while scope result c.args.in_loop a.field-0 a.test a.body))
    ∙ ap (λ (s : Stmt). told before (finding s c.args.in_loop).rows) (sym a.is)

pub typed_statement-returns-in_ok-test-in-Do-clause-rows : goal.typed_statement-returns-in_ok-test-in-Do-clause-rows
typed_statement-returns-in_ok-test-in-Do-clause-rows t c =
    let a = c.in-Do in
    let scope = c.args.scope.now in
    let result = c.args.result_type.now in
    let finding = stmt_finding scope result in
    let before = c.args.faults.now in
    let test = test_rows scope a.test in
    told_two before c.typed_body-in-Do.new.faults c.typed_test-in-Do.new.faults (all_rows (map finding c.as_slice-in-Do.result.now) true) test c.in_ok-body-in-Do.ensures.rows c.in_ok-test-in-Do.ensures.rows
    ∙ ap (λ (ss : List Stmt). told before (all_rows (map finding ss) true ++ test)) c.as_slice-in-Do.ensures
    ∙ ap (λ (rs : List Row). told before rs) (sym (rows_of_do scope result c.args.in_loop a.field-0 a.body a.test))
    ∙ ap (λ (s : Stmt). told before (finding s c.args.in_loop).rows) (sym a.is)

pub typed_statement-returns-in_ok-body-in-For-clause-rows : goal.typed_statement-returns-in_ok-body-in-For-clause-rows
typed_statement-returns-in_ok-body-in-For-clause-rows t c =
    let a = c.in-For in
    let scope = c.args.scope.now in
    let result = c.args.result_type.now in
    let finding = stmt_finding scope result in
    let before = c.args.faults.now in
    let first = maybe_simple_rows scope a.first in
    let test = maybe_test_rows scope a.test in
    let step = maybe_simple_rows scope a.step in
    told_four before c.maybe_simple.new.faults c.maybe_test.new.faults c.maybe_simple-in-For.new.faults c.typed_body-in-For.new.faults first test step (all_rows (map finding c.as_slice-in-For.result.now) true) c.in_ok-first-in-For.ensures.rows c.in_ok-test-in-For.ensures.rows c.in_ok-step-in-For.ensures.rows c.in_ok-body-in-For.ensures.rows
    ∙ ap (λ (ss : List Stmt). told before (first ++ (test ++ (step ++ all_rows (map finding ss) true)))) c.as_slice-in-For.ensures
    ∙ ap (λ (rs : List Row). told before rs) (sym (rows_of_for scope result c.args.in_loop a.field-0 a.first a.test a.step a.body))
    ∙ ap (λ (s : Stmt). told before (finding s c.args.in_loop).rows) (sym a.is)

pub typed_statement-returns-in_ok-last-in-If-clause-rows : goal.typed_statement-returns-in_ok-last-in-If-clause-rows
typed_statement-returns-in_ok-last-in-If-clause-rows t c =
    let a = c.in-If in
    let scope = c.args.scope.now in
    let result = c.args.result_type.now in
    let in_loop = c.args.in_loop in
    let finding = stmt_finding scope result in
    let before = c.args.faults.now in
    let last = all_rows (map finding c.as_slice-in-If-2.result.now) in_loop in
    told_two before c.typed_arms.new.faults c.typed_body-in-If.new.faults (all_rows (map (arm_finding scope result) c.as_slice-in-If.result.now) in_loop) last c.in_ok-arms-in-If.ensures.rows c.in_ok-last-in-If.ensures.rows
    ∙ ap (λ (arms : List Arm). told before (all_rows (map (arm_finding scope result) arms) in_loop ++ last)) c.as_slice-in-If.ensures
    ∙ ap (λ (ss : List Stmt). told before (all_rows (map (arm_finding scope result) a.arms) in_loop ++ all_rows (map finding ss) in_loop)) c.as_slice-in-If-2.ensures
    ∙ ap (λ (rs : List Row). told before rs) (sym (rows_of_choice scope result in_loop a.arms a.last c.in-Some-last.last c.in-Some-last.is))
    ∙ ap (λ (s : Stmt). told before (finding s in_loop).rows) (sym a.is)
