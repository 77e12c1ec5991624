use Rattle.std.proofs.Common.{◌≡◌, drop, map}
use Rattle.typing_faults.specs.Faults.{told}
use Rattle.typing_statements.specs.Statements.{all_rows, all_items, block, stmt_finding, arm_finding}
use Rattle.typing_statements.proofs.statements.+statement.Given as goal

-- the rows of those that are left are told, and those that are left are gathered, from here on
abbrev pub invariant-typed_body-body : goal.invariant-typed_body-body
invariant-typed_body-body l = record {
  rows : told l.faults (all_rows (map (stmt_finding l.scope l.result_type) (drop l.statement-index l.body)) l.in_loop) ≡ told l.initial.faults (all_rows (map (stmt_finding l.scope l.result_type) l.body) l.in_loop);
  items : all_items l.statements (map (stmt_finding l.scope l.result_type) (drop l.statement-index l.body)) l.in_loop ≡ block (map (stmt_finding l.scope l.result_type) l.body) l.in_loop;
}

abbrev pub invariant-typed_arms-arms : goal.invariant-typed_arms-arms
invariant-typed_arms-arms l = record {
  rows : told l.faults (all_rows (map (arm_finding l.scope l.result_type) (drop l.arm-index l.arms)) l.in_loop) ≡ told l.initial.faults (all_rows (map (arm_finding l.scope l.result_type) l.arms) l.in_loop);
  items : all_items l.found (map (arm_finding l.scope l.result_type) (drop l.arm-index l.arms)) l.in_loop ≡ block (map (arm_finding l.scope l.result_type) l.arms) l.in_loop;
}
