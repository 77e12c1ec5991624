use Rattle.std.proofs.Common.{◌≡◌, take}
use Rattle.std.specs.List.{sum_by}
use Rattle.typing_nodes.specs.Nodes.{told_nodes, stmt_nodes, arm_nodes}
use Rattle.typing_nodes.proofs.statements.+statement.Given as goal

abbrev pub invariant-block_nodes-body : goal.invariant-block_nodes-body
invariant-block_nodes-body l = l.count ≡ told_nodes (sum_by stmt_nodes (take l.statement-index l.body))

abbrev pub invariant-all_arm_nodes-arms : goal.invariant-all_arm_nodes-arms
invariant-all_arm_nodes-arms l = l.count ≡ told_nodes (sum_by arm_nodes (take l.arm-index l.arms))
