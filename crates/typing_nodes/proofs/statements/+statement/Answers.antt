use Rattle.std.proofs.Common.{arith}
use Rattle.std.proofs.lemmas.Grind.{common_steps}
use Rattle.std.proofs.lemmas.List.Sums.{sum-map}
use Rattle.typing_nodes.specs.Nodes.{stmt_nodes, arm_nodes}
use Rattle.typing_nodes.proofs.statements.+statement.Goals as goal

pub block_nodes-returns : goal.block_nodes-returns
block_nodes-returns t c = rw (sum-map stmt_nodes c.args.body.now) (grind (arith, common_steps))

pub all_arm_nodes-returns : goal.all_arm_nodes-returns
all_arm_nodes-returns t c = rw (sum-map arm_nodes c.args.arms.now) (grind (arith, common_steps))
