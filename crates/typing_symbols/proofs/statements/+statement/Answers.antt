use Rattle.std.proofs.Common.{arith}
use Rattle.std.proofs.lemmas.Grind.{common_steps}
use Rattle.typing_symbols.specs.Sights.{stmt_sights, arm_sights}
use Rattle.typing_symbols.proofs.Rows.{in_a_row_map}
use Rattle.typing_symbols.proofs.statements.+statement.Goals as goal

pub see_block-returns : goal.see_block-returns
see_block-returns t c = rw (in_a_row_map (stmt_sights c.args.hidden.now) c.args.body.now) (grind (arith, common_steps))

pub see_arms-returns : goal.see_arms-returns
see_arms-returns t c = rw (in_a_row_map (arm_sights c.args.hidden.now) c.args.arms.now) (grind (arith, common_steps))
