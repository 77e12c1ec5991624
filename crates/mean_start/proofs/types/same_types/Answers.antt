use Rattle.std.proofs.Common.{sym}
use Rattle.mean_start.proofs.ByName.{same_types-length}
use Rattle.mean_start.proofs.types.same_types.Goals as goal

pub returns-then-left-right : goal.returns-then-left-right
returns-then-left-right c = sym (same_types-length c.args.left.now c.args.right.now c.if-left-right.true)
