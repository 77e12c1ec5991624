use Rattle.std.proofs.Common.{sym, ◌∙◌}
use Rattle.mean_start.proofs.Blocks.{ended-none, not_live}
use Rattle.mean_start.proofs.memory.end.Goals as goal

pub returns-else-is_live : goal.returns-else-is_live
returns-else-is_live c = sym (ended-none c.args.memory.now c.args.name (not_live c.args.memory.now c.args.name (sym c.is_live.ensures ∙ c.if-is_live.false)))
