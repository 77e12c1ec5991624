use Rattle.i386_arith.proofs.Comparisons.{conditions_compare}
use Rattle.i386_arith.proofs.flags.conditions_compare.Goals as goal

pub returns : goal.returns
returns c = conditions_compare
