use Rattle.std.proofs.Common.{arith}
use Rattle.std.proofs.lemmas.Grind.{common_steps}
use Rattle.std.proofs.lemmas.List.Sums.{sum-map}
use Rattle.typing_nodes.specs.Nodes.{initialiser_nodes}
use Rattle.typing_nodes.proofs.declarations.+initialiser.Goals as goal

pub all_initialiser_nodes-returns : goal.all_initialiser_nodes-returns
all_initialiser_nodes-returns t c = rw (sum-map initialiser_nodes c.args.items.now) (grind (arith, common_steps))
