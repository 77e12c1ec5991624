use Rattle.std.proofs.Common.{arith}
use Rattle.std.proofs.lemmas.Grind.{common_steps}
use Rattle.typing_tags.specs.Tags.{initialiser_tags}
use Rattle.typing_tags.proofs.Rows.{in_a_row_map}
use Rattle.typing_tags.proofs.declarations.+initialiser.Goals as goal

pub see_initialisers-returns : goal.see_initialisers-returns
see_initialisers-returns t c = rw (in_a_row_map initialiser_tags c.args.items.now) (grind (arith, common_steps))
