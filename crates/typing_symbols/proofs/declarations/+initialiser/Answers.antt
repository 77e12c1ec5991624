use Rattle.std.proofs.Common.{arith}
use Rattle.std.proofs.lemmas.Grind.{common_steps}
use Rattle.typing_symbols.specs.Sights.{initialiser_sights}
use Rattle.typing_symbols.proofs.Rows.{in_a_row_map}
use Rattle.typing_symbols.proofs.declarations.+initialiser.Goals as goal

pub see_initialisers-returns : goal.see_initialisers-returns
see_initialisers-returns t c = rw (in_a_row_map (initialiser_sights c.args.hidden.now) c.args.items.now) (grind (arith, common_steps))
