use Rattle.std.proofs.Common.{arith}
use Rattle.std.proofs.lemmas.Grind.{common_steps}
use Rattle.text_grammar.specs.declared.kind.Kind.TheVariants as k
use Rattle.text_print.specs.Canonical.{initialiser_tokens}
use Rattle.text_print.proofs.Rows.{separated_map}
use Rattle.text_print.proofs.initialisers.+initialiser.Goals as goal

pub put_items-returns-after-rest : goal.put_items-returns-after-rest
put_items-returns-after-rest t c = rw (separated_map k.Comma initialiser_tokens c.args.items.now) (grind (arith, common_steps))
