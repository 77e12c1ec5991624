use Rattle.std.proofs.Common.{arith}
use Rattle.std.proofs.lemmas.Grind.{common_steps}
use Rattle.text_grammar.specs.declared.kind.Kind.TheVariants as k
use Rattle.text_print.specs.Canonical.{arm_tokens, stmt_tokens}
use Rattle.text_print.proofs.Rows.{separated_map, in_a_row_map}
use Rattle.text_print.proofs.statements.+statement.Goals as goal

pub put_arms-returns-after-rest : goal.put_arms-returns-after-rest
put_arms-returns-after-rest t c = rw (separated_map k.KwElse arm_tokens c.args.arms.now) (grind (arith, common_steps))

pub put_block-returns : goal.put_block-returns
put_block-returns t c = rw (in_a_row_map stmt_tokens c.args.body.now) (grind (arith, common_steps))
