use Rattle.std.proofs.Common.{arith}
use Rattle.std.proofs.lemmas.Grind.{common_steps}
use Rattle.text_print.proofs.Rows.{spaced_map}
use Rattle.text_print.proofs.writing.write_spaced.Goals as goal

pub returns-after-rest : goal.returns-after-rest
returns-after-rest c = rw (spaced_map c.args.pieces.now) (grind (arith, common_steps))
