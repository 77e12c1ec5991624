use Rattle.std.proofs.Common.{take}
use Rattle.text_grammar.proofs.DigitLemmas.{front_digits}
use Rattle.text_grammar.proofs.spelling.escape.Goals as goal

pub octal_escape-requires : goal.octal_escape-requires
octal_escape-requires c = rw c.octal_count.ensures.value (front_digits 8 (take c.min.result c.args.text.now))
