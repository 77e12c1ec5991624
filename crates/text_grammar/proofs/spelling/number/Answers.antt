use Rattle.std.proofs.Common.{ap, ◌∙◌}
use Rattle.text_grammar.specs.Lexical.{radix_of, digits_of}
use Rattle.text_grammar.proofs.DigitLemmas.{not_number}
use Rattle.text_grammar.proofs.spelling.number.Goals as goal

pub returns-in_err-value : goal.returns-in_err-value
returns-in_err-value c =
    rw c.from_residual.ensures
    (not_number c.args.run.now c.radix_of-radix.result c.digits_of-digits.result.now
    (c.radix_of-radix.ensures.value ∙ ap radix_of c.without_suffix-body.ensures)
    (c.digits_of-digits.ensures ∙ ap digits_of c.without_suffix-body.ensures) c.in_err-value.ensures)
