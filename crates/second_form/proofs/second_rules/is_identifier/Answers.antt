use Rattle.std.proofs.Common.{sym, ◌∙◌}
use Rattle.std.proofs.lemmas.Bool.{false≢true}
use Rattle.second_form.proofs.Identifiers.{words_of, identifier_of}
use Rattle.second_form.proofs.second_rules.is_identifier.Goals as goal

pub returns-then-not-is_digit : goal.returns-then-not-is_digit
returns-then-not-is_digit c = (
  λ t. identifier_of c.args.name.now c.in-len1-up.len_at_least (λ d. false≢true (sym c.if-not-is_digit.true ∙ c.is_digit.ensures.1 d)) (c.are_word_bytes.ensures.0 t),
  λ h. c.are_word_bytes.ensures.1 (words_of c.args.name.now h),
)
