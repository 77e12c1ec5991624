use Rattle.std.proofs.Common.{◌≡◌, sym, ◌∙◌, arith, true}
use Rattle.std.specs.Char.{is_ascii_digit}
use Rattle.text_grammar.specs.Lexical.{is_letter, is_word_byte}
use Rattle.text_grammar.proofs.FrontLemmas.{first_counts, letter_goes_on, digit_goes_on}
use Rattle.text_grammar.proofs.front.shape_of.Goals as goal

pub returns-then-is_letter-clause-room : goal.returns-then-is_letter-clause-room
returns-then-is_letter-clause-room c =
    let letter : is_letter c.byte_at-first.result ≡ true = sym c.is_letter.ensures.value ∙ c.if-is_letter.true in
    first_counts is_word_byte c.args.text.now (c.byte_at-first.ensures.within (c.is_letter.ensures.some c.if-is_letter.true))
    (rw (sym c.byte_at-first.ensures.value) (letter_goes_on c.byte_at-first.result letter))

pub returns-then-is_ascii_digit-clause-room : goal.returns-then-is_ascii_digit-clause-room
returns-then-is_ascii_digit-clause-room c =
    let digit : is_ascii_digit c.byte_at-first.result ≡ true = sym c.is_ascii_digit.ensures.value ∙ c.if-is_ascii_digit.true in
    let cases = rw c.if-is_ascii_digit.true at c.is_ascii_digit.ensures.cases in
    first_counts is_word_byte c.args.text.now (c.byte_at-first.ensures.within (omega (arith, cases.0)))
    (rw (sym c.byte_at-first.ensures.value) (digit_goes_on c.byte_at-first.result digit))
