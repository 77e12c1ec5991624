use Rattle.text_grammar.specs.Lexical.{one, none}
use Rattle.text_grammar.proofs.front.number.Goals as goal

pub returns-in-Some-clause-is : goal.returns-in-Some-clause-is
returns-in-Some-clause-is c =
    one c.word_length-length.result
    (rw c.word_length-length.ensures.value at c.in-Some.ensures.0, c.word_length-length.ensures.value)

pub returns-in-None-clause-is : goal.returns-in-None-clause-is
returns-in-None-clause-is c = none (λ n h. c.in-None.ensures (rw c.word_length-length.ensures.value h.0))
