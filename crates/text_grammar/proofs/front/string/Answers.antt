use Rattle.std.proofs.lemmas.List.{take_rest}
use Rattle.text_grammar.specs.Lexical.{one, none}
use Rattle.text_grammar.proofs.front.string.Goals as goal

pub returns-in-Some-clause-is : goal.returns-in-Some-clause-is
returns-in-Some-clause-is c = one c.in-Some.length (rw take_rest at c.in-Some.ensures.value)

pub returns-in-None-clause-is : goal.returns-in-None-clause-is
returns-in-None-clause-is c = none (rw take_rest at c.in-None.ensures.value)
