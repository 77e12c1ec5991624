use Rattle.text_grammar.specs.laws.ExpressionsRead.{one_expression}
use Rattle.text_grammar.proofs.grammar.one_tree_of_an_expression.Goals as goal

pub returns : goal.returns
returns c tokens tree other a b = one_expression tokens tree other a b
