use Rattle.text_grammar.specs.laws.DeclarationsRead.{one_unit}
use Rattle.text_grammar.proofs.grammar.one_tree.Goals as goal

pub returns : goal.returns
returns c tokens tree other a b = one_unit tokens tree other a b
