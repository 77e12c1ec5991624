use Rattle.text_grammar.specs.laws.Cuts.{one_way}
use Rattle.text_grammar.proofs.lexer.cut_in_one_way.Goals as goal

pub returns : goal.returns
returns c text tokens others ending other a b = one_way 0 text tokens others ending other a b
