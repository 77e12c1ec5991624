use Rattle.text_grammar.proofs.LexemeLemmas.{lexemes}
use Rattle.text_grammar.proofs.lexer.tokens_are_lexemes.Goals as goal

pub returns : goal.returns
returns c text tokens ending bytes cut = lexemes text tokens ending bytes cut
