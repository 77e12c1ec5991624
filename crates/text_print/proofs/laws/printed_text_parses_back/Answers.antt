use Rattle.text_grammar.specs.Scanning.{Whole}
use Rattle.text_parser.specs.Symbols.{symbols_of}
use Rattle.text_print.proofs.SymbolsAgain.{symbols_lexemes}
use Rattle.text_print.proofs.LexemesAlone.{tree_stands}
use Rattle.text_print.proofs.ParsedAgain.{again, or_limit}
use Rattle.text_print.proofs.laws.printed_text_parses_back.Goals as goal

pub returns-clause-read : goal.returns-clause-read
returns-clause-read c = λ tokens tree answer d h a.
    or_limit tree (tree_stands tokens tree d h) (c.canonical_text_is_cut.ensures tokens tree d h) (c.canonical_tokens_read_back.ensures tokens tree 0 d h) c.one_answer.ensures answer a

pub returns-clause-parsed : goal.returns-clause-parsed
returns-clause-parsed c = λ text tree answer bytes t a.
    let h = symbols_lexemes text t.tokens (c.tokens_are_lexemes.ensures text t.tokens Whole bytes t.cut.cut) in
    returns-clause-read c (symbols_of text t.tokens) tree answer t.reads h a

pub returns-clause-again : goal.returns-clause-again
returns-clause-again c = λ text tree answer bytes t limits a.
    let tokens = symbols_of text t.tokens in
    let h = symbols_lexemes text t.tokens (c.tokens_are_lexemes.ensures text t.tokens Whole bytes t.cut.cut) in
    again tree (tree_stands tokens tree t.reads h) (c.canonical_text_is_cut.ensures tokens tree t.reads h) (c.canonical_tokens_read_back.ensures tokens tree 0 t.reads h) c.one_answer.ensures limits answer a
