use Rattle.std.proofs.Common.{◌≡◌, ◌++◌, ◌∷◌, [], get_or, ap, ◌∙◌}
use Rattle.std.proofs.lemmas.List.{take_rest}
use Rattle.text_grammar.specs.declared.token_list.TokenKind.TheVariants.{Keyword}
use Rattle.text_grammar.specs.declared.token_list.Token.{Token}
use Rattle.text_parser.proofs.WordLaws.{word_of, words_more, symbols_more}
use Rattle.text_parser.proofs.words.words_of.Goals as goal

abbrev none : Token
none = record { kind = Keyword; start = 0; length = 0 }

pub tokens-preserved : goal.tokens-preserved
tokens-preserved c =
    let pushed : c.push.new.self.items ≡ c.tokens.found.items ++ word_of c.args.text.now (get_or c.args.tokens.now c.tokens.token-index none) ∷ [] =
    c.in_ok-push.ensures.items
    ∙ ap (λ kind. c.tokens.found.items ++ record { kind = kind; start = (get_or c.args.tokens.now c.tokens.token-index none).start; length = (get_or c.args.tokens.now c.tokens.token-index none).length } ∷ []) (rw take_rest at c.kind_of.ensures) in
    rw pushed
    (record {
      words = words_more c.args.text.now c.args.tokens.now c.tokens.token-index none c.tokens.found.items c.tokens-test.true c.requires c.tokens.invariant.words;
      symbols = symbols_more c.args.text.now c.args.tokens.now c.tokens.token-index none c.tokens.found.items c.tokens-test.true c.tokens.invariant.symbols;
    })
