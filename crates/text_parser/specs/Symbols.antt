-- The symbols of a text: its tokens as the grammar sees them.
use Rattle.std.specs.Prelude.{ℕ, List, [], ◌∷◌, map, codes, slice_get}
use Rattle.std.specs.Option.{option_and_then, unwrap_or}
use Rattle.std.specs.List.{position}
use Rattle.std.specs.Str.{bytes_eq}
use Rattle.text_grammar.specs.Lexical.{used_keywords}
use Rattle.text_grammar.specs.Spelled.{part}
use Rattle.text_grammar.specs.declared.token_list.Token.{Token}
use Rattle.text_grammar.specs.declared.token_list.TokenKind.{TokenKind}
use Rattle.text_grammar.specs.declared.token_list.TokenKind.TheVariants as token
use Rattle.text_grammar.specs.declared.kind.Kind.{Kind}
use Rattle.text_grammar.specs.declared.kind.Kind.TheVariants as k
use Rattle.text_grammar.specs.Grammar.{Symbol}

-- the keywords with a use, in the order of `used_keywords`
unfoldable pub keyword_kinds : List Kind
keyword_kinds =
    k.KwInt ∷ k.KwChar ∷ k.KwSigned ∷ k.KwUnsigned ∷ k.KwVoid ∷ k.KwStruct ∷ k.KwStatic ∷ k.KwExtern ∷ k.KwConst ∷ k.KwRegister ∷ k.KwReturn ∷ k.KwIf ∷ k.KwElse ∷ k.KwWhile ∷ k.KwDo ∷ k.KwFor ∷ k.KwBreak ∷ k.KwContinue ∷ k.KwSizeof ∷ []

-- the signs, and what they are, in the same order
unfoldable pub sign_spellings : List (List ℕ)
sign_spellings =
    codes "(" ∷ codes ")" ∷ codes ";" ∷ codes "," ∷ codes "=" ∷ codes "{" ∷ codes "}" ∷ codes "[" ∷ codes "]" ∷ codes "*" ∷ codes "+" ∷ codes "-" ∷ codes "&" ∷ codes "." ∷ codes "->" ∷ codes "<" ∷ codes ">" ∷ codes "==" ∷ codes "!=" ∷ codes "<=" ∷ codes ">=" ∷ codes "&&" ∷ codes "||" ∷ codes "!" ∷ codes "/" ∷ codes "%" ∷ codes "|" ∷ codes "^" ∷ codes "~" ∷ codes "<<" ∷ codes ">>" ∷ []

unfoldable pub sign_kinds : List Kind
sign_kinds =
    k.LParen ∷ k.RParen ∷ k.Semi ∷ k.Comma ∷ k.Assign ∷ k.LBrace ∷ k.RBrace ∷ k.LBracket ∷ k.RBracket ∷ k.Star ∷ k.Plus ∷ k.Minus ∷ k.And ∷ k.Dot ∷ k.Arrow ∷ k.Less ∷ k.Greater ∷ k.EqEq ∷ k.NotEq ∷ k.LessEq ∷ k.GreaterEq ∷ k.AndAnd ∷ k.OrOr ∷ k.Bang ∷ k.Slash ∷ k.Percent ∷ k.Or ∷ k.Caret ∷ k.Tilde ∷ k.ShiftLeft ∷ k.ShiftRight ∷ []

-- the kind at the place where these bytes stand among the spellings; other keywords have no use
abbrev pub spelled : List (List ℕ) → List Kind → List ℕ → Kind
spelled spellings kinds bytes = unwrap_or (option_and_then (slice_get kinds) (position (bytes_eq bytes) spellings)) k.Unused

-- what a token of these bytes is to the grammar
abbrev pub kind_of : TokenKind → List ℕ → Kind
kind_of token.Keyword bytes = spelled used_keywords keyword_kinds bytes
kind_of token.Id bytes = k.Id
kind_of token.Num bytes = k.Num
kind_of token.Char bytes = k.Char
kind_of token.Str bytes = k.Str
kind_of token.Sign bytes = spelled sign_spellings sign_kinds bytes

-- a token with its place and its bytes
abbrev pub symbol_of : List ℕ → Token → Symbol
symbol_of text t = record { kind = kind_of t.kind (part text t.start t.length); at = t.start; text = part text t.start t.length }

-- the symbols of a text with these tokens
abbrev pub symbols_of : List ℕ → List Token → List Symbol
symbols_of text tokens = map (symbol_of text) tokens
