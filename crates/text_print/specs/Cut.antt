-- Tokens that the lexer takes off a canonical text.
use Rattle.std.specs.Prelude.{◌≡◌, ℕ, ◌+◌, List, [], ◌∷◌, ◌++◌, length}
use Rattle.text_grammar.specs.declared.kind.Kind.{Kind}
use Rattle.text_grammar.specs.declared.kind.Kind.TheVariants as k
use Rattle.text_grammar.specs.declared.token_list.Token.{Token}
use Rattle.text_grammar.specs.declared.token_list.TokenKind.{TokenKind}
use Rattle.text_grammar.specs.declared.token_list.TokenKind.TheVariants as token
use Rattle.text_grammar.specs.declared.front.Front.TheVariants as front
use Rattle.text_grammar.specs.Lexical.{IsFront}
use Rattle.text_grammar.specs.Grammar.{Symbol}
use Rattle.text_parser.specs.Symbols.{kind_of}

-- which kind of token it is
abbrev pub token_kind : Kind → TokenKind
token_kind k.Id = token.Id
token_kind k.Num = token.Num
token_kind k.Char = token.Char
token_kind k.Str = token.Str
token_kind k.KwInt = token.Keyword
token_kind k.KwChar = token.Keyword
token_kind k.KwSigned = token.Keyword
token_kind k.KwUnsigned = token.Keyword
token_kind k.KwVoid = token.Keyword
token_kind k.KwStruct = token.Keyword
token_kind k.KwStatic = token.Keyword
token_kind k.KwExtern = token.Keyword
token_kind k.KwConst = token.Keyword
token_kind k.KwRegister = token.Keyword
token_kind k.KwReturn = token.Keyword
token_kind k.KwIf = token.Keyword
token_kind k.KwElse = token.Keyword
token_kind k.KwWhile = token.Keyword
token_kind k.KwDo = token.Keyword
token_kind k.KwFor = token.Keyword
token_kind k.KwBreak = token.Keyword
token_kind k.KwContinue = token.Keyword
token_kind k.KwSizeof = token.Keyword
token_kind k.Unused = token.Keyword
token_kind _ = token.Sign

-- the tokens with single spaces between them, the first at this place
abbrev pub cut_at : ℕ → List Symbol → List Token
cut_at at [] = []
cut_at at (x ∷ xs) = record { kind = token_kind x.kind; start = at; length = length x.text } ∷ cut_at (at + length x.text + 1) xs

-- a text that begins with it, and then has a space or a newline, begins with just this token, which is what it is to the grammar
pub record StandsAlone (x : Symbol) : Type 0 where
  pub before_space : (rest : List ℕ) → IsFront (x.text ++ 32 ∷ rest) (front.Token (token_kind x.kind) (length x.text))
  pub before_newline : (rest : List ℕ) → IsFront (x.text ++ 10 ∷ rest) (front.Token (token_kind x.kind) (length x.text))
  pub kind : kind_of (token_kind x.kind) x.text ≡ x.kind
