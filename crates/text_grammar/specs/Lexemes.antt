-- What the names and literals of a text are.
use Rattle.std.specs.Prelude.{◌≡◌, ℕ, ◌<◌, List, drop, slice_index, true, false}
use Rattle.std.specs.List.{All}
use Rattle.text_grammar.specs.Lexical.{is_letter, is_word_byte, is_keyword, IsNumber, element_value, string_value}
use Rattle.text_grammar.specs.Spelled.{part}
use Rattle.text_grammar.specs.declared.token_list.Token.{Token}
use Rattle.text_grammar.specs.declared.token_list.TokenKind.{TokenKind}
use Rattle.text_grammar.specs.declared.token_list.TokenKind.TheVariants as kind

-- numbers that are bytes
abbrev pub AreBytes : List ℕ → Type 0
AreBytes text = All (λ byte. byte < 256) text

-- a word that is no keyword
pub record IsName (bytes : List ℕ) : Type 0 where
  pub first : is_letter (slice_index bytes 0) ≡ true
  pub all : All (λ byte. is_word_byte byte ≡ true) bytes
  pub word : is_keyword bytes ≡ false

-- what a token of the kind is by its bytes: a name is a word and no keyword, a number is within its range, and the values of
-- characters and strings are bytes
abbrev pub IsLexemeOf : TokenKind → List ℕ → Type 0
IsLexemeOf kind.Id bytes = IsName bytes
IsLexemeOf kind.Num bytes = IsNumber bytes
IsLexemeOf kind.Char bytes = element_value (drop 1 bytes) < 256
IsLexemeOf kind.Str bytes = AreBytes (string_value bytes)
IsLexemeOf _ bytes = Unit {0}

-- a token of the text is so
abbrev pub IsLexemeIn : List ℕ → Token → Type 0
IsLexemeIn text t = IsLexemeOf t.kind (part text t.start t.length)
