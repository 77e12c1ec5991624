-- The tokens of a text are parts of it, and their literals are as they must be.
use Rattle.std.specs.Prelude.{ℕ, ◌+◌, ◌≤◌, List, length, take, drop, IsSome}
use Rattle.text_grammar.specs.Lexical.{IsNumber, element}
use Rattle.text_grammar.specs.declared.token_list.Token.{Token}
use Rattle.text_grammar.specs.declared.token_list.TokenKind.{TokenKind}
use Rattle.text_grammar.specs.declared.token_list.TokenKind.TheVariants as kind

-- what these bytes must be for a token of the kind
abbrev pub IsLiteral : TokenKind → List ℕ → Type 0
IsLiteral kind.Num bytes = IsNumber bytes
IsLiteral kind.Char bytes = IsSome (element 39 (drop 1 bytes))
IsLiteral _ bytes = Unit {0}

-- so many bytes of a text from a place on
abbrev pub part : List ℕ → ℕ → ℕ → List ℕ
part text start length = take length (drop start text)

pub record IsSpelled (text : List ℕ) (t : Token) : Type 0 where
  pub within : t.start + t.length ≤ length text
  pub literal : IsLiteral t.kind (part text t.start t.length)
