-- The canonical tokens where they stand in the canonical text.
use Rattle.std.specs.Prelude.{◌≡◌, ℕ, ◌+◌, ◌<◌, List, [], ◌∷◌, length, drop}
use Rattle.text_grammar.specs.Lexical.{IsNumber, element_value, string_value}
use Rattle.text_grammar.specs.Lexemes.{AreBytes, IsName}
use Rattle.text_grammar.specs.declared.kind.Kind.TheVariants as k
use Rattle.text_grammar.specs.Grammar.{Symbol}

-- the tokens with single spaces between them, the first at this place
abbrev pub placed : ℕ → List Symbol → List Symbol
placed at [] = []
placed at (x ∷ xs) = record { kind = x.kind; at = at; text = x.text } ∷ placed (at + length x.text + 1) xs

-- what the names and literals of a text are: words that are no keywords, numbers within their range, and bytes
pub record IsLexeme (x : Symbol) : Type 0 where
  pub name : x.kind ≡ k.Id → IsName x.text
  pub number : x.kind ≡ k.Num → IsNumber x.text
  pub character : x.kind ≡ k.Char → element_value (drop 1 x.text) < 256
  pub string : x.kind ≡ k.Str → AreBytes (string_value x.text)
