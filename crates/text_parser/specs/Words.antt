-- What the parser keeps of each token.
use Rattle.std.specs.Prelude.{◌≡◌, ℕ, ◌+◌, ◌≤◌, List, map, length, drop, IsSome}
use Rattle.std.specs.List.{All}
use Rattle.text_grammar.specs.Lexical.{IsNumber, element}
use Rattle.text_grammar.specs.declared.kind.Kind.TheVariants as k
use Rattle.text_grammar.specs.Grammar.{Symbol}
use Rattle.text_parser.specs.declared.word.Word.{Word}
use Rattle.text_grammar.specs.Spelled.{part}

-- a number or character literal is as it must be
pub record IsLiteral (x : Symbol) : Type 0 where
  pub number : x.kind ≡ k.Num → IsNumber x.text
  pub character : x.kind ≡ k.Char → IsSome (element 39 (drop 1 x.text))

abbrev pub word_symbol : List ℕ → Word → Symbol
word_symbol text w = record { kind = w.kind; at = w.start; text = part text w.start w.length }

abbrev pub word_symbols : List ℕ → List Word → List Symbol
word_symbols text words = map (word_symbol text) words

-- a word of the text
pub record IsWord (text : List ℕ) (w : Word) : Type 0 where
  pub within : w.start + w.length ≤ length text
  pub literal : IsLiteral (word_symbol text w)

abbrev pub AreWords : List ℕ → List Word → Type 0
AreWords text words = All (IsWord text) words
