-- What a text reads as.
use Rattle.std.specs.Prelude.{◌≡◌, ℕ, ◌<◌, ◌⊎◌, List, length, Result, Ok, Err}
use Rattle.text_grammar.specs.declared.tree.External.{External}
use Rattle.text_grammar.specs.declared.token_list.Token.{Token}
use Rattle.text_grammar.specs.declared.fault.SyntaxFault.{SyntaxFault}
use Rattle.text_grammar.specs.declared.fault.SyntaxFault.TheVariants as fault
use Rattle.text_grammar.specs.Scanning.{HasTokens, EndsAt, NoTokenAt, BadLiteralAt, text_max}
use Rattle.text_grammar.specs.Grammar.{Reads}
use Rattle.text_parser.specs.Symbols.{symbols_of}
use Rattle.text_parser.specs.Depth.{IsShallow, IsFirstDeep}
use Rattle.text_parser.specs.Answer.{IsFirstFault}

-- the text is a unit's text, within the limits, and this is its tree
pub record HasTree (text : List ℕ) (tree : List External) : Type 0 where
  pub tokens : List Token
  pub cut : HasTokens text tokens
  pub shallow : IsShallow (symbols_of text tokens)
  pub reads : Reads (symbols_of text tokens) tree

-- the text has tokens, and with the one at this place it is the first time too deep
pub record GetsDeep (text : List ℕ) (at : ℕ) : Type 0 where
  pub tokens : List Token
  pub cut : HasTokens text tokens
  pub first : IsFirstDeep (symbols_of text tokens) at

-- the text has tokens within the limits, and the one at this place is the first that does not fit
pub record Breaks (text : List ℕ) (at : ℕ) : Type 0 where
  pub tokens : List Token
  pub cut : HasTokens text tokens
  pub shallow : IsShallow (symbols_of text tokens)
  pub first : IsFirstFault Reads (length text) (symbols_of text tokens) at

-- what a text's answer says of it; want of memory may come anywhere
abbrev pub HasAnswer : List ℕ → Result (List External) SyntaxFault → Type 0
HasAnswer text (Ok tree) = HasTree text tree
HasAnswer text (Err fault.Long) = text_max < length text
HasAnswer text (Err (fault.Char at)) = EndsAt text (NoTokenAt at)
HasAnswer text (Err (fault.Literal at)) = EndsAt text (BadLiteralAt at)
HasAnswer text (Err (fault.Deep at)) = GetsDeep text at
HasAnswer text (Err (fault.Token at)) = Breaks text at
HasAnswer text (Err fault.Memory) = Unit {0}

-- two answers of one text are the same, unless one is want of memory
abbrev pub OneAnswer : Result (List External) SyntaxFault → Result (List External) SyntaxFault → Type 0
OneAnswer a b = (a ≡ Err fault.Memory) ⊎ ((b ≡ Err fault.Memory) ⊎ (a ≡ b))
