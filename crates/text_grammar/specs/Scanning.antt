-- How a text is cut into tokens from its start to its end, and where that fails.
use Rattle.std.specs.Prelude.{ℕ, ◌+◌, ◌≤◌, ◌<◌, List, [], ◌∷◌, length, drop}
use Rattle.text_grammar.specs.Lexical.{IsFront}
use Rattle.text_grammar.specs.declared.token_list.Token.{Token}
use Rattle.text_grammar.specs.declared.token_list.TokenKind.{TokenKind}
use Rattle.text_grammar.specs.declared.front.Front.TheVariants as front
use Rattle.text_grammar.specs.declared.fault.SyntaxFault.{SyntaxFault}
use Rattle.text_grammar.specs.declared.fault.SyntaxFault.TheVariants as fault

-- where the cutting ends: at the text's end, or at a place where no token or no literal stands
pub data Ending : Type 0 where
  Whole : Ending
  NoTokenAt : ℕ → Ending
  BadLiteralAt : ℕ → Ending

-- the text that stands at this place is cut into these tokens, up to this ending
pub data IsCut : ℕ → List ℕ → List Token → Ending → Type 0 where
  whole : {at : ℕ} → IsCut at [] [] Whole
  no_token : {at : ℕ} {text : List ℕ} → 1 ≤ length text → IsFront text front.NoToken → IsCut at text [] (NoTokenAt at)
  bad_literal : {at : ℕ} {text : List ℕ} → IsFront text front.BadLiteral → IsCut at text [] (BadLiteralAt at)
  blank : {at : ℕ} {text : List ℕ} {tokens : List Token} {ending : Ending} (n : ℕ) → IsFront text (front.Blank n) → IsCut (at + n) (drop n text) tokens ending → IsCut at text tokens ending
  token : {at : ℕ} {text : List ℕ} {tokens : List Token} {ending : Ending} (kind : TokenKind) (n : ℕ) → IsFront text (front.Token kind n) → IsCut (at + n) (drop n text) tokens ending
      → IsCut at text (record { kind = kind; start = at; length = n } ∷ tokens) ending

-- the longest text of a unit, in bytes
abbrev pub text_max : ℕ
text_max = 1048576

-- a text that is not too long, and has no fault of a token
pub record HasTokens (text : List ℕ) (tokens : List Token) : Type 0 where
  pub short : length text ≤ text_max
  pub cut : IsCut 0 text tokens Whole

-- a text that is not too long, whose first fault of a token is this
pub record EndsAt (text : List ℕ) (ending : Ending) : Type 0 where
  pub short : length text ≤ text_max
  pub tokens : List Token
  pub cut : IsCut 0 text tokens ending

-- which fault a text has before any of its grammar; want of memory may come anywhere
abbrev pub HasTokenFault : List ℕ → SyntaxFault → Type 0
HasTokenFault text fault.Long = text_max < length text
HasTokenFault text (fault.Char at) = EndsAt text (NoTokenAt at)
HasTokenFault text (fault.Literal at) = EndsAt text (BadLiteralAt at)
HasTokenFault text (fault.Deep at) = ⊥
HasTokenFault text (fault.Token at) = ⊥
HasTokenFault text fault.Memory = Unit {0}
