-- What a parser of the whole text answers, for the language R.
use Rattle.std.specs.Prelude.{◌≡◌, ℕ, List, [], ◌∷◌, ◌++◌, Result, Ok, Err}
use Rattle.text_grammar.specs.Grammar.{Symbol, Reads}
use Rattle.text_grammar.specs.declared.tree.External.{External}
use Rattle.text_grammar.specs.declared.fault.SyntaxFault.{SyntaxFault}
use Rattle.text_grammar.specs.declared.fault.SyntaxFault.TheVariants as fault

-- the tokens are a prefix of some token list that the grammar reads, of any length and depth
abbrev pub Begins : {A : Type 0} → (List Symbol → A → Type 0) → List Symbol → Type 0
Begins {A} R p = (s : List Symbol) × (t : A) × R (p ++ s) t

-- with the next token they are not, or the tokens end and are no sentence
abbrev pub Stops : {A : Type 0} → (List Symbol → A → Type 0) → List Symbol → List Symbol → Type 0
Stops {A} R before [] = (t : A) → R before t → ⊥
Stops R before (x ∷ rest) = Begins R (before ++ x ∷ []) → ⊥

-- the place of the first of these tokens, or the text's end
abbrev pub place_of : ℕ → List Symbol → ℕ
place_of end [] = end
place_of end (x ∷ rest) = x.at

-- the first token that does not fit stands at this place; the text ends at `end`
pub record IsFirstFault {A : Type 0} (R : List Symbol → A → Type 0) (end : ℕ) (tokens : List Symbol) (at : ℕ) : Type 0 where
  pub before : List Symbol
  pub rest : List Symbol
  pub split : tokens ≡ before ++ rest
  pub begins : Begins R before
  pub stops : Stops R before rest
  pub place : at ≡ place_of end rest

-- the tree of the tokens, or their first fault; want of memory may come anywhere
abbrev pub AnswersUnit : ℕ → List Symbol → Result (List External) SyntaxFault → Type 0
AnswersUnit end tokens (Ok tree) = Reads tokens tree
AnswersUnit end tokens (Err fault.Memory) = Unit {0}
AnswersUnit end tokens (Err (fault.Token at)) = IsFirstFault Reads end tokens at
AnswersUnit end tokens (Err _) = ⊥
