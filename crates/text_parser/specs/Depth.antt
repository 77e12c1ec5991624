-- How many brackets are open, and how many tokens stand in a row.
use Rattle.std.specs.Prelude.{◌≡◌, ℕ, ◌+◌, ◌-◌, ◌≤◌, ◌<◌, ◌⊎◌, List, [], ◌∷◌, ◌++◌, take}
use Rattle.std.specs.List.{fold}
use Rattle.text_grammar.specs.declared.kind.Kind.{Kind}
use Rattle.text_grammar.specs.declared.kind.Kind.TheVariants as k
use Rattle.text_grammar.specs.Grammar.{Symbol}

-- the open brackets with one more token: they rise at an opening one, and fall at a closing one while there is any
abbrev pub opened : ℕ → Kind → ℕ
opened n k.LParen = n + 1
opened n k.LBracket = n + 1
opened n k.LBrace = n + 1
opened n k.RParen = n - 1
opened n k.RBracket = n - 1
opened n k.RBrace = n - 1
opened n _ = n

-- the tokens in a row with one more: `;`, `,`, `{` and `}` end a row, and belong to none
abbrev pub in_row : ℕ → Kind → ℕ
in_row n k.Semi = 0
in_row n k.Comma = 0
in_row n k.LBrace = 0
in_row n k.RBrace = 0
in_row n _ = n + 1

abbrev pub open_with : List Symbol → ℕ
open_with tokens = fold (λ n x. opened n x.kind) 0 tokens

abbrev pub row_with : List Symbol → ℕ
row_with tokens = fold (λ n x. in_row n x.kind) 0 tokens

-- with the last of these tokens too many brackets are open, or too many tokens stand in a row
abbrev pub IsDeep : List Symbol → Type 0
IsDeep tokens = (200 < open_with tokens) ⊎ (1000 < row_with tokens)

-- with none of these tokens it is so
pub record IsShallow (tokens : List Symbol) : Type 0 where
  pub brackets : (n : ℕ) → open_with (take n tokens) ≤ 200
  pub rows : (n : ℕ) → row_with (take n tokens) ≤ 1000

-- the first token with which it is so stands at this place
pub record IsFirstDeep (tokens : List Symbol) (at : ℕ) : Type 0 where
  pub before : List Symbol
  pub x : Symbol
  pub rest : List Symbol
  pub split : tokens ≡ before ++ x ∷ rest
  pub shallow : IsShallow before
  pub deep : IsDeep (before ++ x ∷ [])
  pub place : at ≡ x.at
