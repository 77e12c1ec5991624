-- Lists of units that match one by one.
use Rattle.std.specs.Prelude.{◌≡◌, ℕ, List, [], ◌∷◌, slice_get, Some}

-- the two lists have one length, and their members are related one by one
abbrev pub EachMatches : {A B : Type 0} → (A → B → Type 0) → List A → List B → Type 0
EachMatches matches [] [] = Unit {0}
EachMatches matches (x ∷ xs) (y ∷ ys) = matches x y × EachMatches matches xs ys
EachMatches matches [] (y ∷ ys) = ⊥
EachMatches matches (x ∷ xs) [] = ⊥

-- some thing in the middle is related to both
pub record Through {A B C : Type 0} (p : A → B → Type 0) (q : B → C → Type 0) (a : A) (c : C) : Type 0 where
  pub middle : B
  pub first : p a middle
  pub second : q middle c

-- a list in the middle matches both
pub record Split {A B C : Type 0} (p : A → B → Type 0) (q : B → C → Type 0) (xs : List A) (zs : List C) : Type 0 where
  pub middle : List B
  pub first : EachMatches p xs middle
  pub second : EachMatches q middle zs

-- the member of this number is there, and matches
pub record Beside {A B : Type 0} (matches : A → B → Type 0) (ys : List B) (k : ℕ) (x : A) : Type 0 where
  pub there : B
  pub found : slice_get ys k ≡ Some there
  pub match : matches x there
