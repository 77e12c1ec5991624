-- Runs: how they stand, and what they do to the outside.
use Rattle.std.specs.Prelude.{◌≡◌, ◌≢◌, ℕ, ◌+◌, suc, List, [], ◌∷◌, ◌++◌}
use Rattle.cc_base.specs.declared.run.Act.{Act}
use Rattle.cc_base.specs.declared.run.Act.TheVariants.{Took, AtEnd, Gave}
use Rattle.cc_base.specs.declared.run.Outcome.{Outcome}
use Rattle.cc_base.specs.declared.run.Outcome.TheVariants.{Running}

-- what a run has come to: how it stands, and what it did to the outside, in the order in which that happened
pub record State : Type 0 where
  pub outcome : Outcome
  pub acts : List Act

-- the bytes that were emitted
abbrev pub emitted : List Act → List ℕ
emitted [] = []
emitted (Took ∷ acts) = emitted acts
emitted (AtEnd ∷ acts) = emitted acts
emitted (Gave byte ∷ acts) = byte ∷ emitted acts

-- how many bytes were taken
abbrev pub taken : List Act → ℕ
taken [] = 0
taken (Took ∷ acts) = suc (taken acts)
taken (AtEnd ∷ acts) = taken acts
taken (Gave byte ∷ acts) = taken acts

-- the second list begins with the first
pub record IsPrefix (xs ys : List Act) : Type 0 where
  pub rest : List Act
  pub whole : ys ≡ xs ++ rest

-- one step of a run only adds acts, and a run that is over stays as it is
pub record GrowsAt (run : ℕ → State) (n : ℕ) : Type 0 where
  pub acts : IsPrefix (run n).acts (run (n + 1)).acts
  pub stays : (run n).outcome ≢ Running → run (n + 1) ≡ run n
