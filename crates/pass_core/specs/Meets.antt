-- Some steps of a target at a price, and what it means that they meet a step of the source.
use Rattle.std.specs.Prelude.{◌≡◌, ◌≢◌, ◌≤◌, ℕ}
use Rattle.cc_base.specs.declared.run.Outcome.TheVariants.{Running, Wrong, Deep}
use Rattle.pass_core.specs.Semantics.{Semantics, iterate, spent_of, Falls}

-- from one state to another: at least so many steps, at no more than this price. How many they are no other fact speaks of
pub record Reaches {S : Type 0} (b : Semantics S) (s u : S) (least cost : ℕ) : Type 0 where
  pub count : ℕ
  pub there : iterate b.step count s ≡ u
  pub within : spent_of b s count ≤ cost
  pub more : least ≤ count

-- from a state of the target one that is related to the source's new state. Where it may be by no step the measure falls
pub record Meets {S T : Type 0} (b : Semantics T) (related : S → T → Type 0) (measure : S → ℕ × ℕ) (size : ℕ × ℕ) (new : S) (t : T) (cost : ℕ) : Type 0 where
  pub target : T
  pub least : ℕ
  pub way : Reaches b t target least cost
  pub relates : related new target
  pub falls : least ≡ 0 → Falls (measure new) size

-- each step of a run that is neither wrong nor too deep is met within its price
abbrev pub EachMet : {S T : Type 0} → Semantics S → Semantics T → (S → T → Type 0) → (S → ℕ × ℕ) → Type 0
EachMet {S} {T} a b related measure =
    (s : S) (t : T) → related s t →
    (a.view s).outcome ≡ Running →
    (a.view (a.step s)).outcome ≢ Wrong →
    (a.view (a.step s)).outcome ≢ Deep →
    Meets b related measure (measure s) (a.step s) t (a.price s)
