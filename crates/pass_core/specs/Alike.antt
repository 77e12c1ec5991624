-- What it means that the turns of one language are met by turns of another.
use Rattle.std.specs.Prelude.{◌≡◌, ◌≢◌, ℕ, ◌+◌, ◌≤◌, ◌⊎◌, List}
use Rattle.cc_base.specs.declared.run.Act.{Act}
use Rattle.cc_base.specs.declared.run.Outcome.TheVariants as outcome
use Rattle.pass_core.specs.Inputs.{AreBytes, IsAnswer}
use Rattle.pass_core.specs.Meets.{Reaches}
use Rattle.pass_core.specs.Semantics.{Falls}
use Rattle.pass_core.specs.Turns.{Turned, On, Asks, Gives, Ends, Run, Going, Over, Turns, turning}

-- two turns do the same to the outside, and lead to related worlds
abbrev pub TurnAlike : {W V : Type 0} → (W → V → Type 0) → Turned W → Turned V → Type 0
TurnAlike related (On w) (On v) = related w v
TurnAlike related (On w) (Asks g) = ⊥
TurnAlike related (On w) (Gives c v) = ⊥
TurnAlike related (On w) (Ends k) = ⊥
TurnAlike related (Asks f) (On v) = ⊥
TurnAlike related (Asks f) (Asks g) = (word : ℕ) → IsAnswer word → related (f word) (g word)
TurnAlike related (Asks f) (Gives c v) = ⊥
TurnAlike related (Asks f) (Ends k) = ⊥
TurnAlike related (Gives b w) (On v) = ⊥
TurnAlike related (Gives b w) (Asks g) = ⊥
TurnAlike related (Gives b w) (Gives c v) = (c ≡ b) × related w v
TurnAlike related (Gives b w) (Ends k) = ⊥
TurnAlike related (Ends o) (On v) = ⊥
TurnAlike related (Ends o) (Asks g) = ⊥
TurnAlike related (Ends o) (Gives c v) = ⊥
TurnAlike related (Ends o) (Ends k) = k ≡ o

-- two runs have done the same and have the same bytes before them, and where they go on their worlds are related
abbrev pub RunAlike : {W V : Type 0} → (W → V → Type 0) → Run W → Run V → Type 0
RunAlike related (Going w input acts) (Going v others done) = related w v × AreBytes input × (others ≡ input) × (done ≡ acts)
RunAlike related (Going w input acts) (Over k done) = ⊥
RunAlike related (Over o acts) (Going v others done) = ⊥
RunAlike related (Over o acts) (Over k done) = (k ≡ o) × (done ≡ acts)

-- a turn that is neither wrong nor too deep
abbrev pub IsSound : {W : Type 0} → Turned W → Type 0
IsSound (On w) = Unit {0}
IsSound (Asks f) = Unit {0}
IsSound (Gives b w) = Unit {0}
IsSound (Ends o) = (o ≢ outcome.Wrong) × (o ≢ outcome.Deep)

-- from one world to another by turns that only go on: at least so many, at no more than this price
abbrev pub Goes : {V : Type 0} → Turns V → V → V → ℕ → ℕ → Type 0
Goes b v u least cost = (input : List ℕ) (acts : List Act) → Reaches (turning b) (Going v input acts) (Going u input acts) least cost

-- the turn goes on, and the target goes to a related world. Where it may be by no turn the measure falls
pub record Arrives {W V : Type 0} (b : Turns V) (related : W → V → Type 0) (measure : W → ℕ × ℕ) (size : ℕ × ℕ) (turned : Turned W) (v : V) (cost : ℕ) : Type 0 where
  pub next : W
  pub is : turned ≡ On next
  pub target : V
  pub least : ℕ
  pub goes : Goes b v target least cost
  pub relates : related next target
  pub falls : least ≡ 0 → Falls (measure next) size

-- the target goes to where its own turn is a like one
pub record Moves {W V : Type 0} (b : Turns V) (related : W → V → Type 0) (turned : Turned W) (v : V) (cost : ℕ) : Type 0 where
  pub last : V
  pub before : ℕ
  pub goes : Goes b v last 0 before
  pub ends : TurnAlike related turned (b.turn last)
  pub within : before + b.price last ≤ cost

-- a turn is met, from this world and at no more than this price
abbrev pub TurnMet : {W V : Type 0} → Turns V → (W → V → Type 0) → (W → ℕ × ℕ) → ℕ × ℕ → Turned W → V → ℕ → Type 0
TurnMet b related measure size turned v cost = Arrives b related measure size turned v cost ⊎ Moves b related turned v cost

-- each turn that is neither wrong nor too deep is met within its price
abbrev pub EachTurnMet : {W V : Type 0} → Turns W → Turns V → (W → V → Type 0) → (W → ℕ × ℕ) → Type 0
EachTurnMet {W} {V} a b related measure = (w : W) (v : V) → related w v → IsSound (a.turn w) → TurnMet b related measure (measure w) (a.turn w) v (a.price w)

-- the measure of a run
abbrev pub run_measure : {W : Type 0} → (W → ℕ × ℕ) → Run W → ℕ × ℕ
run_measure measure (Going w input acts) = measure w
run_measure measure (Over o acts) = (0, 0)
