-- Runs that go by turns of a world: the form that the languages between the source and the machine share.
use Rattle.std.specs.Prelude.{ℕ, ◌+◌, cond, nat_le, List, [], ◌∷◌, ◌++◌, Option, Some, None}
use Rattle.cc_base.specs.Runs.{State}
use Rattle.cc_base.specs.declared.run.Act.{Act}
use Rattle.cc_base.specs.declared.run.Act.TheVariants as act
use Rattle.cc_base.specs.declared.run.Outcome.{Outcome}
use Rattle.cc_base.specs.declared.run.Outcome.TheVariants as outcome
use Rattle.pass_core.specs.Inputs.{minus_one}
use Rattle.pass_core.specs.Semantics.{Semantics, halting}

-- memory, how many calls were made, and the active calls, the newest and those below it
pub record World (M F : Type 0) : Type 0 where
  pub memory : M
  pub calls : ℕ
  pub top : F
  pub below : List F

-- what a turn comes to: the run goes on; it asks for a byte, and goes on by the word that comes; it emits a byte; or it is over
pub data Turned (W : Type 0) : Type 0 where
  On : W → Turned W
  Asks : (ℕ → W) → Turned W
  Gives : ℕ → W → Turned W
  Ends : Outcome → Turned W

-- a run: it goes on, with what remains of the input and what was done to the outside, or it is over
pub data Run (W : Type 0) : Type 0 where
  Going : W → List ℕ → List Act → Run W
  Over : Outcome → List Act → Run W

-- what is seen of a run
abbrev pub seen : {W : Type 0} → Run W → State
seen (Going w input acts) = record { outcome = outcome.Running; acts = acts }
seen (Over how acts) = record { outcome = how; acts = acts }

-- the next byte of the input comes, or -1 where none is left
abbrev pub next_byte : {W : Type 0} → (ℕ → W) → List ℕ → List Act → Run W
next_byte take [] acts = Going (take minus_one) [] (acts ++ act.AtEnd ∷ [])
next_byte take (b ∷ bs) acts = Going (take b) bs (acts ++ act.Took ∷ [])

abbrev pub after_turn : {W : Type 0} → Turned W → List ℕ → List Act → Run W
after_turn (On w) input acts = Going w input acts
after_turn (Asks take) input acts = next_byte take input acts
after_turn (Gives b w) input acts = Going w input (acts ++ act.Gave b ∷ [])
after_turn (Ends how) input acts = Over how acts

-- one turn of a run. What is over stays so
abbrev pub advance : {W : Type 0} → (W → Turned W) → Run W → Run W
advance turn (Going w input acts) = after_turn (turn w) input acts
advance turn (Over how acts) = Over how acts

-- the price of the turn that a run takes next
abbrev pub price_by : {W : Type 0} → (W → ℕ) → Run W → ℕ
price_by price (Going w input acts) = price w
price_by price (Over how acts) = 0

-- what a turn from each world comes to, and what it costs
pub record Turns (W : Type 0) : Type 0 where
  pub turn : W → Turned W
  pub price : W → ℕ

-- a run takes a turn as long as it goes on
abbrev pub turning : {W : Type 0} → Turns W → Semantics (Run W)
turning m = halting (advance m.turn) seen (price_by m.price)

-- Parts of turns

abbrev pub wrong : {W : Type 0} → Turned W
wrong = Ends outcome.Wrong

-- it goes on, or wrong where there is no world
abbrev pub on : {W : Type 0} → Option W → Turned W
on None = wrong
on (Some w) = On w

-- the stack that all active calls need, where each says how much
abbrev pub needs : {F : Type 0} → (F → ℕ) → List F → ℕ
needs need [] = 0
needs need (f ∷ fs) = need f + needs need fs

-- a run is too deep where the needs of all active calls are more than the room
abbrev pub if_room : {M F : Type 0} → (F → ℕ) → ℕ → World M F → Turned (World M F)
if_room need room w = cond (nat_le (needs need (w.top ∷ w.below)) room) (On w) (Ends outcome.Deep)
