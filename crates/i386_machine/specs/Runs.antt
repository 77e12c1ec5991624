-- Runs of the machine over the outside.
use Rattle.std.specs.Prelude.{◌≡◌, ℕ, zero, suc, ◌<◌, List, [], ◌∷◌, ◌++◌, Option, Some, option_map, drop, slice_get}
use Rattle.cc_base.specs.Seen.{SourceSeen, SinkSeen}
use Rattle.cc_base.specs.Outside.{SourceFailed, SinkFailed, SinkWanted, grown}
use Rattle.cc_base.specs.Runs as runs
use Rattle.cc_base.specs.declared.run.Act.{Act}
use Rattle.cc_base.specs.declared.run.Act.TheVariants as act
use Rattle.cc_base.specs.declared.run.Outcome.{Outcome}
use Rattle.cc_base.specs.declared.run.Outcome.TheVariants as outcome
use Rattle.i386_machine.specs.declared.event.Event.{Event}
use Rattle.i386_machine.specs.declared.event.Event.TheVariants as event
use Rattle.i386_machine.specs.declared.event.Standing.{Standing}
use Rattle.i386_machine.specs.declared.event.Standing.TheVariants as standing
use Rattle.i386_machine.specs.declared.event.RunEnd.{RunEnd}
use Rattle.i386_machine.specs.declared.event.RunEnd.TheVariants as end
use Rattle.i386_machine.specs.Machine.{State}
use Rattle.i386_machine.specs.Step.{Doing, Asks, Gives, doing, step}

-- a machine under way: its state, the input that is left, and what it did to the outside
pub record Run : Type 0 where
  pub machine : State
  pub left : List ℕ
  pub acts : List Act

abbrev pub acts_of : Event → List Act
acts_of event.On = []
acts_of event.Took = act.Took ∷ []
acts_of event.AtEnd = act.AtEnd ∷ []
acts_of (event.Gave byte) = act.Gave byte ∷ []
acts_of (event.Ended status) = []
acts_of (event.Stuck cause) = []

-- the input that is left: a byte that was taken is gone
abbrev pub left_after : Event → List ℕ → List ℕ
left_after event.Took left = drop 1 left
left_after _ left = left

-- one step
abbrev pub advance : Run → Run
advance run = let s = step run.machine (slice_get run.left 0) in
    record { machine = s.after; left = left_after s.event run.left; acts = run.acts ++ acts_of s.event }

abbrev pub begun : State → List ℕ → Run
begun m input = record { machine = m; left = input; acts = [] }

-- a machine on an input after n steps
abbrev pub after : State → List ℕ → ℕ → Run
after m input zero = begun m input
after m input (suc n) = advance (after m input n)

-- a machine that is stuck has gone wrong
abbrev pub outcome_of : Standing → Outcome
outcome_of standing.Running = outcome.Running
outcome_of (standing.Ended status) = outcome.Ended status
outcome_of (standing.Stuck cause) = outcome.Wrong

-- what is seen of it
abbrev pub seen_of : Run → runs.State
seen_of run = record { outcome = outcome_of run.machine.standing; acts = run.acts }

-- the last of some steps: what led there, what the outside answered, and what came of it
pub record LastStep (before : List Act → State → Type 0) (acts : List Act) (m' : State) : Type 0 where
  pub acts_before : List Act
  pub from : State
  pub next : Option ℕ
  pub led : before acts_before from
  pub acts_are : acts ≡ acts_before ++ acts_of (step from next).event
  pub leads : m' ≡ (step from next).after

-- n steps lead from m to m' with these acts, on some answers of the outside
abbrev pub Path : State → ℕ → List Act → State → Type 0
Path m zero acts m' = (acts ≡ []) × (m' ≡ m)
Path m (suc n) acts m' = LastStep (Path m n) acts m'

-- once the end of the input was found, no byte was taken
abbrev pub EndsOnce : List Act → Type 0
EndsOnce acts = (before behind : List Act) → acts ≡ before ++ act.AtEnd ∷ behind → runs.taken behind ≡ 0

-- on some input, n steps lead from m to m' with these acts
pub record OnSomeInput (m : State) (n : ℕ) (acts : List Act) (m' : State) : Type 0 where
  pub input : List ℕ
  pub acts_are : acts ≡ (after m input n).acts
  pub machine_is : m' ≡ (after m input n).machine

-- n steps were taken over this outside: the output has grown by just what was emitted, and the input lacks just what was taken.
-- Where the source tells its bytes, the steps are those on these bytes. Where it tells none, they are those on some answers, and
-- on some input unless the source gave a byte after it had none.
-- m, i, o: before; m', i', o': after
pub record Ran (m : State) (n : ℕ) (i : SourceSeen) (o : SinkSeen) (m' : State) (i' : SourceSeen) (o' : SinkSeen) : Type 0 where
  pub acts : List Act
  pub path : Path m n acts m'
  pub acts_are : (input : List ℕ) → i.told ≡ Some input → acts ≡ (after m input n).acts
  pub machine_is : (input : List ℕ) → i.told ≡ Some input → m' ≡ (after m input n).machine
  pub some_input : EndsOnce acts → OnSomeInput m n acts m'
  pub output : o' ≡ grown o (runs.emitted acts)
  pub input : i' ≡ record i { told = option_map (λ rest. drop (runs.taken acts) rest) i.told }

-- fewer steps were taken, and at the next one the outside failed
pub record CutOff (m : State) (steps : ℕ) (i : SourceSeen) (o : SinkSeen) (m' : State) (comes : Doing → Type 0) (failed : SourceSeen → SinkSeen → Type 0) : Type 0 where
  pub count : ℕ
  pub fewer : count < steps
  pub input : SourceSeen
  pub output : SinkSeen
  pub ran : Ran m count i o m' input output
  pub next : comes (doing m')
  pub fault : failed input output

abbrev pub IsAsked : Doing → Type 0
IsAsked d = d ≡ Asks

abbrev pub IsGiven : Doing → Type 0
IsGiven d = (byte : ℕ) × (d ≡ Gives byte)

-- what a run comes to, by its end
abbrev pub Runs : State → ℕ → SourceSeen → SinkSeen → RunEnd → State → SourceSeen → SinkSeen → Type 0
Runs m steps i o (end.Ended status) m' i' o' = Ran m steps i o m' i' o' × (m'.standing ≡ standing.Ended status)
Runs m steps i o end.Spent m' i' o' = Ran m steps i o m' i' o' × (m'.standing ≡ standing.Running)
Runs m steps i o (end.Stuck eip cause) m' i' o' = Ran m steps i o m' i' o' × (m'.standing ≡ standing.Stuck cause) × (m'.eip ≡ eip)
Runs m steps i o end.Read m' i' o' = CutOff m steps i o m' IsAsked (λ input output. SourceFailed input i' × (o' ≡ output))
Runs m steps i o end.Write m' i' o' = CutOff m steps i o m' IsGiven (λ input output. SinkFailed output o' × (i' ≡ input))
Runs m steps i o end.Memory m' i' o' = CutOff m steps i o m' IsGiven (λ input output. SinkWanted output o' × (i' ≡ input))
