-- One step over a source and a sink, and the end of a run.
use Rattle.std.specs.Prelude.{◌≡◌, ℕ, Option, Result, Ok, Err, [], ◌∷◌}
use Rattle.cc_base.specs.Seen.{SourceSeen, SinkSeen}
use Rattle.cc_base.specs.Outside.{Nexts, SourceFailed, SinkFailed, SinkWanted, grown}
use Rattle.i386_machine.specs.declared.event.RunEnd.{RunEnd}
use Rattle.i386_machine.specs.declared.event.RunEnd.TheVariants as end
use Rattle.i386_machine.specs.declared.event.Standing.TheVariants as standing
use Rattle.i386_machine.specs.Machine.{State}
use Rattle.i386_machine.specs.Step.{Doing, Goes, Asks, Gives, Ends, Sticks, doing, stepped, answered}
use Rattle.i386_machine.specs.Runs.{IsAsked, IsGiven}

-- what the step does to the outside, and where it leads
abbrev pub Does : Doing → State → SourceSeen → SinkSeen → State → SourceSeen → SinkSeen → Type 0
Does (Goes after) m i o m' i' o' = (m' ≡ after) × (i' ≡ i) × (o' ≡ o)
Does Asks m i o m' i' o' = (next : Option ℕ) × (m' ≡ (stepped Asks m next).after) × Nexts i (Ok next) i' × (o' ≡ o)
Does (Gives byte) m i o m' i' o' = (m' ≡ answered 1 m) × (i' ≡ i) × (o' ≡ grown o (byte ∷ []))
Does (Ends status) m i o m' i' o' = (m' ≡ record m { standing = standing.Ended status }) × (i' ≡ i) × (o' ≡ o)
Does (Sticks cause) m i o m' i' o' = (m' ≡ record m { standing = standing.Stuck cause }) × (i' ≡ i) × (o' ≡ o)

-- a step was taken
pub record Turned (m : State) (i : SourceSeen) (o : SinkSeen) (m' : State) (i' : SourceSeen) (o' : SinkSeen) : Type 0 where
  pub what : Doing
  pub is : doing m ≡ what
  pub does : Does what m i o m' i' o'

-- the outside failed, and the machine is as it was
pub record Faulted (comes : Doing → Type 0) (m m' : State) : Type 0 where
  pub next : comes (doing m)
  pub same : m' ≡ m

-- how a machine stands at the end of a run
abbrev pub StandsAt : State → RunEnd → Type 0
StandsAt m (end.Ended status) = m.standing ≡ standing.Ended status
StandsAt m end.Spent = m.standing ≡ standing.Running
StandsAt m (end.Stuck eip cause) = (m.standing ≡ standing.Stuck cause) × (m.eip ≡ eip)
StandsAt m _ = ⊥

-- what one step comes to: an error is the end of the run
abbrev pub Turns : State → SourceSeen → SinkSeen → Result (Unit {0}) RunEnd → State → SourceSeen → SinkSeen → Type 0
Turns m i o (Ok _) m' i' o' = Turned m i o m' i' o'
Turns m i o (Err (end.Ended status)) m' i' o' = Turned m i o m' i' o' × StandsAt m' (end.Ended status)
Turns m i o (Err (end.Stuck eip cause)) m' i' o' = Turned m i o m' i' o' × StandsAt m' (end.Stuck eip cause)
Turns m i o (Err end.Spent) m' i' o' = ⊥
Turns m i o (Err end.Read) m' i' o' = Faulted IsAsked m m' × SourceFailed i i' × (o' ≡ o)
Turns m i o (Err end.Write) m' i' o' = Faulted IsGiven m m' × SinkFailed o o' × (i' ≡ i)
Turns m i o (Err end.Memory) m' i' o' = Faulted IsGiven m m' × SinkWanted o o' × (i' ≡ i)
