-- Runs over the outside.
use Rattle.std.specs.Prelude.{◌≡◌, ℕ, zero, suc, ◌<◌, ◌≤◌, ◌⊎◌, List, [], ◌++◌, drop, Option, Some, None, option_map, Result, Ok, Err}
use Rattle.cc_base.specs.Seen.{SourceSeen, SinkSeen}
use Rattle.cc_base.specs.Outside.{SourceFailed, SinkFailed, SinkWanted, grown}
use Rattle.cc_base.specs.Runs.{emitted, taken}
use Rattle.cc_base.specs.declared.run.Act.{Act}
use Rattle.cc_base.specs.declared.run.Outcome.{Outcome}
use Rattle.cc_base.specs.declared.run.Outcome.TheVariants as outcome
use Rattle.pass_core.specs.Semantics.{iterate, run_of}
use Rattle.clight_sem.specs.declared.destination.Destination.{Destination}
use Rattle.clight_sem.specs.Functions.{Linked}
use Rattle.clight_sem.specs.States.{World, Turned, Asks, Gives, Run, Going, Over}
use Rattle.clight_sem.specs.Turns.{turn, after_turn, source}
use Rattle.mean_run.specs.declared.process.Final.{Final}
use Rattle.mean_run.specs.declared.process.Final.TheVariants as final
use Rattle.mean_run.specs.declared.running.RunFault.{RunFault}
use Rattle.mean_run.specs.declared.running.RunFault.TheVariants as fault
use Rattle.mean_run.specs.declared.running.MeanEnd.{MeanEnd}
use Rattle.mean_run.specs.declared.running.MeanEnd.TheVariants as end
use Rattle.mean_run.specs.Processes.{outcome_of}

-- a source that lacks so many bytes
abbrev pub lacking : SourceSeen → ℕ → SourceSeen
lacking i k = record i { told = option_map (λ rest. drop k rest) i.told }

-- a run that is over, whatever is left of the input
abbrev pub over : Outcome → List ℕ → List Act → Run
over how input acts = Over how acts

-- the last of some turns, on what the outside answered: `answer` is what is left of the input at that turn
pub record LastTurn (p : Linked) (before : List Act → World → Type 0) (acts : List Act) (run : List ℕ → List Act → Run) : Type 0 where
  pub acts_before : List Act
  pub from : World
  pub answer : List ℕ
  pub left : List ℕ
  pub led : before acts_before from
  pub leads : after_turn (turn p from) answer acts_before ≡ run left acts

-- n turns lead from a world to a run with these acts, on some answers of the outside, and it goes on until the last of them
abbrev pub Path : Linked → World → ℕ → List Act → (List ℕ → List Act → Run) → Type 0
Path p w zero acts run = (acts ≡ []) × ((input : List ℕ) → run input [] ≡ Going w input [])
Path p w (suc n) acts run = LastTurn p (λ before from. Path p w n before (Going from)) acts run

-- n turns were taken from a world on over this outside: the output has grown by just what was emitted, and the input lacks just
-- what was taken. Where the input tells its bytes the turns are those on it, and else those on some answers
-- i, o: before; i', o': after
pub record Ran (p : Linked) (w : World) (n : ℕ) (i : SourceSeen) (o : SinkSeen) (run : List ℕ → List Act → Run) (i' : SourceSeen) (o' : SinkSeen) : Type 0 where
  pub acts : List Act
  pub path : Path p w n acts run
  pub is : (input : List ℕ) → i.told ≡ Some input → iterate (source p).step n (Going w input []) ≡ run (drop (taken acts) input) acts
  pub output : o' ≡ grown o (emitted acts)
  pub input : i' ≡ lacking i (taken acts)

-- a turn comes to this with these acts more, on some answer of the outside, whatever was done before
abbrev pub Answered : Linked → World → List Act → (List ℕ → List Act → Run) → Type 0
Answered p w acts run = (before : List Act) → (answer left : List ℕ) × (after_turn (turn p w) answer before ≡ run left (before ++ acts))

-- one turn more was taken
pub record Stepped (p : Linked) (w : World) (i : SourceSeen) (o : SinkSeen) (run : List ℕ → List Act → Run) (i' : SourceSeen) (o' : SinkSeen) : Type 0 where
  pub acts : List Act
  pub answered : Answered p w acts run
  pub is : (input : List ℕ) (before : List Act) → i.told ≡ Some input → after_turn (turn p w) input before ≡ run (drop (taken acts) input) (before ++ acts)
  pub output : o' ≡ grown o (emitted acts)
  pub input : i' ≡ lacking i (taken acts)

abbrev pub IsAsked : Turned → Type 0
IsAsked t = (d : Destination) × (w : World) × (t ≡ Asks d w)

abbrev pub IsGiven : Turned → Type 0
IsGiven t = (b : ℕ) × (w : World) × (t ≡ Gives b w)

-- there was not enough memory: the sink wanted it for a byte, or the turn itself did
abbrev pub Wanted : Turned → SourceSeen → SinkSeen → SourceSeen → SinkSeen → Type 0
Wanted t i o i' o' = (IsGiven t × SinkWanted o o' × (i' ≡ i)) ⊎ ((i' ≡ i) × (o' ≡ o))

-- what a turn comes to over the outside: the run goes on, or it is over, or the outside failed
abbrev pub Steps : Linked → World → SourceSeen → SinkSeen → Result (Option Final) RunFault → World → SourceSeen → SinkSeen → Type 0
Steps p w i o (Ok None) w' i' o' = Stepped p w i o (Going w') i' o'
Steps p w i o (Ok (Some how)) w' i' o' = Stepped p w i o (over (outcome_of how)) i' o'
Steps p w i o (Err fault.Read) w' i' o' = IsAsked (turn p w) × SourceFailed i i' × (o' ≡ o)
Steps p w i o (Err fault.Write) w' i' o' = IsGiven (turn p w) × SinkFailed o o' × (i' ≡ i)
Steps p w i o (Err fault.Memory) w' i' o' = Wanted (turn p w) i o i' o'

-- fewer turns were taken, and at the next one the outside failed
pub record CutOff (p : Linked) (w : World) (turns : ℕ) (i : SourceSeen) (o : SinkSeen) (failed : Turned → SourceSeen → SinkSeen → Type 0) : Type 0 where
  pub count : ℕ
  pub fewer : count < turns
  pub world : World
  pub input : SourceSeen
  pub output : SinkSeen
  pub ran : Ran p w count i o (Going world) input output
  pub fault : failed (turn p world) input output

-- before these turns the run was not over
abbrev pub RunsBefore : Linked → World → ℕ → SourceSeen → Type 0
RunsBefore p w n i = (input : List ℕ) → i.told ≡ Some input → (k : ℕ) → k < n → (run_of (source p) (Going w input []) k).outcome ≡ outcome.Running

-- the run is over after so many turns, and not before
pub record OverAt (p : Linked) (w : World) (turns n : ℕ) (i : SourceSeen) (o : SinkSeen) (how : Outcome) (i' : SourceSeen) (o' : SinkSeen) : Type 0 where
  pub within : n ≤ turns
  pub ran : Ran p w n i o (over how) i' o'
  pub first : RunsBefore p w n i

-- the end of a run that is over after so many turns
abbrev pub end_of : Final → ℕ → MeanEnd
end_of (final.Ended status) turn = end.Ended status
end_of final.Wrong turn = end.Wrong turn
end_of final.Deep turn = end.Deep turn

-- what a run from a world on comes to within so many turns, by its end
abbrev pub Runs : Linked → ℕ → World → SourceSeen → SinkSeen → Result MeanEnd RunFault → World → SourceSeen → SinkSeen → Type 0
Runs p turns w i o (Ok (end.Ended status)) w' i' o' = (n : ℕ) × OverAt p w turns n i o (outcome.Ended status) i' o'
Runs p turns w i o (Ok end.Spent) w' i' o' = Ran p w turns i o (Going w') i' o'
Runs p turns w i o (Ok (end.Wrong n)) w' i' o' = OverAt p w turns n i o outcome.Wrong i' o'
Runs p turns w i o (Ok (end.Deep n)) w' i' o' = OverAt p w turns n i o outcome.Deep i' o'
Runs p turns w i o (Err fault.Read) w' i' o' = CutOff p w turns i o (λ t input output. IsAsked t × SourceFailed input i' × (o' ≡ output))
Runs p turns w i o (Err fault.Write) w' i' o' = CutOff p w turns i o (λ t input output. IsGiven t × SinkFailed output o' × (i' ≡ input))
Runs p turns w i o (Err fault.Memory) w' i' o' = CutOff p w turns i o (λ t input output. Wanted t input output i' o')
