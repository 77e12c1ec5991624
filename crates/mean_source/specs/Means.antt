-- What linked units come to over the outside, by `source_after`.
use Rattle.std.specs.Prelude.{◌≡◌, ℕ, ◌+◌, ◌<◌, ◌≤◌, ◌⊎◌, List, [], ◌∷◌, ◌++◌, Some, Result, Ok, Err}
use Rattle.cc_base.specs.Faces.{source_fault, Linkable}
use Rattle.cc_base.specs.Outside.{SourceFailed, SinkFailed, SinkWanted, grown}
use Rattle.cc_base.specs.Runs.{State, emitted, taken}
use Rattle.cc_base.specs.Seen.{SourceSeen, SinkSeen}
use Rattle.cc_base.specs.declared.face.Face.{Face}
use Rattle.cc_base.specs.declared.face.SourceFault.TheVariants as source
use Rattle.cc_base.specs.declared.run.Act.{Act}
use Rattle.cc_base.specs.declared.run.Act.TheVariants as act
use Rattle.cc_base.specs.declared.run.Outcome.{Outcome}
use Rattle.cc_base.specs.declared.run.Outcome.TheVariants as outcome
use Rattle.block_mem.specs.Start.{faces_of}
use Rattle.clight_unit.specs.declared.unit.ClightUnit.{ClightUnit as TypedUnit}
use Rattle.clight_sem.specs.Functions.{Linked, linked, all_parts, main_of}
use Rattle.clight_sem.specs.States.{World, On, Ends}
use Rattle.clight_sem.specs.Turns.{entered_main, source_after}
use Rattle.mean_run.specs.declared.process.Final.{Final}
use Rattle.mean_run.specs.Processes.{outcome_of}
use Rattle.mean_run.specs.Running.{lacking, Runs}
use Rattle.mean_run.specs.declared.running.MeanEnd.{MeanEnd}
use Rattle.mean_run.specs.declared.running.MeanEnd.TheVariants as end
use Rattle.mean_run.specs.declared.running.RunFault.{RunFault}
use Rattle.mean_run.specs.declared.running.RunFault.TheVariants as run
use Rattle.mean_source.specs.declared.meaning.MeanFault.{MeanFault}
use Rattle.mean_source.specs.declared.meaning.MeanFault.TheVariants as fault
use Rattle.mean_source.specs.Programs.{end_at_once}

-- how a program stands, on an input and after so many turns
abbrev pub After : Type 0
After = List ℕ → ℕ → State

-- after n turns the program stands so: the output has grown by just what was emitted, and the input lacks just what was taken
-- i, o: before; i', o': after
pub record StandsSo (after : After) (n : ℕ) (how : Outcome) (i : SourceSeen) (o : SinkSeen) (i' : SourceSeen) (o' : SinkSeen) : Type 0 where
  pub acts : List Act
  pub is : (input : List ℕ) → i.told ≡ Some input → after input n ≡ record { outcome = how; acts = acts }
  pub output : o' ≡ grown o (emitted acts)
  pub input : i' ≡ lacking i (taken acts)

-- so many turns are the least after which a run has this outcome
pub record IsLeast (after : ℕ → State) (turns n : ℕ) (how : Outcome) : Type 0 where
  pub within : n ≤ turns
  pub stands : (after n).outcome ≡ how
  pub first : (k : ℕ) → k < n → (after k).outcome ≡ outcome.Running

-- after all turns the program stands so, and n is the least number of turns after which it does
pub record FirstSo (after : After) (turns n : ℕ) (how : Outcome) (i : SourceSeen) (o : SinkSeen) (i' : SourceSeen) (o' : SinkSeen) : Type 0 where
  pub stands : StandsSo after turns how i o i' o'
  pub least : (input : List ℕ) → i.told ≡ Some input → IsLeast (after input) turns n how

-- the acts of a turn that asks for a byte, and of one that emits one
abbrev pub IsAsking : List Act → List Act → Type 0
IsAsking before acts = (acts ≡ before ++ act.Took ∷ []) ⊎ (acts ≡ before ++ act.AtEnd ∷ [])

abbrev pub IsEmitting : List Act → List Act → Type 0
IsEmitting before acts = (b : ℕ) × (acts ≡ before ++ act.Gave b ∷ [])

-- a turn of this kind comes next
abbrev pub ComesNext : (List Act → List Act → Type 0) → After → ℕ → SourceSeen → Type 0
ComesNext kind after n i = (input : List ℕ) → i.told ≡ Some input → kind (after input n).acts (after input (n + 1)).acts

-- fewer turns were taken, and at the next one the outside failed
pub record CutOffAt (after : After) (turns : ℕ) (i : SourceSeen) (o : SinkSeen) (failed : ℕ → SourceSeen → SinkSeen → Type 0) : Type 0 where
  pub count : ℕ
  pub fewer : count < turns
  pub source : SourceSeen
  pub sink : SinkSeen
  pub stands : StandsSo after count outcome.Running i o source sink
  pub fault : failed count source sink

-- What a run comes to within so many turns: its end, or that the outside cut it off. Want of memory may come at any time.
abbrev pub Comes : After → ℕ → SourceSeen → SinkSeen → Result MeanEnd MeanFault → SourceSeen → SinkSeen → Type 0
Comes after turns i o (Ok (end.Ended status)) i' o' = StandsSo after turns (outcome.Ended status) i o i' o'
Comes after turns i o (Ok end.Spent) i' o' = StandsSo after turns outcome.Running i o i' o'
Comes after turns i o (Ok (end.Wrong n)) i' o' = FirstSo after turns n outcome.Wrong i o i' o'
Comes after turns i o (Ok (end.Deep n)) i' o' = FirstSo after turns n outcome.Deep i o i' o'
Comes after turns i o (Err fault.Read) i' o' = CutOffAt after turns i o (λ n input output. ComesNext IsAsking after n i × SourceFailed input i' × (o' ≡ output))
Comes after turns i o (Err fault.Write) i' o' = CutOffAt after turns i o (λ n input output. ComesNext IsEmitting after n i × SinkFailed output o' × (i' ≡ input))
Comes after turns i o (Err fault.Memory) i' o' =
    ((i' ≡ i) × (o' ≡ o)) ⊎ CutOffAt after turns i o (λ n input output. (i' ≡ input) × ((o' ≡ output) ⊎ (ComesNext IsEmitting after n i × SinkWanted output o')))
Comes after turns i o (Err _) i' o' = ⊥

-- a program begins, and its turns come to this. They are those on the input, where that tells its bytes, and else those on some
-- answers of it (`Path` of `mean_run`)
pub record Goes (p : Linked) (turns : ℕ) (i : SourceSeen) (o : SinkSeen) (result : Result MeanEnd RunFault) (i' : SourceSeen) (o' : SinkSeen) : Type 0 where
  pub first : World
  pub begins : entered_main p (main_of p) ≡ On first
  pub last : World
  pub runs : Runs p turns first i o result last i' o'

-- a program is over before its first turn
pub record OverAtOnce (p : Linked) (e : MeanEnd) (i : SourceSeen) (o : SinkSeen) (i' : SourceSeen) (o' : SinkSeen) : Type 0 where
  pub how : Final
  pub ends : entered_main p (main_of p) ≡ Ends (outcome_of how)
  pub told : e ≡ end_at_once how
  pub input : i' ≡ i
  pub output : o' ≡ o

-- what happens, whether or not the input tells its bytes
abbrev pub Happens : Linked → ℕ → SourceSeen → SinkSeen → Result MeanEnd MeanFault → SourceSeen → SinkSeen → Type 0
Happens p turns i o (Ok e) i' o' = OverAtOnce p e i o i' o' ⊎ Goes p turns i o (Ok e) i' o'
Happens p turns i o (Err fault.Read) i' o' = Goes p turns i o (Err run.Read) i' o'
Happens p turns i o (Err fault.Write) i' o' = Goes p turns i o (Err run.Write) i' o'
Happens p turns i o (Err fault.Memory) i' o' = ((i' ≡ i) × (o' ≡ o)) ⊎ Goes p turns i o (Err run.Memory) i' o'
Happens p turns i o (Err _) i' o' = ⊥

abbrev pub faces : List TypedUnit → List Face
faces units = faces_of (all_parts units)

-- a fault of linking, before any turn
abbrev pub IsFaulty : List TypedUnit → MeanFault → Type 0
IsFaulty units (fault.Doubled unit index) = source_fault (faces units) ≡ Some (source.Doubled unit index)
IsFaulty units (fault.Unresolved unit index) = source_fault (faces units) ≡ Some (source.Unresolved unit index)
IsFaulty units (fault.Sized unit index stated defined) = source_fault (faces units) ≡ Some (source.Sized unit index stated defined)
IsFaulty units _ = ⊥

-- what linked units come to within so many turns, with this room for the needs of all active calls together, in bytes. `Comes`
-- says it of an input that tells its bytes, and `Happens` of any
abbrev pub Means : List TypedUnit → ℕ → ℕ → SourceSeen → SinkSeen → Result MeanEnd MeanFault → SourceSeen → SinkSeen → Type 0
Means units room turns i o (Err (fault.Doubled unit index)) i' o' = IsFaulty units (fault.Doubled unit index) × (i' ≡ i) × (o' ≡ o)
Means units room turns i o (Err (fault.Unresolved unit index)) i' o' = IsFaulty units (fault.Unresolved unit index) × (i' ≡ i) × (o' ≡ o)
Means units room turns i o (Err (fault.Sized unit index stated defined)) i' o' = IsFaulty units (fault.Sized unit index stated defined) × (i' ≡ i) × (o' ≡ o)
Means units room turns i o (Err fault.Memory) i' o' = ((i' ≡ i) × (o' ≡ o)) ⊎ (Linkable (faces units) × Comes (source_after units room) turns i o (Err fault.Memory) i' o' × Happens (linked units room) turns i o (Err fault.Memory) i' o')
Means units room turns i o result i' o' = Linkable (faces units) × Comes (source_after units room) turns i o result i' o' × Happens (linked units room) turns i o result i' o'
