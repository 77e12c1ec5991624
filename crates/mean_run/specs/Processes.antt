-- What a process stands for: a run of linked units that goes on.
use Rattle.std.specs.Prelude.{◌≡◌, ◌≤◌, List, ◌∷◌, Option, Some, None, Result, Ok, Err}
use Rattle.cc_base.specs.declared.run.Outcome.{Outcome}
use Rattle.cc_base.specs.declared.run.Outcome.TheVariants as outcome
use Rattle.block_mem.specs.declared.value.Value.{Value}
use Rattle.clight_sem.specs.declared.destination.Destination.{Destination}
use Rattle.clight_sem.specs.Functions.{Linked}
use Rattle.clight_sem.specs.States.{Frame as FrameSeen, World, Turned, On, Asks, Gives, Ends, on}
use Rattle.clight_sem.specs.Turns.{given, minus_one, without_value}
use Rattle.mean_run.specs.declared.program.Program.{Program}
use Rattle.mean_run.specs.Frames.{frame_of, frames_of}
use Rattle.mean_run.specs.declared.process.Process.{Process}
use Rattle.mean_run.specs.declared.process.Final.{Final}
use Rattle.mean_run.specs.declared.process.Final.TheVariants as final
use Rattle.mean_run.specs.declared.process.Pending.{Pending}
use Rattle.mean_run.specs.declared.process.Pending.TheVariants as pending

-- the linked program
abbrev pub linked_of : Program → Linked
linked_of p = record { units = p.units.now; objects = p.objects; callees = p.callees; room = p.room }

-- a run that goes on
abbrev pub world_of : Process → World
world_of p = record { memory = p.memory; calls = p.calls; top = frame_of p.top; below = frames_of p.below }

-- with a call above the newest one
abbrev pub on_top : World → FrameSeen → World
on_top w f = record { memory = w.memory; calls = w.calls; top = f; below = w.top ∷ w.below }

-- the newest call gets what the call that it made returned
abbrev pub received : Destination → Option Value → World → Turned
received d None w = without_value d w
received d (Some v) w = on (given d v w)

-- the place of a call's result and its arguments
abbrev pub both_found : Option Destination → Option (List Value) → Option (Destination × List Value)
both_found None vs = None
both_found (Some d) None = None
both_found (Some d) (Some vs) = Some (d, vs)

-- how a run that is over is seen
abbrev pub outcome_of : Final → Outcome
outcome_of (final.Ended status) = outcome.Ended status
outcome_of final.Wrong = outcome.Wrong
outcome_of final.Deep = outcome.Deep

-- a byte is asked for in some state, and -1 is already where the byte is to go
pub record Asked (t : Turned) (d : Destination) (new : World) : Type 0 where
  pub old : World
  pub asks : t ≡ Asks d old
  pub ready : given d minus_one old ≡ Some new

-- what a turn comes to, from what it has left to be done
abbrev pub TurnsTo : Turned → Pending → World → Type 0
TurnsTo t pending.Nothing new = t ≡ On new
TurnsTo t (pending.Byte d) new = Asked t d new
TurnsTo t (pending.Give b) new = t ≡ Gives b new
TurnsTo t (pending.End how) new = t ≡ Ends (outcome_of how)

-- how a run begins
abbrev pub BeginsAs : Turned → Result Process Final → Type 0
BeginsAs t (Ok q) = t ≡ On (world_of q)
BeginsAs t (Err how) = t ≡ Ends (outcome_of how)

-- one call was made
abbrev pub HasCalled : Result Process Final → Type 0
HasCalled (Ok q) = q.calls ≤ 1
HasCalled (Err how) = Unit {0}
