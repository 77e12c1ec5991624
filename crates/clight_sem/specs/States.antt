-- How a run stands: the active calls, and what each has still to do.
use Rattle.std.specs.Prelude.{ℕ, ◌+◌, List, [], ◌∷◌, ◌++◌, map, Option, Some, None}
use Rattle.cc_base.specs.Runs.{State}
use Rattle.cc_base.specs.declared.run.Act.{Act}
use Rattle.cc_base.specs.declared.run.Outcome.{Outcome}
use Rattle.cc_base.specs.declared.run.Outcome.TheVariants as outcome
use Rattle.block_mem.specs.Blocks.{Blocks}
use Rattle.block_mem.specs.declared.value.Value.{Value}
use Rattle.clight_unit.specs.declared.expression.Test.{Test}
use Rattle.clight_unit.specs.declared.statement.Statement.{Statement}
use Rattle.clight_unit.specs.declared.statement.Simple.{Simple}
use Rattle.clight_unit.specs.declared.function.Function.{Function}
use Rattle.clight_sem.specs.declared.destination.Destination.{Destination}
use Rattle.clight_sem.specs.Values.{Scene}
use Rattle.clight_sem.specs.Functions.{Linked, objects_at}

-- an item of what a call has still to do: a statement that no turn has taken, or a part of a loop
pub data Item : Type 0 where
  Whole : Statement → Item
  -- the first or the last simple statement of a `for`
  Alone : Simple → Item
  -- a `while` that a turn has put behind its body
  Again : Test → List Statement → Item
  -- the test of a `do`
  TestOfDo : List Statement → Test → Item
  -- the test of a `for`, with its step and its body
  TestOfFor : Option Test → Option Simple → List Statement → Item
  -- the step of a `for`
  StepOfFor : Option Test → Option Simple → List Statement → Item

-- statements, each of them still whole
abbrev pub whole : List Statement → List Item
whole ss = map Whole ss

-- a simple statement, if there is one
abbrev pub alone : Option Simple → List Item
alone None = []
alone (Some x) = Alone x ∷ []

-- `break` drops all up to and with the nearest loop item
abbrev pub behind_loop : List Item → List Item
behind_loop [] = []
behind_loop (Whole s ∷ left) = behind_loop left
behind_loop (Alone x ∷ left) = behind_loop left
behind_loop (Again t body ∷ left) = left
behind_loop (TestOfDo body t ∷ left) = left
behind_loop (TestOfFor t step body ∷ left) = behind_loop left
behind_loop (StepOfFor t step body ∷ left) = left

-- `continue` drops all before it
abbrev pub from_loop : List Item → List Item
from_loop [] = []
from_loop (Whole s ∷ left) = from_loop left
from_loop (Alone x ∷ left) = from_loop left
from_loop (Again t body ∷ left) = Again t body ∷ left
from_loop (TestOfDo body t ∷ left) = TestOfDo body t ∷ left
from_loop (TestOfFor t step body ∷ left) = from_loop left
from_loop (StepOfFor t step body ∷ left) = StepOfFor t step body ∷ left

-- an active call: the unit of its function, the function, its number, its parameters and `register` locals as far as they are set,
-- what it has still to do, and where its result goes
pub record Frame : Type 0 where
  pub unit : ℕ
  pub function : Function
  pub activation : ℕ
  pub temporaries : List (Option Value)
  pub left : List Item
  pub result : Destination

-- a run that goes on: memory, how many calls were made, and the active calls, the newest and those below it
pub record World : Type 0 where
  pub memory : Blocks
  pub calls : ℕ
  pub top : Frame
  pub below : List Frame

-- what a turn comes to: the run goes on; it asks for a byte, which goes to a destination; it emits a byte; or the run is over
pub data Turned : Type 0 where
  On : World → Turned
  Asks : Destination → World → Turned
  Gives : ℕ → World → Turned
  Ends : Outcome → Turned

-- a run: it goes on, with what remains of the input and what was done to the outside, or it is over
pub data Run : Type 0 where
  Going : World → List ℕ → List Act → Run
  Over : Outcome → List Act → Run

-- what is seen of a run
abbrev pub seen : Run → State
seen (Going w input acts) = record { outcome = outcome.Running; acts = acts }
seen (Over how acts) = record { outcome = how; acts = acts }

-- it goes wrong
abbrev pub wrong : Turned
wrong = Ends outcome.Wrong

-- it goes on, or wrong where there is no value
abbrev pub on : Option World → Turned
on None = wrong
on (Some w) = On w

-- what the newest call finds expressions in
abbrev pub scene_of : Linked → World → Scene
scene_of p w = record { memory = w.memory; temporaries = w.top.temporaries; objects = objects_at p w.top.unit; activation = w.top.activation }

-- the newest call has this to do
abbrev pub with_left : World → List Item → World
with_left w left = record w { top = record w.top { left = left } }

-- with these items before what is left
abbrev pub before : List Item → World → World
before items w = with_left w (items ++ w.top.left)

-- the stack that all active calls need
abbrev pub needs : List Frame → ℕ
needs [] = 0
needs (f ∷ fs) = f.function.need + needs fs
