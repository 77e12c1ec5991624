-- Turns: one turn takes the first item of what the newest call has still to do. A case for each item (C11, 6.8 and 6.5.2.2, of the
-- subset; that a run is counted in turns is this project's own rule). Where a part has no value the run goes wrong, and the turn
-- does nothing to the outside.
use Rattle.std.specs.Prelude.{ℕ, ◌+◌, ◌%◌, Bool, true, false, cond, eqb, nat_le, List, length, [], ◌∷◌, ◌++◌, map, replicate, set, Option, Some, None, option_map}
use Rattle.cc_base.specs.Runs.{State}
use Rattle.cc_base.specs.declared.run.Act.{Act}
use Rattle.cc_base.specs.declared.run.Act.TheVariants as act
use Rattle.cc_base.specs.declared.run.Outcome.TheVariants as outcome
use Rattle.pass_core.specs.Semantics.{Semantics, run_of, spent_of, halting}
use Rattle.block_mem.specs.Blocks.{Blocks, made, ended}
use Rattle.block_mem.specs.Access.{store}
use Rattle.block_mem.specs.Start.{start}
use Rattle.block_mem.specs.declared.value.BlockName.TheVariants.{Local}
use Rattle.block_mem.specs.declared.value.Value.{Value}
use Rattle.block_mem.specs.declared.value.Value.TheVariants.{Int, Ptr}
use Rattle.block_mem.specs.declared.value.Width.{Width}
use Rattle.block_mem.specs.declared.operator.Op.{Op}
use Rattle.clight_unit.specs.declared.unit.ClightUnit.{ClightUnit as TypedUnit}
use Rattle.clight_unit.specs.declared.function.Function.{Function}
use Rattle.clight_unit.specs.declared.expression.Test.{Test}
use Rattle.clight_unit.specs.declared.statement.Statement.{Statement, out-Statement}
use Rattle.clight_unit.specs.declared.statement.Statement.TheOpen.{Statement-F}
use Rattle.clight_unit.specs.declared.statement.Arm.{Arm, out-Arm}
use Rattle.clight_unit.specs.declared.statement.Simple.{Simple}
use Rattle.clight_unit.specs.declared.statement.Simple.TheVariants as simple
use Rattle.clight_unit.specs.declared.statement.Assignment.{Assignment}
use Rattle.clight_unit.specs.declared.statement.Call.{Call}
use Rattle.clight_unit.specs.declared.statement.Target.{Target}
use Rattle.clight_unit.specs.declared.statement.Target.TheVariants as target
use Rattle.clight_unit.specs.declared.statement.Value.{Value as Converted}
use Rattle.clight_sem.specs.declared.destination.Destination.{Destination}
use Rattle.clight_sem.specs.declared.destination.Destination.TheVariants as to
use Rattle.unit_names.specs.declared.meaning.Meaning.{Meaning}
use Rattle.unit_names.specs.declared.meaning.Meaning.TheVariants as meaning
use Rattle.clight_sem.specs.Values.{Scene, convert, value_of, place_of, holds, converted, all_converted}
use Rattle.clight_sem.specs.Functions.{Linked, linked, all_parts, callee_at, function_at, main_of, is_main_of, has_no_result}
use Rattle.clight_sem.specs.States.{Item, Whole, Alone, Again, TestOfDo, TestOfFor, StepOfFor, whole, alone, behind_loop, from_loop, Frame, World, Turned, On, Asks, Gives, Ends, Run, Going, Over, seen, wrong, on, scene_of, with_left, before, needs}
use Rattle.clight_sem.specs.Prices.{price}

-- Where values go

-- the place of a target
abbrev pub found : Scene → Op → Target → Option Destination
found s conversion (target.Temporary k) = Some (to.Temporary k conversion)
found s conversion (target.Place w p) = option_map (λ v. to.Place w v conversion) (place_of s p)

-- a place that a call may have or not
abbrev pub found_if_any : Scene → Op → Option Target → Option Destination
found_if_any s conversion None = Some to.Nowhere
found_if_any s conversion (Some t) = found s conversion t

-- memory and temporaries with a converted value where it goes
abbrev pub set_temporary : World → ℕ → Option Value → Option World
set_temporary w k None = None
set_temporary w k (Some v) = Some (record w { top = record w.top { temporaries = set w.top.temporaries k (Some v) } })

abbrev pub stored : World → Width → Value → Option Value → Option World
stored w width place None = None
stored w width place (Some v) = option_map (λ m. record w { memory = m }) (store w.memory place width v)

-- the newest call gets a value
abbrev pub given : Destination → Value → World → Option World
given to.Nowhere v w = Some w
given (to.Temporary k conversion) v w = set_temporary w k (convert conversion v)
given (to.Place width place conversion) v w = stored w width place (convert conversion v)

-- Assignments: the place, the value, then the store

abbrev pub given_if : Option Destination → Option Value → World → Option World
given_if None v w = None
given_if (Some d) None w = None
given_if (Some d) (Some v) w = given d v w

abbrev pub assigned : Linked → World → Assignment → Option World
assigned p w a = given_if (found (scene_of p w) a.value.conversion a.target) (value_of (scene_of p w) a.value.expression) w

-- Calls

-- the blocks of a call's locals, and their end
abbrev pub with_locals : Blocks → ℕ → ℕ → List ℕ → Blocks
with_locals m activation index [] = m
with_locals m activation index (size ∷ sizes) = with_locals (made m (Local activation index) size true) activation (index + 1) sizes

abbrev pub without_locals : Blocks → ℕ → ℕ → List ℕ → Blocks
without_locals m activation index [] = m
without_locals m activation index (size ∷ sizes) = without_locals (ended m (Local activation index)) activation (index + 1) sizes

-- the parameters, and behind them the `register` locals, which are unset
abbrev pub first_temporaries : Function → List Value → List (Option Value)
first_temporaries f arguments = map Some arguments ++ replicate f.registers None

-- a call of a function, which has its body to do
abbrev pub new_frame : ℕ → Function → ℕ → List Value → Destination → Frame
new_frame unit f activation arguments d = record { unit = unit; function = f; activation = activation; temporaries = first_temporaries f arguments; left = whole f.body; result = d }

-- a run is too deep where the needs of all active calls are more than the room
abbrev pub if_room : Linked → World → Turned
if_room p w = cond (nat_le (needs (w.top ∷ w.below)) p.room) (On w) (Ends outcome.Deep)

-- a call has as many arguments as its function has parameters, or goes wrong; in no unit that `check` gives is there another call
abbrev pub entered : Linked → Blocks → ℕ → ℕ → Option Function → List Value → Destination → List Frame → Turned
entered p m calls unit None arguments d below = wrong
entered p m calls unit (Some f) arguments d below = cond (eqb (length arguments) (length f.signature.parameters)) (if_room p (record { memory = with_locals m calls 0 f.locals; calls = calls + 1; top = new_frame unit f calls arguments d; below = below })) wrong

-- `getbyte` asks for a byte. Where its result cannot go where it is to go the run goes wrong, and no byte is asked for. What takes
-- -1 takes every byte
abbrev pub minus_one : Value
minus_one = Int 4294967295

abbrev pub asked_if : Destination → World → Option World → Turned
asked_if d w None = wrong
asked_if d w (Some v) = Asks d w

abbrev pub asked : Destination → World → Turned
asked d w = asked_if d w (given d minus_one w)

-- `putbyte` emits its argument modulo 256. It has no result
abbrev pub emitted_byte : World → Value → Turned
emitted_byte w (Int n) = Gives (n % 256) w
emitted_byte w (Ptr b o) = wrong

abbrev pub gave : World → Destination → List Value → Turned
gave w to.Nowhere [] = wrong
gave w to.Nowhere (v ∷ []) = emitted_byte w v
gave w to.Nowhere (v ∷ u ∷ vs) = wrong
gave w (to.Temporary k c) vs = wrong
gave w (to.Place width place c) vs = wrong

-- a call of what the name means
abbrev pub called_with : Linked → World → Meaning → Destination → List Value → Turned
called_with p w (meaning.Function unit index) d arguments = entered p w.memory w.calls unit (function_at p.units unit index) arguments d (w.top ∷ w.below)
called_with p w meaning.GetByte d arguments = asked d w
called_with p w meaning.PutByte d arguments = gave w d arguments
called_with p w meaning.Nothing d arguments = wrong

-- the place of the result, then the arguments from left to right, then the call
abbrev pub called_if : Linked → World → Meaning → Option Destination → Option (List Value) → Turned
called_if p w m None arguments = wrong
called_if p w m (Some d) None = wrong
called_if p w m (Some d) (Some arguments) = called_with p w m d arguments

abbrev pub called : Linked → World → Call → Turned
called p w c = called_if p w (callee_at p w.top.unit c.callee) (found_if_any (scene_of p w) c.conversion c.target) (all_converted (scene_of p w) c.arguments)

abbrev pub done : Linked → World → Simple → Turned
done p w (simple.Assign a) = on (assigned p w a)
done p w (simple.Call c) = called p w c

-- Returns

-- the run ends with the value of `main` modulo 256
abbrev pub ended_with : Value → Turned
ended_with (Int n) = Ends (outcome.Ended (n % 256))
ended_with (Ptr b o) = wrong

-- the call below the newest one is now the newest, and the life of the newest one's locals is over
abbrev pub back_in : World → Frame → List Frame → World
back_in w caller below = record { memory = without_locals w.memory w.top.activation 0 w.top.function.locals; calls = w.calls; top = caller; below = below }

-- a function without result returns none, which can go nowhere else
abbrev pub without_value : Destination → World → Turned
without_value to.Nowhere w = On w
without_value (to.Temporary k c) w = wrong
without_value (to.Place width place c) w = wrong

abbrev pub left_with : World → Option Value → List Frame → Turned
left_with w None [] = wrong
left_with w (Some v) [] = ended_with v
left_with w None (caller ∷ below) = without_value w.top.result (back_in w caller below)
left_with w (Some v) (caller ∷ below) = on (given w.top.result v (back_in w caller below))

abbrev pub left_if : World → Option Value → Turned
left_if w None = wrong
left_if w (Some v) = left_with w (Some v) w.below

abbrev pub returned : Linked → World → Option Converted → Turned
returned p w None = left_with w None w.below
returned p w (Some v) = left_if w (converted (scene_of p w) v)

-- with nothing left a function without result returns, `main` returns 0, and any other function goes wrong
abbrev pub fallen : Linked → World → Turned
fallen p w = cond (has_no_result w.top.function.signature) (left_with w None w.below) (cond (is_main_of p w.top.unit w.top.function) (left_with w (Some (Int 0)) w.below) wrong)

-- Choices and loops

-- the block of the first arm whose condition holds, else the last one, if there is one
abbrev pub chosen_by : Option Bool → List Statement → Option (List Statement) → Option (List Statement)
chosen_by None body others = None
chosen_by (Some true) body others = Some body
chosen_by (Some false) body others = others

abbrev pub last_block : Option (List Statement) → List Statement
last_block None = []
last_block (Some body) = body

abbrev pub chosen : Scene → List Arm → Option (List Statement) → Option (List Statement)
chosen s [] last = Some (last_block last)
chosen s (a ∷ arms) last = chosen_by (holds s (out-Arm a).test) (out-Arm a).body (chosen s arms last)

-- a block's statements in the place of the `if`
abbrev pub chose : World → Option (List Statement) → Turned
chose w None = wrong
chose w (Some body) = On (before (whole body) w)

-- where a condition holds, the body's statements and then an item; else nothing
abbrev pub tested : World → Option Bool → List Statement → Item → Turned
tested w None body item = wrong
tested w (Some true) body item = On (before (whole body ++ item ∷ []) w)
tested w (Some false) body item = On w

-- an absent condition is 1
abbrev pub holds_if_any : Scene → Option Test → Option Bool
holds_if_any s None = Some true
holds_if_any s (Some t) = holds s t

-- The table

abbrev pub statement_turn : Linked → World → Statement-F Statement Arm → Turned
statement_turn p w Statement-F.Empty = On w
statement_turn p w (Statement-F.Block body) = On (before (whole body) w)
statement_turn p w (Statement-F.Initialise a) = on (assigned p w a)
statement_turn p w (Statement-F.Simple x) = done p w x
statement_turn p w (Statement-F.If arms last) = chose w (chosen (scene_of p w) arms last)
statement_turn p w (Statement-F.While test body) = tested w (holds (scene_of p w) test) body (Again test body)
statement_turn p w (Statement-F.Do body test) = On (before (whole body ++ TestOfDo body test ∷ []) w)
statement_turn p w (Statement-F.For first test step body) = On (before (alone first ++ TestOfFor test step body ∷ []) w)
statement_turn p w Statement-F.Break = On (with_left w (behind_loop w.top.left))
statement_turn p w Statement-F.Continue = On (with_left w (from_loop w.top.left))
statement_turn p w (Statement-F.Return v) = returned p w v

abbrev pub item_turn : Linked → World → Item → Turned
item_turn p w (Whole s) = statement_turn p w (out-Statement s)
item_turn p w (Alone x) = done p w x
item_turn p w (Again test body) = tested w (holds (scene_of p w) test) body (Again test body)
item_turn p w (TestOfDo body test) = tested w (holds (scene_of p w) test) body (TestOfDo body test)
item_turn p w (TestOfFor test step body) = tested w (holds_if_any (scene_of p w) test) body (StepOfFor test step body)
item_turn p w (StepOfFor test step body) = On (before (alone step ++ TestOfFor test step body ∷ []) w)

-- the first item is taken, and what is behind it is left
abbrev pub turn_of : Linked → World → List Item → Turned
turn_of p w [] = fallen p w
turn_of p w (item ∷ left) = item_turn p (with_left w left) item

-- what the next turn of a run comes to
abbrev pub turn : Linked → World → Turned
turn p w = turn_of p w w.top.left

-- Runs

-- the result of `getbyte` has come
abbrev pub came : Option World → List ℕ → List Act → Run
came None input acts = Over outcome.Wrong acts
came (Some w) input acts = Going w input acts

-- `getbyte` gives the next byte of the input, or -1 where none is left
abbrev pub next_byte : Destination → World → List ℕ → List Act → Run
next_byte d w [] acts = came (given d minus_one w) [] (acts ++ act.AtEnd ∷ [])
next_byte d w (b ∷ bs) acts = came (given d (Int b) w) bs (acts ++ act.Took ∷ [])

abbrev pub after_turn : Turned → List ℕ → List Act → Run
after_turn (On w) input acts = Going w input acts
after_turn (Asks d w) input acts = next_byte d w input acts
after_turn (Gives b w) input acts = Going w input (acts ++ act.Gave b ∷ [])
after_turn (Ends how) input acts = Over how acts

-- one turn of a run. What is over stays so
abbrev pub advance : Linked → Run → Run
advance p (Going w input acts) = after_turn (turn p w) input acts
advance p (Over how acts) = Over how acts

-- after 0 turns `main` is active, and nothing of it is done
abbrev pub entered_main : Linked → Option Meaning → Turned
entered_main p None = wrong
entered_main p (Some (meaning.Function unit index)) = entered p (start (all_parts p.units)) 0 unit (function_at p.units unit index) [] to.Nowhere []
entered_main p (Some meaning.GetByte) = wrong
entered_main p (Some meaning.PutByte) = wrong
entered_main p (Some meaning.Nothing) = wrong

abbrev pub begun : Linked → List ℕ → Run
begun p input = after_turn (entered_main p (main_of p)) input []

-- a run takes a turn as long as it goes on, at the price of its item
abbrev pub source : Linked → Semantics Run
source p = halting (advance p) seen price

-- how linked units stand, and what they did to the outside, after so many turns: with this room for the needs of all active calls
-- together, in bytes, and on this input
abbrev pub source_after : List TypedUnit → ℕ → List ℕ → ℕ → State
source_after units room input n = run_of (source (linked units room)) (begun (linked units room) input) n

-- what the first turns cost, in instructions of an image: 64 for its start, and the price of each turn
abbrev pub cost : List TypedUnit → ℕ → List ℕ → ℕ → ℕ
cost units room input n = 64 + spent_of (source (linked units room)) (begun (linked units room) input) n
