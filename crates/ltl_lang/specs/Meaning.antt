-- The meaning of Ltl, which is Rtl with a location in place of each temporary: how a run stands, and what each node does. Memory, and what
-- operators and loads give, are the source's. Where a part has no value the run goes wrong, and the node does nothing to the outside.
use Rattle.std.specs.Prelude.{ℕ, ◌+◌, ◌%◌, Bool, true, false, cond, eqb, List, [], ◌∷◌, slice_get, get_or, take, length, Option, Some, None, option_map}
use Rattle.cc_base.specs.declared.run.Outcome.TheVariants as outcome
use Rattle.pass_core.specs.Turns.{World, Turned, On, Asks, Gives, Ends, Run, after_turn, wrong, if_room}
use Rattle.block_mem.specs.Blocks.{Blocks}
use Rattle.block_mem.specs.Access.{store}
use Rattle.block_mem.specs.declared.value.BlockName.{BlockName}
use Rattle.block_mem.specs.declared.value.BlockName.TheVariants.{Local}
use Rattle.block_mem.specs.declared.value.Value.{Value}
use Rattle.block_mem.specs.declared.value.Value.TheVariants.{Int, Ptr}
use Rattle.block_mem.specs.declared.value.Width.{Width}
use Rattle.unit_names.specs.declared.meaning.Meaning.{Meaning}
use Rattle.unit_names.specs.declared.meaning.Meaning.TheVariants as meaning
use Rattle.unit_passes.specs.Programs.{Program, function_at, objects_at, callee_at}
use Rattle.clight_sem.specs.Values.{start_of, of_two, held, with_value, truth_of}
use Rattle.clight_sem.specs.Turns.{with_locals, without_locals}
use Rattle.ltl_lang.specs.declared.location.Loc.{Loc}
use Rattle.ltl_lang.specs.declared.location.Loc.TheVariants.{Ebx, Esi, Edi, Ebp, Slot}
use Rattle.ltl_lang.specs.declared.syntax.LtlNode.{LtlNode}
use Rattle.ltl_lang.specs.declared.syntax.LtlNode.TheVariants as node
use Rattle.ltl_lang.specs.declared.syntax.LtlParts.{LtlParts}

-- How a run stands

-- what the locations of an activation hold, as far as they are set
abbrev pub Contents : Type 0
Contents = Loc → Option Value

-- locations by numbers: the registers, and then the slots
abbrev pub place : Loc → ℕ
place Ebx = 0
place Esi = 1
place Edi = 2
place Ebp = 3
place (Slot k) = 4 + k

abbrev pub put : Contents → Loc → Value → Contents
put t l v = λ k. cond (eqb (place k) (place l)) (Some v) (t k)

-- an active call: its unit, its function, its number, what its locations hold, the node that comes next, and where its result goes
pub record LtlFrame : Type 0 where
  pub unit : ℕ
  pub function : LtlParts
  pub activation : ℕ
  pub contents : Contents
  pub node : ℕ
  pub result : Option Loc

abbrev pub LtlWorld : Type 0
LtlWorld = World Blocks LtlFrame

abbrev pub LtlProgram : Type 0
LtlProgram = Program LtlParts

-- the newest call is at this node, with these contents
abbrev pub at : LtlWorld → ℕ → Contents → LtlWorld
at w n t = record w { top = record w.top { node = n; contents = t } }

abbrev pub goes : LtlWorld → ℕ → LtlWorld
goes w next = at w next w.top.contents

-- Locations and memory

abbrev pub with_location : LtlWorld → Loc → Value → LtlWorld
with_location w k v = at w w.top.node (put w.top.contents k v)

-- a value comes into a location, and a node follows
abbrev pub puts : LtlWorld → Loc → Option Value → ℕ → Turned LtlWorld
puts w k None next = wrong
puts w k (Some v) next = On (at w next (put w.top.contents k v))

abbrev pub with_memory : LtlWorld → Option Blocks → Turned LtlWorld
with_memory w None = wrong
with_memory w (Some m) = On (record w { memory = m })

abbrev pub store_if : LtlWorld → Width → Option Value → Option Value → Turned LtlWorld
store_if w width None v = wrong
store_if w width (Some p) None = wrong
store_if w width (Some p) (Some v) = with_memory w (store w.memory p width v)

-- so many bytes behind the start of a block
abbrev pub behind : ℕ → BlockName → Value
behind offset b = Ptr b offset

-- the values of locations, from left to right
abbrev pub all_values : Contents → List Loc → Option (List Value)
all_values t [] = Some []
all_values t (k ∷ ks) = with_value (t k) (all_values t ks)

abbrev pub branched : LtlWorld → Option Bool → ℕ → ℕ → Turned LtlWorld
branched w None this that = wrong
branched w (Some true) this that = On (goes w this)
branched w (Some false) this that = On (goes w that)

-- Calls

-- arguments come in the homes of the parameters
abbrev pub first_contents : List Loc → List Value → Contents
first_contents [] arguments = λ l. None
first_contents (h ∷ hs) [] = λ l. None
first_contents (h ∷ hs) (v ∷ vs) = put (first_contents hs vs) h v

abbrev pub parameter_homes : LtlParts → List Loc
parameter_homes f = take f.parameters f.homes

abbrev pub new_frame : ℕ → LtlParts → ℕ → List Value → Option Loc → LtlFrame
new_frame unit f activation arguments to = record { unit = unit; function = f; activation = activation; contents = first_contents (parameter_homes f) arguments; node = f.entry; result = to }

abbrev pub frame_need : LtlFrame → ℕ
frame_need f = f.function.need

-- at the start of a call there is a block for each local of the function
abbrev pub entry_of : Blocks → ℕ → ℕ → LtlParts → List Value → Option Loc → List LtlFrame → LtlWorld
entry_of m calls unit f arguments to below = record { memory = with_locals m calls 0 f.locals; calls = calls + 1; top = new_frame unit f calls arguments to; below = below }

-- a call with another number of arguments than the function has parameters goes wrong
abbrev pub entered : LtlProgram → Blocks → ℕ → ℕ → Option LtlParts → List Value → Option Loc → List LtlFrame → Turned LtlWorld
entered p m calls unit None arguments to below = wrong
entered p m calls unit (Some f) arguments to below = cond (eqb (length arguments) f.parameters) (if_room frame_need p.room (entry_of m calls unit f arguments to below)) wrong

-- `putbyte` emits its argument modulo 256. It has no result
abbrev pub emitted_byte : LtlWorld → Value → Turned LtlWorld
emitted_byte w (Int n) = Gives (n % 256) w
emitted_byte w (Ptr b o) = wrong

abbrev pub gave : LtlWorld → Option Loc → List Value → Turned LtlWorld
gave w None [] = wrong
gave w None (v ∷ []) = emitted_byte w v
gave w None (v ∷ u ∷ vs) = wrong
gave w (Some k) vs = wrong

-- a result goes to a location, if anywhere
abbrev pub with_result : LtlWorld → Option Loc → Value → LtlWorld
with_result w None v = w
with_result w (Some k) v = with_location w k v

-- a call of what the name means
abbrev pub called_with : LtlProgram → LtlWorld → Meaning → Option Loc → List Value → Turned LtlWorld
called_with p w (meaning.Function unit index) to arguments = entered p w.memory w.calls unit (function_at p unit index) arguments to (w.top ∷ w.below)
called_with p w meaning.GetByte to arguments = Asks (λ word. with_result w to (Int word))
called_with p w meaning.PutByte to arguments = gave w to arguments
called_with p w meaning.Nothing to arguments = wrong

abbrev pub called_if : LtlProgram → LtlWorld → Meaning → Option Loc → Option (List Value) → Turned LtlWorld
called_if p w m to None = wrong
called_if p w m to (Some arguments) = called_with p w m to arguments

-- Returns

-- the run ends with the value of `main` modulo 256
abbrev pub ended_with : Value → Turned LtlWorld
ended_with (Int n) = Ends (outcome.Ended (n % 256))
ended_with (Ptr b o) = wrong

-- the call below the newest one is now the newest, and the life of the newest one's locals is over
abbrev pub back_in : LtlWorld → LtlFrame → List LtlFrame → LtlWorld
back_in w caller below = record { memory = without_locals w.memory w.top.activation 0 w.top.function.locals; calls = w.calls; top = caller; below = below }

-- what is wanted has to come
abbrev pub given : Option Loc → Option Value → LtlWorld → Turned LtlWorld
given None v w = On w
given (Some k) None w = wrong
given (Some k) (Some v) w = On (with_location w k v)

abbrev pub left_with : LtlWorld → Option Value → List LtlFrame → Turned LtlWorld
left_with w None [] = wrong
left_with w (Some v) [] = ended_with v
left_with w v (caller ∷ below) = given w.top.result v (back_in w caller below)

abbrev pub left_if : LtlWorld → Option Value → Turned LtlWorld
left_if w None = wrong
left_if w (Some v) = left_with w (Some v) w.below

-- The table

-- a row for each node. Where a number has no node the run goes wrong
abbrev pub node_turn : LtlProgram → LtlWorld → Option LtlNode → Turned LtlWorld
node_turn p w None = wrong
node_turn p w (Some (node.Nop next)) = On (goes w next)
node_turn p w (Some (node.Const n to next)) = puts w to (Some (Int n)) next
node_turn p w (Some (node.Address symbol offset to next)) = puts w to (option_map (behind offset) (get_or (objects_at p w.top.unit) symbol None)) next
node_turn p w (Some (node.Local index to next)) = puts w to (Some (start_of (Local w.top.activation index))) next
node_turn p w (Some (node.Apply op left right to next)) = puts w to (of_two w.memory op (w.top.contents left) (w.top.contents right)) next
node_turn p w (Some (node.Load width place to next)) = puts w to (held w.memory width (w.top.contents place)) next
node_turn p w (Some (node.Store width place value next)) = store_if (goes w next) width (w.top.contents place) (w.top.contents value)
node_turn p w (Some (node.Call callee arguments to next)) = called_if p (goes w next) (callee_at p w.top.unit callee) to (all_values w.top.contents arguments)
node_turn p w (Some (node.Branch k this that)) = branched w (truth_of (w.top.contents k)) this that
node_turn p w (Some (node.Return None)) = left_with w None w.below
node_turn p w (Some (node.Return (Some k))) = left_if w (w.top.contents k)

-- the node that comes next
abbrev pub node_of : LtlWorld → Option LtlNode
node_of w = slice_get w.top.function.graph w.top.node

abbrev pub ltl_turn : LtlProgram → LtlWorld → Turned LtlWorld
ltl_turn p w = node_turn p w (node_of w)

-- the turn that enters what `main` means, where memory is as it is at the start
abbrev pub main_turn : LtlProgram → Blocks → Option Meaning → Turned LtlWorld
main_turn p memory None = wrong
main_turn p memory (Some (meaning.Function unit index)) = entered p memory 0 unit (function_at p unit index) [] None []
main_turn p memory (Some meaning.GetByte) = wrong
main_turn p memory (Some meaning.PutByte) = wrong
main_turn p memory (Some meaning.Nothing) = wrong

abbrev pub begun : LtlProgram → Blocks → Option Meaning → List ℕ → Run LtlWorld
begun p memory main input = after_turn (main_turn p memory main) input []
