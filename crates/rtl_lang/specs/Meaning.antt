-- The meaning of Rtl: how a run stands, and what each node does. Memory, and what operators and loads give, are the source's. Where a
-- part has no value the run goes wrong, and the node does nothing to the outside.
use Rattle.std.specs.Prelude.{ℕ, ◌+◌, ◌%◌, Bool, true, false, cond, eqb, List, [], ◌∷◌, length, map, slice_get, get_or, Option, Some, None, option_map}
use Rattle.cc_base.specs.declared.run.Outcome.TheVariants as outcome
use Rattle.pass_core.specs.Turns.{World, Turned, On, Asks, Gives, Ends, Run, after_turn, wrong, if_room}
use Rattle.block_mem.specs.Blocks.{Blocks}
use Rattle.block_mem.specs.Access.{store}
use Rattle.block_mem.specs.declared.value.BlockName.{BlockName}
use Rattle.block_mem.specs.declared.value.BlockName.TheVariants.{Local}
use Rattle.block_mem.specs.declared.value.Value.{Value}
use Rattle.block_mem.specs.declared.value.Value.TheVariants.{Int, Ptr}
use Rattle.block_mem.specs.declared.value.Width.{Width}
use Rattle.unit_names.specs.declared.meaning.Meaning.{Meaning}
use Rattle.unit_names.specs.declared.meaning.Meaning.TheVariants as meaning
use Rattle.unit_passes.specs.Programs.{Program, function_at, objects_at, callee_at}
use Rattle.clight_sem.specs.Values.{start_of, of_two, held, with_value, truth_of}
use Rattle.clight_sem.specs.Turns.{with_locals, without_locals}
use Rattle.rtl_lang.specs.declared.syntax.RtlNode.{RtlNode}
use Rattle.rtl_lang.specs.declared.syntax.RtlNode.TheVariants as node
use Rattle.rtl_lang.specs.declared.syntax.RtlParts.{RtlParts}

-- How a run stands

-- the temporaries of an activation, as far as they are set
abbrev pub Temporaries : Type 0
Temporaries = ℕ → Option Value

abbrev pub put : Temporaries → ℕ → Value → Temporaries
put t k v = λ j. cond (eqb j k) (Some v) (t j)

-- an active call: its unit, its function, its number, its temporaries, the node that comes next, and where its result goes
pub record RtlFrame : Type 0 where
  pub unit : ℕ
  pub function : RtlParts
  pub activation : ℕ
  pub temporaries : Temporaries
  pub node : ℕ
  pub result : Option ℕ

abbrev pub RtlWorld : Type 0
RtlWorld = World Blocks RtlFrame

abbrev pub RtlProgram : Type 0
RtlProgram = Program RtlParts

-- the newest call is at this node, with these temporaries
abbrev pub at : RtlWorld → ℕ → Temporaries → RtlWorld
at w n t = record w { top = record w.top { node = n; temporaries = t } }

abbrev pub goes : RtlWorld → ℕ → RtlWorld
goes w next = at w next w.top.temporaries

-- Temporaries and memory

abbrev pub with_temporary : RtlWorld → ℕ → Value → RtlWorld
with_temporary w k v = at w w.top.node (put w.top.temporaries k v)

-- a value comes into a temporary, and a node follows
abbrev pub puts : RtlWorld → ℕ → Option Value → ℕ → Turned RtlWorld
puts w k None next = wrong
puts w k (Some v) next = On (at w next (put w.top.temporaries k v))

abbrev pub with_memory : RtlWorld → Option Blocks → Turned RtlWorld
with_memory w None = wrong
with_memory w (Some m) = On (record w { memory = m })

abbrev pub store_if : RtlWorld → Width → Option Value → Option Value → Turned RtlWorld
store_if w width None v = wrong
store_if w width (Some p) None = wrong
store_if w width (Some p) (Some v) = with_memory w (store w.memory p width v)

-- so many bytes behind the start of a block
abbrev pub behind : ℕ → BlockName → Value
behind offset b = Ptr b offset

-- the values of temporaries, from left to right
abbrev pub all_values : Temporaries → List ℕ → Option (List Value)
all_values t [] = Some []
all_values t (k ∷ ks) = with_value (t k) (all_values t ks)

abbrev pub branched : RtlWorld → Option Bool → ℕ → ℕ → Turned RtlWorld
branched w None this that = wrong
branched w (Some true) this that = On (goes w this)
branched w (Some false) this that = On (goes w that)

-- Calls

-- arguments are the first temporaries
abbrev pub first_temporaries : List Value → Temporaries
first_temporaries arguments = λ k. get_or (map Some arguments) k None

abbrev pub new_frame : ℕ → RtlParts → ℕ → List Value → Option ℕ → RtlFrame
new_frame unit f activation arguments to = record { unit = unit; function = f; activation = activation; temporaries = first_temporaries arguments; node = f.entry; result = to }

abbrev pub frame_need : RtlFrame → ℕ
frame_need f = f.function.need

-- at the start of a call there is a block for each local of the function
abbrev pub entry_of : Blocks → ℕ → ℕ → RtlParts → List Value → Option ℕ → List RtlFrame → RtlWorld
entry_of m calls unit f arguments to below = record { memory = with_locals m calls 0 f.locals; calls = calls + 1; top = new_frame unit f calls arguments to; below = below }

-- a call with another number of arguments than the function has parameters goes wrong
abbrev pub entered : RtlProgram → Blocks → ℕ → ℕ → Option RtlParts → List Value → Option ℕ → List RtlFrame → Turned RtlWorld
entered p m calls unit None arguments to below = wrong
entered p m calls unit (Some f) arguments to below = cond (eqb (length arguments) f.parameters) (if_room frame_need p.room (entry_of m calls unit f arguments to below)) wrong

-- `putbyte` emits its argument modulo 256. It has no result
abbrev pub emitted_byte : RtlWorld → Value → Turned RtlWorld
emitted_byte w (Int n) = Gives (n % 256) w
emitted_byte w (Ptr b o) = wrong

abbrev pub gave : RtlWorld → Option ℕ → List Value → Turned RtlWorld
gave w None [] = wrong
gave w None (v ∷ []) = emitted_byte w v
gave w None (v ∷ u ∷ vs) = wrong
gave w (Some k) vs = wrong

-- a result goes to a temporary, if anywhere
abbrev pub with_result : RtlWorld → Option ℕ → Value → RtlWorld
with_result w None v = w
with_result w (Some k) v = with_temporary w k v

-- a call of what the name means
abbrev pub called_with : RtlProgram → RtlWorld → Meaning → Option ℕ → List Value → Turned RtlWorld
called_with p w (meaning.Function unit index) to arguments = entered p w.memory w.calls unit (function_at p unit index) arguments to (w.top ∷ w.below)
called_with p w meaning.GetByte to arguments = Asks (λ word. with_result w to (Int word))
called_with p w meaning.PutByte to arguments = gave w to arguments
called_with p w meaning.Nothing to arguments = wrong

abbrev pub called_if : RtlProgram → RtlWorld → Meaning → Option ℕ → Option (List Value) → Turned RtlWorld
called_if p w m to None = wrong
called_if p w m to (Some arguments) = called_with p w m to arguments

-- Returns

-- the run ends with the value of `main` modulo 256
abbrev pub ended_with : Value → Turned RtlWorld
ended_with (Int n) = Ends (outcome.Ended (n % 256))
ended_with (Ptr b o) = wrong

-- the call below the newest one is now the newest, and the life of the newest one's locals is over
abbrev pub back_in : RtlWorld → RtlFrame → List RtlFrame → RtlWorld
back_in w caller below = record { memory = without_locals w.memory w.top.activation 0 w.top.function.locals; calls = w.calls; top = caller; below = below }

-- what is wanted has to come
abbrev pub given : Option ℕ → Option Value → RtlWorld → Turned RtlWorld
given None v w = On w
given (Some k) None w = wrong
given (Some k) (Some v) w = On (with_temporary w k v)

abbrev pub left_with : RtlWorld → Option Value → List RtlFrame → Turned RtlWorld
left_with w None [] = wrong
left_with w (Some v) [] = ended_with v
left_with w v (caller ∷ below) = given w.top.result v (back_in w caller below)

abbrev pub left_if : RtlWorld → Option Value → Turned RtlWorld
left_if w None = wrong
left_if w (Some v) = left_with w (Some v) w.below

-- The table

-- a row for each node. Where a number has no node the run goes wrong
abbrev pub node_turn : RtlProgram → RtlWorld → Option RtlNode → Turned RtlWorld
node_turn p w None = wrong
node_turn p w (Some (node.Nop next)) = On (goes w next)
node_turn p w (Some (node.Const n to next)) = puts w to (Some (Int n)) next
node_turn p w (Some (node.Address symbol offset to next)) = puts w to (option_map (behind offset) (get_or (objects_at p w.top.unit) symbol None)) next
node_turn p w (Some (node.Local index to next)) = puts w to (Some (start_of (Local w.top.activation index))) next
node_turn p w (Some (node.Apply op left right to next)) = puts w to (of_two w.memory op (w.top.temporaries left) (w.top.temporaries right)) next
node_turn p w (Some (node.Load width place to next)) = puts w to (held w.memory width (w.top.temporaries place)) next
node_turn p w (Some (node.Store width place value next)) = store_if (goes w next) width (w.top.temporaries place) (w.top.temporaries value)
node_turn p w (Some (node.Call callee arguments to next)) = called_if p (goes w next) (callee_at p w.top.unit callee) to (all_values w.top.temporaries arguments)
node_turn p w (Some (node.Branch k this that)) = branched w (truth_of (w.top.temporaries k)) this that
node_turn p w (Some (node.Return None)) = left_with w None w.below
node_turn p w (Some (node.Return (Some k))) = left_if w (w.top.temporaries k)

-- the node that comes next
abbrev pub node_of : RtlWorld → Option RtlNode
node_of w = slice_get w.top.function.graph w.top.node

abbrev pub rtl_turn : RtlProgram → RtlWorld → Turned RtlWorld
rtl_turn p w = node_turn p w (node_of w)

-- the turn that enters what `main` means, where memory is as it is at the start
abbrev pub main_turn : RtlProgram → Blocks → Option Meaning → Turned RtlWorld
main_turn p memory None = wrong
main_turn p memory (Some (meaning.Function unit index)) = entered p memory 0 unit (function_at p unit index) [] None []
main_turn p memory (Some meaning.GetByte) = wrong
main_turn p memory (Some meaning.PutByte) = wrong
main_turn p memory (Some meaning.Nothing) = wrong

abbrev pub begun : RtlProgram → Blocks → Option Meaning → List ℕ → Run RtlWorld
begun p memory main input = after_turn (main_turn p memory main) input []
