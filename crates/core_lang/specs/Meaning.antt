-- The meaning of Core: the value of an expression, how a run stands, and what each step does. Memory, and what operators and loads
-- give, are the source's. Where a part has no value the run goes wrong, and the step does nothing to the outside.
use Rattle.std.specs.Prelude.{ℕ, zero, suc, ◌+◌, ◌%◌, Bool, true, false, cond, eqb, List, [], ◌∷◌, ◌++◌, length, map, slice_get, get_or, Option, Some, None, option_map, option_and_then}
use Rattle.cc_base.specs.declared.run.Outcome.TheVariants as outcome
use Rattle.pass_core.specs.Turns as shared
use Rattle.pass_core.specs.Turns.{On, Asks, Gives, Ends, Going, Over, wrong, after_turn, if_room}
use Rattle.block_mem.specs.Blocks.{Blocks}
use Rattle.block_mem.specs.Access.{store}
use Rattle.block_mem.specs.declared.value.BlockName.{BlockName}
use Rattle.block_mem.specs.declared.value.BlockName.TheVariants.{Local}
use Rattle.block_mem.specs.declared.value.Value.{Value}
use Rattle.block_mem.specs.declared.value.Value.TheVariants.{Int, Ptr}
use Rattle.block_mem.specs.declared.value.Width.{Width}
use Rattle.unit_names.specs.declared.meaning.Meaning.{Meaning}
use Rattle.unit_names.specs.declared.meaning.Meaning.TheVariants as meaning
use Rattle.clight_sem.specs.Values.{start_of, of_one, of_two, held, with_value, truth_of}
use Rattle.clight_sem.specs.Turns.{with_locals, without_locals}
use Rattle.core_lang.specs.declared.syntax.Expression.{Expression}
use Rattle.core_lang.specs.declared.syntax.Expression.TheOpen.{Expression-F}
use Rattle.core_lang.specs.declared.syntax.Expression.TheFolds.{fold-Expression}
use Rattle.core_lang.specs.declared.syntax.Statement.{Statement, out-Statement}
use Rattle.core_lang.specs.declared.syntax.Statement.TheOpen.{Statement-F}
use Rattle.core_lang.specs.declared.syntax.Function.{Function}
use Rattle.core_lang.specs.declared.syntax.Ending.{Ending}
use Rattle.core_lang.specs.declared.syntax.Ending.TheVariants as ending

-- Expressions

-- the temporaries of an activation, as far as they are set. There is no end of them, so that no number is out of range
abbrev pub Temporaries : Type 0
Temporaries = ℕ → Option Value

abbrev pub put : Temporaries → ℕ → Value → Temporaries
put t k v = λ j. cond (eqb j k) (Some v) (t j)

-- what an expression is found in
pub record Scene : Type 0 where
  pub memory : Blocks
  pub temporaries : Temporaries
  pub objects : List (Option BlockName)
  pub activation : ℕ

-- so many bytes behind the start of a block
abbrev pub behind : ℕ → BlockName → Value
behind offset b = Ptr b offset

abbrev pub expression_step : Scene → Expression-F (Option Value) → Option Value
expression_step s (Expression-F.Constant n) = Some (Int n)
expression_step s (Expression-F.Temporary k) = s.temporaries k
expression_step s (Expression-F.Address symbol offset) = option_map (behind offset) (get_or s.objects symbol None)
expression_step s (Expression-F.Local index) = Some (start_of (Local s.activation index))
expression_step s (Expression-F.Load w x) = held s.memory w x
expression_step s (Expression-F.Unary op x) = of_one s.memory op x
expression_step s (Expression-F.Binary op x y) = of_two s.memory op x y

abbrev pub value_of : Scene → Expression → Option Value
value_of s = fold-Expression (Option Value) (expression_step s)

-- values from left to right
abbrev pub all_values : Scene → List Expression → Option (List Value)
all_values s [] = Some []
all_values s (e ∷ es) = with_value (value_of s e) (all_values s es)

-- How a run stands

-- the functions of each unit, what each symbol of each unit means as an object and as a callee, and the room for the needs of all
-- active calls together, in bytes
pub record Program : Type 0 where
  pub functions : List (List Function)
  pub objects : List (List (Option BlockName))
  pub callees : List (List Meaning)
  pub room : ℕ

abbrev pub function_at : Program → ℕ → ℕ → Option Function
function_at p unit index = option_and_then (λ (fs : List Function). slice_get fs index) (slice_get p.functions unit)

abbrev pub objects_at : Program → ℕ → List (Option BlockName)
objects_at p unit = get_or p.objects unit []

abbrev pub callee_at : Program → ℕ → ℕ → Meaning
callee_at p unit symbol = get_or (get_or p.callees unit []) symbol meaning.Nothing

-- what an activation has still to do: a statement, or nothing at the end of a block
pub data Item : Type 0 where
  Do : Statement → Item
  End : Item

abbrev pub to_do : List Statement → List Item
to_do ss = map Do ss

-- what is left behind so many blocks and one more
abbrev pub leave : ℕ → List Item → List Item
leave n [] = []
leave n (Do s ∷ left) = leave n left
leave zero (End ∷ left) = left
leave (suc n) (End ∷ left) = leave n left

-- an active call: its unit, its function, its number, its temporaries, what it has still to do, and where its result goes
pub record Frame : Type 0 where
  pub unit : ℕ
  pub function : Function
  pub activation : ℕ
  pub temporaries : Temporaries
  pub left : List Item
  pub result : Option ℕ

-- the shape of its runs is that of all languages between the source and the machine
abbrev pub World : Type 0
World = shared.World Blocks Frame

abbrev pub Turned : Type 0
Turned = shared.Turned World

abbrev pub Run : Type 0
Run = shared.Run World

-- what the newest call finds expressions in
abbrev pub scene_of : Program → World → Scene
scene_of p w = record { memory = w.memory; temporaries = w.top.temporaries; objects = objects_at p w.top.unit; activation = w.top.activation }

-- the newest call has these temporaries and this to do
abbrev pub at : World → Temporaries → List Item → World
at w t left = record w { top = record w.top { temporaries = t; left = left } }

abbrev pub with_left : World → List Item → World
with_left w left = at w w.top.temporaries left

abbrev pub before : List Item → World → World
before items w = with_left w (items ++ w.top.left)

abbrev pub need_of : Frame → ℕ
need_of f = f.function.need

-- Temporaries and memory

abbrev pub with_temporary : World → ℕ → Value → World
with_temporary w k v = at w (put w.top.temporaries k v) w.top.left

abbrev pub set_if : World → ℕ → Option Value → Turned
set_if w k None = wrong
set_if w k (Some v) = On (with_temporary w k v)

abbrev pub with_memory : World → Option Blocks → Turned
with_memory w None = wrong
with_memory w (Some m) = On (record w { memory = m })

abbrev pub store_if : World → Width → Option Value → Option Value → Turned
store_if w width None v = wrong
store_if w width (Some p) None = wrong
store_if w width (Some p) (Some v) = with_memory w (store w.memory p width v)

-- Calls

-- arguments are the first temporaries
abbrev pub first_temporaries : List Value → Temporaries
first_temporaries arguments = λ k. get_or (map Some arguments) k None

abbrev pub new_frame : ℕ → Function → ℕ → List Value → Option ℕ → Frame
new_frame unit f activation arguments to = record { unit = unit; function = f; activation = activation; temporaries = first_temporaries arguments; left = to_do f.body; result = to }

-- the call of a function makes a block for each of its locals. A call has as many arguments as its function has parameters, or goes
-- wrong
abbrev pub entered : Program → Blocks → ℕ → ℕ → Option Function → List Value → Option ℕ → List Frame → Turned
entered p m calls unit None arguments to below = wrong
entered p m calls unit (Some f) arguments to below = cond (eqb (length arguments) f.parameters) (if_room need_of p.room (record { memory = with_locals m calls 0 f.locals; calls = calls + 1; top = new_frame unit f calls arguments to; below = below })) wrong

-- `getbyte` gives a word, which goes to a temporary, if anywhere
abbrev pub got : Option ℕ → World → ℕ → World
got None w n = w
got (Some k) w n = with_temporary w k (Int n)

-- `putbyte` emits its argument modulo 256. It has no result
abbrev pub emitted_byte : World → Value → Turned
emitted_byte w (Int n) = Gives (n % 256) w
emitted_byte w (Ptr b o) = wrong

abbrev pub gave : World → Option ℕ → List Value → Turned
gave w None [] = wrong
gave w None (v ∷ []) = emitted_byte w v
gave w None (v ∷ u ∷ vs) = wrong
gave w (Some k) vs = wrong

-- a call of what the name means
abbrev pub called_with : Program → World → Meaning → Option ℕ → List Value → Turned
called_with p w (meaning.Function unit index) to arguments = entered p w.memory w.calls unit (function_at p unit index) arguments to (w.top ∷ w.below)
called_with p w meaning.GetByte to arguments = Asks (got to w)
called_with p w meaning.PutByte to arguments = gave w to arguments
called_with p w meaning.Nothing to arguments = wrong

abbrev pub called_if : Program → World → Meaning → Option ℕ → Option (List Value) → Turned
called_if p w m to None = wrong
called_if p w m to (Some arguments) = called_with p w m to arguments

-- Returns

-- the run ends with the value of `main` modulo 256
abbrev pub ended_with : Value → Turned
ended_with (Int n) = Ends (outcome.Ended (n % 256))
ended_with (Ptr b o) = wrong

-- the call below the newest one is now the newest, and the life of the newest one's locals is over
abbrev pub back_in : World → Frame → List Frame → World
back_in w caller below = record { memory = without_locals w.memory w.top.activation 0 w.top.function.locals; calls = w.calls; top = caller; below = below }

-- a result goes to a temporary, if anywhere
abbrev pub given : Option ℕ → Option Value → World → Turned
given None v w = On w
given (Some k) v w = set_if w k v

abbrev pub left_with : World → Option Value → List Frame → Turned
left_with w None [] = wrong
left_with w (Some v) [] = ended_with v
left_with w v (caller ∷ below) = given w.top.result v (back_in w caller below)

abbrev pub left_if : World → Option Value → Turned
left_if w None = wrong
left_if w (Some v) = left_with w (Some v) w.below

abbrev pub returned : Program → World → Option Expression → Turned
returned p w None = left_with w None w.below
returned p w (Some e) = left_if w (value_of (scene_of p w) e)

-- with nothing left
abbrev pub ended_by : World → Ending → Turned
ended_by w ending.Bare = left_with w None w.below
ended_by w ending.Zero = left_with w (Some (Int 0)) w.below
ended_by w ending.Stuck = wrong

-- The table

abbrev pub branched : World → Option Bool → List Statement → List Statement → Turned
branched w None this that = wrong
branched w (Some true) this that = On (before (to_do this) w)
branched w (Some false) this that = On (before (to_do that) w)

-- the call has taken the statement, and has what is behind it to do
abbrev pub statement_step : Program → World → Statement → Statement-F Statement → Turned
statement_step p w s (Statement-F.Set k e) = set_if w k (value_of (scene_of p w) e)
statement_step p w s (Statement-F.Store width e v) = store_if w width (value_of (scene_of p w) e) (value_of (scene_of p w) v)
statement_step p w s (Statement-F.Call to callee es) = called_if p w (callee_at p w.top.unit callee) to (all_values (scene_of p w) es)
statement_step p w s (Statement-F.If e this that) = branched w (truth_of (value_of (scene_of p w) e)) this that
statement_step p w s (Statement-F.Loop body) = On (before (to_do body ++ Do s ∷ []) w)
statement_step p w s (Statement-F.Block body) = On (before (to_do body ++ End ∷ []) w)
statement_step p w s (Statement-F.Exit n) = On (with_left w (leave n w.top.left))
statement_step p w s (Statement-F.Return e) = returned p w e

-- one step takes the first item of what the newest call has still to do
abbrev pub step_of : Program → World → List Item → Turned
step_of p w [] = ended_by w w.top.function.ending
step_of p w (Do s ∷ left) = statement_step p (with_left w left) s (out-Statement s)
step_of p w (End ∷ left) = On (with_left w left)

abbrev pub step : Program → World → Turned
step p w = step_of p w w.top.left

-- Runs

-- the run that enters what `main` means, where memory is as it is at the start
abbrev pub begun : Program → Blocks → Option Meaning → List ℕ → Run
begun p memory None input = Over outcome.Wrong []
begun p memory (Some (meaning.Function unit index)) input = after_turn (entered p memory 0 unit (function_at p unit index) [] None []) input []
begun p memory (Some meaning.GetByte) input = Over outcome.Wrong []
begun p memory (Some meaning.PutByte) input = Over outcome.Wrong []
begun p memory (Some meaning.Nothing) input = Over outcome.Wrong []
