-- When a run of Core stands as a run of the source does.
use Rattle.std.specs.Prelude.{◌≡◌, ◌≢◌, ℕ, ◌+◌, ◌≤◌, cond, min, List, [], ◌∷◌, ◌++◌, length, get_or, Option, Some, None}
use Rattle.std.proofs.Common.{suc}
use Rattle.cc_base.specs.declared.run.Act.{Act}
use Rattle.cc_base.specs.declared.run.Outcome.{Outcome}
use Rattle.cc_base.specs.declared.run.Outcome.TheVariants.{Running}
use Rattle.block_mem.specs.declared.value.Value.{Value}
use Rattle.block_mem.specs.declared.value.Width.{Width}
use Rattle.block_mem.specs.declared.operator.Op.{Op}
use Rattle.block_mem.specs.declared.operator.Op.TheVariants.{Keep}
use Rattle.unit_names.specs.declared.meaning.Meaning.{Meaning}
use Rattle.clight_unit.specs.declared.expression.Test.{Test}
use Rattle.clight_unit.specs.declared.function.Function.{Function}
use Rattle.clight_unit.specs.declared.statement.Simple.{Simple}
use Rattle.clight_unit.specs.declared.statement.Statement.{Statement}
use Rattle.clight_unit.specs.declared.statement.Statement.TheOpen.{Statement-F, Arm-F}
use Rattle.clight_unit.specs.declared.statement.Statement.TheFolds.{fold-Statement}
use Rattle.clight_sem.specs.declared.destination.Destination.{Destination}
use Rattle.clight_sem.specs.declared.destination.Destination.TheVariants as to
use Rattle.clight_sem.specs.Functions.{Linked, has_no_result, is_main_of}
use Rattle.clight_sem.specs.States.{Item as Left, Whole, Alone, Again, TestOfDo, TestOfFor, StepOfFor, Frame, World, Run, Going, Over}
use Rattle.core_lang.specs.declared.syntax.Expression.TheVariants as core
use Rattle.core_lang.specs.declared.syntax.Statement.{Statement as Code}
use Rattle.core_lang.specs.declared.syntax.Statement.TheVariants as code
use Rattle.core_lang.specs.declared.syntax.Function.{Function as CoreFunction}
use Rattle.core_lang.specs.declared.syntax.Ending.{Ending}
use Rattle.core_lang.specs.declared.syntax.Ending.TheVariants as ending
use Rattle.core_lang.specs.Meaning.{Temporaries, Program, Item, Do, End, to_do, Frame as CoreFrame, World as CoreWorld, Run as CoreRun}
use Rattle.pass_core.specs.Turns.{Going as Goes, Over as Is_over}
use Rattle.core_gen.specs.Translation.{converted_by, tested, while_round, do_round, for_round, simple_code, simple_if_any, code_of}
use Rattle.core_gen.specs.Units.{base_of}

-- Temporaries

-- the source's temporaries stand in Core's, below the first that is free
pub record Fits (ts : List (Option Value)) (n : ℕ) (t : Temporaries) : Type 0 where
  pub agrees : (k : ℕ) (v : Value) → get_or ts k None ≡ Some v → t k ≡ Some v
  pub few : length ts ≤ n

-- What is still to do

-- the statements of a body
abbrev pub body_code : ℕ → List Statement → ℕ → List Code
body_code base [] depth = []
body_code base (s ∷ ss) depth = code_of base s depth ++ body_code base ss depth

abbrev pub while_loop : ℕ → Test → List Statement → Code
while_loop base t body = code.Loop (while_round base t (body_code base body 0))

abbrev pub do_loop : ℕ → Test → List Statement → Code
do_loop base t body = code.Loop (do_round base t (body_code base body 0))

abbrev pub for_loop : ℕ → Option Test → Option Simple → List Statement → Code
for_loop base t step body = code.Loop (for_round base t step (body_code base body 0))

-- The number is how many ends stand before the end of the innermost loop's body: `break` leaves one block more
mutual
  pub data Follows (base : ℕ) : ℕ → List Left → List Item → Type 0 where
    nothing : Follows base 0 [] []
    -- behind the last block of an `if`, and behind the chosen one
    at_end : (depth : ℕ) (left : List Left) (rest : List Item) → Follows base depth left rest → Follows base (suc depth) left (End ∷ rest)
    at_exit : (depth : ℕ) (left : List Left) (rest : List Item) (others : List Code) → Follows base depth left rest → Follows base (suc depth) left (Do (code.Exit 0) ∷ (to_do others ++ End ∷ rest))
    statement : (depth : ℕ) (s : Statement) (left : List Left) (rest : List Item) → Follows base depth left rest → Follows base depth (Whole s ∷ left) (to_do (code_of base s depth) ++ rest)
    simple : (depth : ℕ) (x : Simple) (left : List Left) (rest : List Item) → Follows base depth left rest → Follows base depth (Alone x ∷ left) (to_do (simple_code base x) ++ rest)
    for_test : (depth : ℕ) (t : Option Test) (step : Option Simple) (body : List Statement) (left : List Left) (rest : List Item) → Follows base depth left rest → Follows base (suc depth) (TestOfFor t step body ∷ left) (Do (for_loop base t step body) ∷ End ∷ rest)
    -- behind a loop's body
    body_end : (left : List Left) (rest : List Item) → Round base left rest → Follows base 0 left (End ∷ rest)

  -- behind the end of a loop's body
  pub data Round (base : ℕ) : List Left → List Item → Type 0 where
    again : (depth : ℕ) (t : Test) (body : List Statement) (left : List Left) (rest : List Item) → Follows base depth left rest → Round base (Again t body ∷ left) (Do (while_loop base t body) ∷ End ∷ rest)
    do_test : (depth : ℕ) (t : Test) (body : List Statement) (left : List Left) (rest : List Item) → Follows base depth left rest → Round base (TestOfDo body t ∷ left) (to_do (tested base t) ++ Do (do_loop base t body) ∷ End ∷ rest)
    for_step : (depth : ℕ) (t : Option Test) (step : Option Simple) (body : List Statement) (left : List Left) (rest : List Item) → Follows base depth left rest → Round base (StepOfFor t step body ∷ left) (to_do (simple_if_any base step) ++ Do (for_loop base t step body) ∷ End ∷ rest)

-- how a call stands
pub data Stands (base : ℕ) (left : List Left) (rest : List Item) : Type 0 where
  among : (depth : ℕ) → Follows base depth left rest → Stands base left rest
  round : Round base left rest → Stands base left rest

-- Calls and runs

-- a function of a unit in Core
abbrev pub ending_of : Linked → ℕ → Function → Ending
ending_of c unit f = cond (has_no_result f.signature) ending.Bare (cond (is_main_of c unit f) ending.Zero ending.Stuck)

abbrev pub core_in : Linked → ℕ → Function → CoreFunction
core_in c unit f = record {
  symbol = f.symbol;
  is_static = f.is_static;
  parameters = length f.signature.parameters;
  locals = f.locals;
  body = body_code (base_of f) f.body 0;
  ending = ending_of c unit f;
  need = f.need;
}

-- the linked units in Core: what names mean as objects, and the room, are the source's
abbrev pub program : Linked → List (List CoreFunction) → List (List Meaning) → Program
program c functions callees = record { functions = functions; objects = c.objects; callees = callees; room = c.room }

abbrev pub core_frame : Linked → Frame → Temporaries → List Item → Option ℕ → CoreFrame
core_frame c a t rest result = record { unit = a.unit; function = core_in c a.unit a.function; activation = a.activation; temporaries = t; left = rest; result = result }

-- Core's world is the source's but for the temporaries, what is still to do and where results go
abbrev pub core_world : Linked → World → Temporaries → List Item → Option ℕ → List CoreFrame → CoreWorld
core_world c w t rest result below = record { memory = w.memory; calls = w.calls; top = core_frame c w.top t rest result; below = below }

-- what a caller does with the result of its call. It comes into the target itself, where this is a temporary of the result's type,
-- and else into the temporary behind that of the place
pub data Waits (base : ℕ) (t : Temporaries) : Destination → Option ℕ → List Code → Type 0 where
  nowhere : Waits base t to.Nowhere None []
  straight : (k : ℕ) → Waits base t (to.Temporary k Keep) (Some (min k base)) []
  in_temporary : (k : ℕ) (conversion : Op) → Waits base t (to.Temporary k conversion) (Some (base + 1)) (code.Set (min k base) (converted_by conversion (core.Temporary (base + 1))) ∷ [])
  in_place : (width : Width) (place : Value) (conversion : Op) → t base ≡ Some place → Waits base t (to.Place width place conversion) (Some (base + 1)) (code.Store width (core.Temporary base) (converted_by conversion (core.Temporary (base + 1))) ∷ [])

-- the calls below, from where the newest one's result goes
pub data Below (c : Linked) : Destination → Option ℕ → List Frame → List CoreFrame → Type 0 where
  bottom : (result : Option ℕ) (d : Destination) → Below c d result [] []
  above : (d : Destination) (result : Option ℕ) (a : Frame) (t : Temporaries) (waits : List Code) (rest : List Item) (next : Option ℕ) (callers : List Frame) (bs : List CoreFrame) → Fits a.temporaries (base_of a.function) t → Waits (base_of a.function) t d result waits → Stands (base_of a.function) a.left rest → Below c a.result next callers bs → Below c d result (a ∷ callers) (core_frame c a t (to_do waits ++ rest) next ∷ bs)

pub data Related (c : Linked) : Run → CoreRun → Type 0 where
  going : (w : World) (t : Temporaries) (rest : List Item) (result : Option ℕ) (below : List CoreFrame) (input : List ℕ) (acts : List Act) → Fits w.top.temporaries (base_of w.top.function) t → Stands (base_of w.top.function) w.top.left rest → Below c w.top.result result w.below below → Related c (Going w input acts) (Goes (core_world c w t rest result below) input acts)
  is_over : (how : Outcome) (acts : List Act) → how ≢ Running → Related c (Over how acts) (Is_over how acts)

-- The measure: the statements that may take no step

abbrev pub together : List ℕ → ℕ
together [] = 0
together (n ∷ ns) = n + together ns

abbrev pub statement_size_step : Statement-F ℕ ℕ → ℕ
statement_size_step Statement-F.Empty = 1
statement_size_step (Statement-F.Initialise a) = 1
statement_size_step (Statement-F.Simple x) = 1
statement_size_step (Statement-F.Block ns) = 1 + together ns
statement_size_step (Statement-F.If arms last) = 1
statement_size_step (Statement-F.While t ns) = 1
statement_size_step (Statement-F.Do ns t) = 1
statement_size_step (Statement-F.For first t step ns) = 1
statement_size_step Statement-F.Break = 1
statement_size_step Statement-F.Continue = 1
statement_size_step (Statement-F.Return v) = 1

abbrev pub arm_size_step : Arm-F ℕ ℕ → ℕ
arm_size_step a = 1

abbrev pub statement_size : Statement → ℕ
statement_size = fold-Statement ℕ ℕ statement_size_step arm_size_step

abbrev pub item_size : Left → ℕ
item_size (Whole s) = statement_size s
item_size (Alone x) = 1
item_size (Again t body) = 1
item_size (TestOfDo body t) = 1
item_size (TestOfFor t step body) = 1
item_size (StepOfFor t step body) = 3

abbrev pub left_size : List Left → ℕ
left_size [] = 0
left_size (i ∷ left) = item_size i + left_size left

abbrev pub measure : Run → ℕ × ℕ
measure (Going w input acts) = (0, left_size w.top.left)
measure (Over how acts) = (0, 0)
