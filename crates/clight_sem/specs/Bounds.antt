-- Bounds of a unit: how much code it may come to, and how much of the stack a call of each function may take (this project's own
-- rules). They are counted on the trees, and not read off the numbers that a unit has with them.
use Rattle.std.specs.Prelude.{ℕ, ◌+◌, ◌-◌, ◌*◌, ◌/◌, max, List, [], ◌∷◌, map, length, slice_get, Option, Some, None}
use Rattle.std.specs.Option.{option_map_or}
use Rattle.block_mem.specs.declared.operator.Op.{Op}
use Rattle.block_mem.specs.declared.operator.Op.TheVariants.{Ne, PtrNe}
use Rattle.clight_unit.specs.declared.expression.Expression.{Expression}
use Rattle.clight_unit.specs.declared.expression.Expression.TheOpen.{Test-F}
use Rattle.clight_unit.specs.declared.expression.Expression.TheFolds.{fold-Expression, fold-Test, fold-Place}
use Rattle.clight_unit.specs.declared.expression.Test.{Test}
use Rattle.clight_unit.specs.declared.expression.Place.{Place}
use Rattle.clight_unit.specs.declared.statement.Statement.{Statement}
use Rattle.clight_unit.specs.declared.statement.Statement.TheOpen.{Statement-F, Arm-F}
use Rattle.clight_unit.specs.declared.statement.Statement.TheFolds.{fold-Statement}
use Rattle.clight_unit.specs.declared.statement.Assignment.{Assignment}
use Rattle.clight_unit.specs.declared.statement.Simple.{Simple}
use Rattle.clight_unit.specs.declared.statement.Simple.TheVariants as simple
use Rattle.clight_unit.specs.declared.statement.Target.{Target}
use Rattle.clight_unit.specs.declared.statement.Target.TheVariants as target
use Rattle.clight_unit.specs.declared.statement.Value.{Value as Converted}
use Rattle.clight_unit.specs.declared.function.Function.{Function}
use Rattle.clight_unit.specs.declared.unit.ClightUnit.{ClightUnit as TypedUnit}
use Rattle.clight_sem.specs.Prices.{expression_nodes_step, place_nodes_step}

-- The nodes of a function's tree. A checked unit has as many as its text has (the page on typing says which count)

abbrev pub total : List ℕ → ℕ
total [] = 0
total (n ∷ ns) = n + total ns

abbrev pub total_if_any : Option (List ℕ) → ℕ
total_if_any None = 0
total_if_any (Some ns) = total ns

-- what a test compares: an integer with 0, or a pointer with null. A checked unit has no other test
pub data Compared : Type 0 where
  Integer : Compared
  Pointer : Compared
  Another : Compared

abbrev pub compared_by : Op → Compared
compared_by Ne = Integer
compared_by PtrNe = Pointer
compared_by op = Another

-- a test has no node of its own. Another one would take more code, and has one
abbrev pub own_count : Compared → ℕ
own_count Integer = 0
own_count Pointer = 0
own_count Another = 1

abbrev pub test_count_step : Test-F ℕ ℕ ℕ → ℕ
test_count_step t = own_count (compared_by t.differs) + t.value

abbrev pub expression_count : Expression → ℕ
expression_count = fold-Expression ℕ ℕ ℕ expression_nodes_step place_nodes_step test_count_step

abbrev pub place_count : Place → ℕ
place_count = fold-Place ℕ ℕ ℕ expression_nodes_step place_nodes_step test_count_step

abbrev pub test_count : Test → ℕ
test_count = fold-Test ℕ ℕ ℕ expression_nodes_step place_nodes_step test_count_step

abbrev pub target_count : Target → ℕ
target_count (target.Temporary k) = 1
target_count (target.Place w p) = place_count p

abbrev pub target_count_if_any : Option Target → ℕ
target_count_if_any None = 0
target_count_if_any (Some t) = target_count t

abbrev pub values_count : List Converted → ℕ
values_count [] = 0
values_count (v ∷ vs) = expression_count v.expression + values_count vs

abbrev pub value_count_if_any : Option Converted → ℕ
value_count_if_any None = 0
value_count_if_any (Some v) = expression_count v.expression

abbrev pub test_count_if_any : Option Test → ℕ
test_count_if_any None = 0
test_count_if_any (Some t) = test_count t

abbrev pub simple_count : Simple → ℕ
simple_count (simple.Assign a) = 1 + target_count a.target + expression_count a.value.expression
simple_count (simple.Call c) = 1 + target_count_if_any c.target + values_count c.arguments

abbrev pub simple_count_if_any : Option Simple → ℕ
simple_count_if_any None = 0
simple_count_if_any (Some x) = simple_count x

-- an initialiser counts its value, its target's nodes less one, and so much more
abbrev pub statement_count_step : ℕ → Statement-F ℕ ℕ → ℕ
statement_count_step more Statement-F.Empty = 1
statement_count_step more (Statement-F.Initialise a) = more + (target_count a.target - 1) + expression_count a.value.expression
statement_count_step more (Statement-F.Simple x) = simple_count x
statement_count_step more (Statement-F.Block ns) = 1 + total ns
statement_count_step more (Statement-F.If arms last) = total arms + total_if_any last
statement_count_step more (Statement-F.While t ns) = 1 + test_count t + total ns
statement_count_step more (Statement-F.Do ns t) = 1 + test_count t + total ns
statement_count_step more (Statement-F.For first t step ns) = 1 + simple_count_if_any first + test_count_if_any t + simple_count_if_any step + total ns
statement_count_step more Statement-F.Break = 1
statement_count_step more Statement-F.Continue = 1
statement_count_step more (Statement-F.Return v) = 1 + value_count_if_any v

abbrev pub arm_count_step : Arm-F ℕ ℕ → ℕ
arm_count_step a = 1 + test_count a.test + total a.body

abbrev pub statement_count : ℕ → Statement → ℕ
statement_count more = fold-Statement ℕ ℕ (statement_count_step more) arm_count_step

abbrev pub body_count : ℕ → List Statement → ℕ
body_count more ss = total (map (statement_count more) ss)

-- a node for the function, one for each parameter and one for each declarator. In a checked unit no more locals have an initialiser
-- than there are declarators
abbrev pub function_count : Function → ℕ
function_count f = 1 + length f.signature.parameters + max (f.registers + length f.locals + body_count 0 f.body) (body_count 1 f.body)

-- What they bound

-- sizes in bytes, each up to whole words of 4
abbrev pub whole_words : List ℕ → ℕ
whole_words [] = 0
whole_words (n ∷ ns) = (n + 3) / 4 * 4 + whole_words ns

-- 64 bytes, 4 for each parameter, 16 for each node, and the locals
abbrev pub function_hold : Function → ℕ
function_hold f = 64 + 4 * length f.signature.parameters + whole_words f.locals + 16 * function_count f

abbrev pub functions_bulk : List Function → ℕ
functions_bulk [] = 0
functions_bulk (f ∷ fs) = 256 + 128 * function_count f + functions_bulk fs

-- how much code the unit may come to, in bytes: 256 for each function and 128 for each of its nodes
abbrev pub bulk : TypedUnit → ℕ
bulk u = functions_bulk u.functions

-- how much of the stack a call of the function of this number may take, in bytes
abbrev pub hold : TypedUnit → ℕ → ℕ
hold u index = option_map_or function_hold (slice_get u.functions index) 0
