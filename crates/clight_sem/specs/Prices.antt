-- What turns cost: how many instructions of an image stand for one at most (this project's own rule).
use Rattle.std.specs.Prelude.{ℕ, ◌+◌, ◌-◌, ◌*◌, List, [], ◌∷◌, Option, Some, None}
use Rattle.clight_unit.specs.declared.expression.Expression.{Expression}
use Rattle.clight_unit.specs.declared.expression.Expression.TheOpen.{Expression-F, Test-F, Place-F}
use Rattle.clight_unit.specs.declared.expression.Expression.TheFolds.{fold-Expression, fold-Test, fold-Place}
use Rattle.clight_unit.specs.declared.expression.Test.{Test}
use Rattle.clight_unit.specs.declared.expression.Place.{Place}
use Rattle.clight_unit.specs.declared.statement.Statement.{Statement, out-Statement}
use Rattle.clight_unit.specs.declared.statement.Statement.TheOpen.{Statement-F}
use Rattle.clight_unit.specs.declared.statement.Arm.{Arm, out-Arm}
use Rattle.clight_unit.specs.declared.statement.Simple.{Simple}
use Rattle.clight_unit.specs.declared.statement.Simple.TheVariants as simple
use Rattle.clight_unit.specs.declared.statement.Target.{Target}
use Rattle.clight_unit.specs.declared.statement.Target.TheVariants as target
use Rattle.clight_unit.specs.declared.statement.Value.{Value as Converted}
use Rattle.clight_sem.specs.States.{Item, Whole, Alone, Again, TestOfDo, TestOfFor, StepOfFor, Run, Going, Over}

-- The nodes of expressions: a literal, a name, an operator, a cast, a size, an index and a member are one each. How a place is read
-- is none

abbrev pub expression_nodes_step : Expression-F ℕ ℕ ℕ → ℕ
expression_nodes_step (Expression-F.Constant n) = 1
expression_nodes_step (Expression-F.Temporary k) = 1
expression_nodes_step (Expression-F.Load w p) = p
expression_nodes_step (Expression-F.Decayed p) = p
expression_nodes_step (Expression-F.Address p) = 1 + p
expression_nodes_step (Expression-F.Unary op x) = 1 + x
expression_nodes_step (Expression-F.Binary op x y) = 1 + x + y
expression_nodes_step (Expression-F.Both x y) = 1 + x + y
expression_nodes_step (Expression-F.Either x y) = 1 + x + y

abbrev pub test_nodes_step : Test-F ℕ ℕ ℕ → ℕ
test_nodes_step t = t.value

abbrev pub place_nodes_step : Place-F ℕ ℕ ℕ → ℕ
place_nodes_step (Place-F.Object symbol) = 1
place_nodes_step (Place-F.Local index) = 1
place_nodes_step (Place-F.Deref e) = 1 + e
place_nodes_step (Place-F.Index size e i) = 1 + e + i
place_nodes_step (Place-F.Member offset p) = 1 + p
place_nodes_step (Place-F.Arrow offset e) = 1 + e

abbrev pub expression_nodes : Expression → ℕ
expression_nodes = fold-Expression ℕ ℕ ℕ expression_nodes_step place_nodes_step test_nodes_step

abbrev pub place_nodes : Place → ℕ
place_nodes = fold-Place ℕ ℕ ℕ expression_nodes_step place_nodes_step test_nodes_step

abbrev pub test_nodes : Test → ℕ
test_nodes = fold-Test ℕ ℕ ℕ expression_nodes_step place_nodes_step test_nodes_step

-- The expressions of an item's own

abbrev pub target_nodes : Target → ℕ
target_nodes (target.Temporary k) = 1
target_nodes (target.Place w p) = place_nodes p

abbrev pub target_nodes_if_any : Option Target → ℕ
target_nodes_if_any None = 0
target_nodes_if_any (Some t) = target_nodes t

abbrev pub arguments_nodes : List Converted → ℕ
arguments_nodes [] = 0
arguments_nodes (v ∷ vs) = expression_nodes v.expression + arguments_nodes vs

abbrev pub test_nodes_if_any : Option Test → ℕ
test_nodes_if_any None = 0
test_nodes_if_any (Some t) = test_nodes t

abbrev pub value_nodes_if_any : Option Converted → ℕ
value_nodes_if_any None = 0
value_nodes_if_any (Some v) = expression_nodes v.expression

abbrev pub arms_nodes : List Arm → ℕ
arms_nodes [] = 0
arms_nodes (a ∷ arms) = test_nodes (out-Arm a).test + arms_nodes arms

-- the place and the value of an assignment, and the place and the arguments of a call
abbrev pub simple_nodes : Simple → ℕ
simple_nodes (simple.Assign a) = target_nodes a.target + expression_nodes a.value.expression
simple_nodes (simple.Call c) = target_nodes_if_any c.target + arguments_nodes c.arguments

-- the value of a local's initialiser and its place less one node (the declarator: in a unit that `check` gives the place adds none),
-- the conditions of all arms of an `if`, the condition of a `while`, the value of a `return`
abbrev pub statement_nodes : Statement-F Statement Arm → ℕ
statement_nodes Statement-F.Empty = 0
statement_nodes (Statement-F.Block body) = 0
statement_nodes (Statement-F.Initialise a) = (target_nodes a.target - 1) + expression_nodes a.value.expression
statement_nodes (Statement-F.Simple x) = simple_nodes x
statement_nodes (Statement-F.If arms last) = arms_nodes arms
statement_nodes (Statement-F.While test body) = test_nodes test
statement_nodes (Statement-F.Do body test) = 0
statement_nodes (Statement-F.For first test step body) = 0
statement_nodes Statement-F.Break = 0
statement_nodes Statement-F.Continue = 0
statement_nodes (Statement-F.Return v) = value_nodes_if_any v

abbrev pub item_nodes : Item → ℕ
item_nodes (Whole s) = statement_nodes (out-Statement s)
item_nodes (Alone x) = simple_nodes x
item_nodes (Again test body) = test_nodes test
item_nodes (TestOfDo body test) = test_nodes test
item_nodes (TestOfFor test step body) = test_nodes_if_any test
item_nodes (StepOfFor test step body) = 0

-- what an item weighs
abbrev pub weight : Item → ℕ
weight item = 8 + item_nodes item

-- where nothing is left, the turn weighs as much as one without expressions
abbrev pub first_weight : List Item → ℕ
first_weight [] = 8
first_weight (item ∷ left) = weight item

-- the price of the turn that a run takes next
abbrev pub price : Run → ℕ
price (Going w input acts) = 24 * first_weight w.top.left
price (Over how acts) = 0
