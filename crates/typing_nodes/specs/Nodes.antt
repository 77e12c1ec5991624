-- The nodes of a tree, by this project's own count. They bound the size of the code that is made of it.
use Rattle.std.specs.Prelude.{ℕ, ◌+◌, min, List, [], length, map, Option, Some, None}
use Rattle.std.specs.List.{sum, sum_by}
use Rattle.text_grammar.specs.declared.tree.Expr.{Expr}
use Rattle.text_grammar.specs.declared.tree.Expr.TheOpen.{Expr-F}
use Rattle.text_grammar.specs.declared.tree.Expr.TheFolds.{fold-Expr}
use Rattle.text_grammar.specs.declared.tree.Call.{Call}
use Rattle.text_grammar.specs.declared.tree.AssignedValue.{AssignedValue}
use Rattle.text_grammar.specs.declared.tree.AssignedValue.TheVariants as value
use Rattle.text_grammar.specs.declared.tree.Simple.{Simple}
use Rattle.text_grammar.specs.declared.tree.Simple.TheVariants as act
use Rattle.text_grammar.specs.declared.tree.Stmt.{Stmt}
use Rattle.text_grammar.specs.declared.tree.Stmt.TheOpen.{Stmt-F, Arm-F}
use Rattle.text_grammar.specs.declared.tree.Stmt.TheFolds.{fold-Stmt, fold-Arm}
use Rattle.text_grammar.specs.declared.tree.Arm.{Arm}
use Rattle.text_grammar.specs.declared.tree.Initialiser.{Initialiser}
use Rattle.text_grammar.specs.declared.tree.Initialiser.TheOpen.{Initialiser-F}
use Rattle.text_grammar.specs.declared.tree.Initialiser.TheFolds.{fold-Initialiser}
use Rattle.text_grammar.specs.declared.tree.Initialised.{Initialised}
use Rattle.text_grammar.specs.declared.tree.ObjectItem.{ObjectItem}
use Rattle.text_grammar.specs.declared.tree.Parameter.{Parameter}
use Rattle.text_grammar.specs.declared.tree.LocalValue.{LocalValue}
use Rattle.text_grammar.specs.declared.tree.LocalItem.{LocalItem}
use Rattle.text_grammar.specs.declared.tree.Locals.{Locals}
use Rattle.text_grammar.specs.declared.tree.External.{External}
use Rattle.text_grammar.specs.declared.tree.External.TheVariants as top

-- a count as it is told: more than 65,536 are told as 65,537
abbrev pub told_nodes : ℕ → ℕ
told_nodes n = min n 65537

-- Expressions: one for each literal, name, operator, cast, `sizeof`, index and member. What stands under `sizeof` and
-- parentheses count nothing

abbrev pub expr_step : Expr-F ℕ → ℕ
expr_step (Expr-F.Name at name) = 1
expr_step (Expr-F.Number at value is_unsigned) = 1
expr_step (Expr-F.Character at byte) = 1
expr_step (Expr-F.Unary at op x) = 1 + x
expr_step (Expr-F.Binary at op x y) = 1 + (x + y)
expr_step (Expr-F.Cast at to x) = 1 + x
expr_step (Expr-F.SizeofType at t) = 1
expr_step (Expr-F.Sizeof at x) = 1
expr_step (Expr-F.Index at x i) = 1 + (x + i)
expr_step (Expr-F.Member at x name) = 1 + x
expr_step (Expr-F.Arrow at x name) = 1 + x

abbrev pub expr_nodes : Expr → ℕ
expr_nodes = fold-Expr ℕ expr_step

-- Statements: one for each, and one for each arm of an `if` beyond the first. A callee's name, the braces of a body and the block
-- behind the last `else` count nothing

-- the arguments of a call
abbrev pub call_nodes : Call → ℕ
call_nodes c = sum_by expr_nodes c.arguments

abbrev pub value_nodes : AssignedValue → ℕ
value_nodes (value.Expr x) = expr_nodes x
value_nodes (value.Call c) = call_nodes c

-- an assignment or a call, also in the head of a `for`
abbrev pub simple_nodes : Simple → ℕ
simple_nodes (act.Call c) = 1 + call_nodes c
simple_nodes (act.Assign at x v) = 1 + (expr_nodes x + value_nodes v)

abbrev pub maybe_expr_nodes : Option Expr → ℕ
maybe_expr_nodes None = 0
maybe_expr_nodes (Some x) = expr_nodes x

abbrev pub maybe_simple_nodes : Option Simple → ℕ
maybe_simple_nodes None = 0
maybe_simple_nodes (Some x) = simple_nodes x

abbrev pub last_nodes : Option (List ℕ) → ℕ
last_nodes None = 0
last_nodes (Some ns) = sum ns

-- an `if` counts as its first arm
abbrev pub stmt_step : Stmt-F ℕ ℕ → ℕ
stmt_step (Stmt-F.Empty at) = 1
stmt_step (Stmt-F.Block at ns) = 1 + sum ns
stmt_step (Stmt-F.Simple x) = simple_nodes x
stmt_step (Stmt-F.Return at x) = 1 + maybe_expr_nodes x
stmt_step (Stmt-F.Break at) = 1
stmt_step (Stmt-F.Continue at) = 1
stmt_step (Stmt-F.If arms last) = sum arms + last_nodes last
stmt_step (Stmt-F.While at x ns) = 1 + (expr_nodes x + sum ns)
stmt_step (Stmt-F.Do at ns x) = 1 + (expr_nodes x + sum ns)
stmt_step (Stmt-F.For at first x step ns) = 1 + (maybe_simple_nodes first + (maybe_expr_nodes x + (maybe_simple_nodes step + sum ns)))

abbrev pub arm_step : Arm-F ℕ ℕ → ℕ
arm_step y = 1 + (expr_nodes y.test + sum y.body)

abbrev pub stmt_nodes : Stmt → ℕ
stmt_nodes = fold-Stmt ℕ ℕ stmt_step arm_step

abbrev pub arm_nodes : Arm → ℕ
arm_nodes = fold-Arm ℕ ℕ stmt_step arm_step

-- Functions: one, and one for each parameter and each local's declarator

abbrev pub local_value_nodes : Option LocalValue → ℕ
local_value_nodes None = 0
local_value_nodes (Some v) = expr_nodes v.value

abbrev pub local_nodes : LocalItem → ℕ
local_nodes item = 1 + local_value_nodes item.value

abbrev pub locals_nodes : Locals → ℕ
locals_nodes l = sum_by local_nodes l.items

abbrev pub function_nodes : List Parameter → List Locals → List Stmt → ℕ
function_nodes parameters locals body = 1 + (length parameters + (sum_by locals_nodes locals + sum_by stmt_nodes body))

-- Objects of file scope: one for each declarator, each node of an expression and each string

abbrev pub initialiser_step : Initialiser-F ℕ → ℕ
initialiser_step (Initialiser-F.Expr x) = expr_nodes x
initialiser_step (Initialiser-F.String at bytes) = 1
initialiser_step (Initialiser-F.List at ns) = sum ns

abbrev pub initialiser_nodes : Initialiser → ℕ
initialiser_nodes = fold-Initialiser ℕ initialiser_step

abbrev pub initialised_nodes : Option Initialised → ℕ
initialised_nodes None = 0
initialised_nodes (Some v) = initialiser_nodes v.value

abbrev pub object_nodes : ObjectItem → ℕ
object_nodes item = 1 + initialised_nodes item.initialised

-- Units: a prototype and the definition of a struct count nothing

abbrev pub external_nodes : External → ℕ
external_nodes (top.Struct tag members) = 0
external_nodes (top.Objects l t items) = sum_by object_nodes items
external_nodes (top.Prototype head) = 0
external_nodes (top.Function head locals body) = function_nodes head.parameters locals body

abbrev pub unit_nodes : List External → ℕ
unit_nodes tree = sum_by external_nodes tree
