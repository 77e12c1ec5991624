-- Where the text of a unit names what it declares at file scope, or what another unit defines: in the order of the text, and apart
-- from names that a parameter or a local hides (C11, 6.2.1).
use Rattle.std.specs.Prelude.{ℕ, Bool, true, false, cond, List, [], ◌∷◌, ◌++◌, Option, Some, None}
use Rattle.std.specs.List.{flat_map}
use Rattle.text_grammar.specs.declared.tree.NameAt.{NameAt}
use Rattle.text_grammar.specs.declared.tree.Expr.{Expr}
use Rattle.text_grammar.specs.declared.tree.Expr.TheOpen.{Expr-F}
use Rattle.text_grammar.specs.declared.tree.Expr.TheFolds.{fold-Expr}
use Rattle.text_grammar.specs.declared.tree.Call.{Call}
use Rattle.text_grammar.specs.declared.tree.AssignedValue.{AssignedValue}
use Rattle.text_grammar.specs.declared.tree.AssignedValue.TheVariants as value
use Rattle.text_grammar.specs.declared.tree.Simple.{Simple}
use Rattle.text_grammar.specs.declared.tree.Simple.TheVariants as act
use Rattle.text_grammar.specs.declared.tree.Stmt.{Stmt}
use Rattle.text_grammar.specs.declared.tree.Stmt.TheOpen.{Stmt-F, Arm-F}
use Rattle.text_grammar.specs.declared.tree.Stmt.TheFolds.{fold-Stmt, fold-Arm}
use Rattle.text_grammar.specs.declared.tree.Arm.{Arm}
use Rattle.text_grammar.specs.declared.tree.Initialiser.{Initialiser}
use Rattle.text_grammar.specs.declared.tree.Initialiser.TheOpen.{Initialiser-F}
use Rattle.text_grammar.specs.declared.tree.Initialiser.TheFolds.{fold-Initialiser}
use Rattle.text_grammar.specs.declared.tree.Initialised.{Initialised}
use Rattle.text_grammar.specs.declared.tree.ObjectItem.{ObjectItem}
use Rattle.text_grammar.specs.declared.tree.Parameter.{Parameter}
use Rattle.text_grammar.specs.declared.tree.LocalValue.{LocalValue}
use Rattle.text_grammar.specs.declared.tree.LocalItem.{LocalItem}
use Rattle.text_grammar.specs.declared.tree.Locals.{Locals}
use Rattle.text_grammar.specs.declared.tree.Linkage.{Linkage}
use Rattle.text_grammar.specs.declared.tree.Linkage.TheVariants as linkage
use Rattle.text_grammar.specs.declared.tree.Head.{Head}
use Rattle.text_grammar.specs.declared.tree.External.{External}
use Rattle.text_grammar.specs.declared.tree.External.TheVariants as top
use Rattle.typing_symbols.specs.Names.{is_among, with_name}
use Rattle.typing_symbols.specs.declared.sight.How.{How}
use Rattle.typing_symbols.specs.declared.sight.How.TheVariants as how

-- a name where it stands, and what stands there
pub record Seen : Type 0 where
  pub name : List ℕ
  pub how : How

abbrev pub seen : How → List ℕ → Seen
seen how name = record { name = name; how = how }

-- Expressions. What stands under `sizeof` is measured, and not used

abbrev pub use_of : Bool → How
use_of true = how.Measured
use_of false = how.Used

-- a name that nothing hides
abbrev pub name_sights : List (List ℕ) → Bool → List ℕ → List Seen
name_sights hidden is_measured name = cond (is_among name hidden) [] (seen (use_of is_measured) name ∷ [])

abbrev pub expr_step : List (List ℕ) → Expr-F (Bool → List Seen) → Bool → List Seen
expr_step hidden (Expr-F.Name at name) b = name_sights hidden b name
expr_step hidden (Expr-F.Number at value is_unsigned) b = []
expr_step hidden (Expr-F.Character at byte) b = []
expr_step hidden (Expr-F.Unary at op x) b = x b
expr_step hidden (Expr-F.Binary at op x y) b = x b ++ y b
expr_step hidden (Expr-F.Cast at to x) b = x b
expr_step hidden (Expr-F.SizeofType at t) b = []
expr_step hidden (Expr-F.Sizeof at x) b = x true
expr_step hidden (Expr-F.Index at x i) b = x b ++ i b
expr_step hidden (Expr-F.Member at x name) b = x b
expr_step hidden (Expr-F.Arrow at x name) b = x b

abbrev pub expr_sights_at : List (List ℕ) → Expr → Bool → List Seen
expr_sights_at hidden = fold-Expr (Bool → List Seen) (expr_step hidden)

abbrev pub expr_sights : List (List ℕ) → Expr → List Seen
expr_sights hidden x = expr_sights_at hidden x false

-- Statements

abbrev pub call_sights : List (List ℕ) → Call → List Seen
call_sights hidden c = name_sights hidden false c.name.bytes ++ flat_map (expr_sights hidden) c.arguments

abbrev pub value_sights : List (List ℕ) → AssignedValue → List Seen
value_sights hidden (value.Expr x) = expr_sights hidden x
value_sights hidden (value.Call c) = call_sights hidden c

abbrev pub simple_sights : List (List ℕ) → Simple → List Seen
simple_sights hidden (act.Call c) = call_sights hidden c
simple_sights hidden (act.Assign at x v) = expr_sights hidden x ++ value_sights hidden v

abbrev pub maybe_expr_sights : List (List ℕ) → Option Expr → List Seen
maybe_expr_sights hidden None = []
maybe_expr_sights hidden (Some x) = expr_sights hidden x

abbrev pub maybe_simple_sights : List (List ℕ) → Option Simple → List Seen
maybe_simple_sights hidden None = []
maybe_simple_sights hidden (Some x) = simple_sights hidden x

abbrev pub in_a_row : List (List Seen) → List Seen
in_a_row sss = flat_map (λ ss. ss) sss

abbrev pub last_sights : Option (List (List Seen)) → List Seen
last_sights None = []
last_sights (Some sss) = in_a_row sss

abbrev pub stmt_step : List (List ℕ) → Stmt-F (List Seen) (List Seen) → List Seen
stmt_step hidden (Stmt-F.Empty at) = []
stmt_step hidden (Stmt-F.Block at sss) = in_a_row sss
stmt_step hidden (Stmt-F.Simple x) = simple_sights hidden x
stmt_step hidden (Stmt-F.Return at x) = maybe_expr_sights hidden x
stmt_step hidden (Stmt-F.Break at) = []
stmt_step hidden (Stmt-F.Continue at) = []
stmt_step hidden (Stmt-F.If arms last) = in_a_row arms ++ last_sights last
stmt_step hidden (Stmt-F.While at x sss) = expr_sights hidden x ++ in_a_row sss
stmt_step hidden (Stmt-F.Do at sss x) = in_a_row sss ++ expr_sights hidden x
stmt_step hidden (Stmt-F.For at first x step sss) = maybe_simple_sights hidden first ++ (maybe_expr_sights hidden x ++ (maybe_simple_sights hidden step ++ in_a_row sss))

abbrev pub arm_step : List (List ℕ) → Arm-F (List Seen) (List Seen) → List Seen
arm_step hidden y = expr_sights hidden y.test ++ in_a_row y.body

abbrev pub stmt_sights : List (List ℕ) → Stmt → List Seen
stmt_sights hidden = fold-Stmt (List Seen) (List Seen) (stmt_step hidden) (arm_step hidden)

abbrev pub arm_sights : List (List ℕ) → Arm → List Seen
arm_sights hidden = fold-Arm (List Seen) (List Seen) (stmt_step hidden) (arm_step hidden)

-- Functions. A local hides a name from its own initialiser on

abbrev pub with_parameter : List (List ℕ) → Option NameAt → List (List ℕ)
with_parameter hidden None = hidden
with_parameter hidden (Some n) = with_name hidden n.bytes

abbrev pub hidden_by : List (List ℕ) → List Parameter → List (List ℕ)
hidden_by hidden [] = hidden
hidden_by hidden (p ∷ ps) = hidden_by (with_parameter hidden p.name) ps

abbrev pub local_value_sights : List (List ℕ) → Option LocalValue → List Seen
local_value_sights hidden None = []
local_value_sights hidden (Some v) = expr_sights hidden v.value

abbrev pub hidden_by_item : List (List ℕ) → LocalItem → List (List ℕ)
hidden_by_item hidden item = with_name hidden item.declarator.name.bytes

abbrev pub hidden_by_items : List (List ℕ) → List LocalItem → List (List ℕ)
hidden_by_items hidden [] = hidden
hidden_by_items hidden (x ∷ xs) = hidden_by_items (hidden_by_item hidden x) xs

abbrev pub items_sights : List (List ℕ) → List LocalItem → List Seen
items_sights hidden [] = []
items_sights hidden (x ∷ xs) = local_value_sights (hidden_by_item hidden x) x.value ++ items_sights (hidden_by_item hidden x) xs

abbrev pub hidden_by_locals : List (List ℕ) → List Locals → List (List ℕ)
hidden_by_locals hidden [] = hidden
hidden_by_locals hidden (l ∷ ls) = hidden_by_locals (hidden_by_items hidden l.items) ls

abbrev pub locals_sights : List (List ℕ) → List Locals → List Seen
locals_sights hidden [] = []
locals_sights hidden (l ∷ ls) = items_sights hidden l.items ++ locals_sights (hidden_by_items hidden l.items) ls

-- what stands between the braces
abbrev pub body_sights : List (List ℕ) → List Locals → List Stmt → List Seen
body_sights hidden locals body = locals_sights hidden locals ++ flat_map (stmt_sights (hidden_by_locals hidden locals)) body

-- Declarations

abbrev pub initialiser_step : List (List ℕ) → Initialiser-F (List Seen) → List Seen
initialiser_step hidden (Initialiser-F.Expr x) = expr_sights hidden x
initialiser_step hidden (Initialiser-F.String at bytes) = []
initialiser_step hidden (Initialiser-F.List at sss) = in_a_row sss

abbrev pub initialiser_sights : List (List ℕ) → Initialiser → List Seen
initialiser_sights hidden = fold-Initialiser (List Seen) (initialiser_step hidden)

-- at file scope nothing is hidden
abbrev pub initialised_sights : Option Initialised → List Seen
initialised_sights None = []
initialised_sights (Some v) = initialiser_sights [] v.value

abbrev pub is_static : Linkage → Bool
is_static linkage.Static = true
is_static linkage.Plain = false
is_static linkage.Extern = false

-- an object is defined where it is not `extern`
abbrev pub object_how : Linkage → How
object_how linkage.Static = how.Defined true
object_how linkage.Plain = how.Defined false
object_how linkage.Extern = how.Declared false

abbrev pub object_sights : Linkage → ObjectItem → List Seen
object_sights l item = seen (object_how l) item.declarator.name.bytes ∷ initialised_sights item.initialised

abbrev pub external_sights : External → List Seen
external_sights (top.Struct tag members) = []
external_sights (top.Objects l t items) = flat_map (object_sights l) items
external_sights (top.Prototype head) = seen (how.Declared (is_static head.linkage)) head.name.bytes ∷ []
external_sights (top.Function head locals body) = seen (how.Defined (is_static head.linkage)) head.name.bytes ∷ body_sights (hidden_by [] head.parameters) locals body

abbrev pub sights_of : List External → List Seen
sights_of tree = flat_map external_sights tree
