-- The types of statements: for each statement, under what names mean in the body, the rows that it breaks and what it is in the
-- typed unit (C11, 6.8, of the subset).
use Rattle.std.specs.Prelude.{ℕ, Bool, true, false, cond, List, [], ◌∷◌, ◌++◌, Option, Some, None}
use Rattle.std.specs.Option.{option_map, option_and_then}
use Rattle.typing_faults.specs.declared.fault.Row.{Row}
use Rattle.typing_faults.specs.declared.fault.TypeKind.TheVariants as kind
use Rattle.text_grammar.specs.declared.tree.Expr.{Expr}
use Rattle.text_grammar.specs.declared.tree.Simple.{Simple}
use Rattle.text_grammar.specs.declared.tree.Stmt.{Stmt}
use Rattle.text_grammar.specs.declared.tree.Stmt.TheOpen.{Stmt-F, Arm-F}
use Rattle.text_grammar.specs.declared.tree.Stmt.TheFolds.{fold-Stmt, fold-Arm}
use Rattle.text_grammar.specs.declared.tree.Arm.{Arm}
use Rattle.typing_types.specs.Types.{Derived}
use Rattle.typing_types.specs.Operators.{is_void}
use Rattle.typing_scopes.specs.Visible.{Visible}
use Rattle.clight_unit.specs.declared.expression.Test.{Test}
use Rattle.clight_unit.specs.declared.statement.Simple.{Simple as TypedSimple}
use Rattle.clight_unit.specs.declared.statement.Statement.{Statement}
use Rattle.clight_unit.specs.declared.statement.Statement.TheVariants as typed
use Rattle.clight_unit.specs.declared.statement.Arm.{Arm as TypedArm}
use Rattle.typing_expressions.specs.Expressions.{rows, node_of}
use Rattle.typing_expressions.specs.Places.{text_place}
use Rattle.typing_statements.specs.Gathering.{with_next, row, converted, converted_rows, condition, condition_rows}
use Rattle.typing_statements.specs.Assignments.{simple, simple_rows}

-- what is found at a part of a body: the rows that it breaks, and what it is, where it breaks none
pub record Finding (A : Type 0) : Type 0 where
  pub rows : List Row
  pub item : Option A

-- what is found depends on whether a loop stands around it
abbrev pub Found : Type 0 → Type 0
Found A = Bool → Finding A

-- Lists: the rows of all, and the items, where none is missing

abbrev pub all_rows : {A : Type 0} → List (Found A) → Bool → List Row
all_rows [] b = []
all_rows (f ∷ fs) b = (f b).rows ++ all_rows fs b

abbrev pub all_items : {A : Type 0} → Option (List A) → List (Found A) → Bool → Option (List A)
all_items out [] b = out
all_items out (f ∷ fs) b = all_items (with_next out (f b).item) fs b

abbrev pub block : {A : Type 0} → List (Found A) → Bool → Option (List A)
block fs b = all_items (Some []) fs b

-- Conditions

abbrev pub test : Visible → Expr → Option Test
test scope x = condition (node_of scope x)

abbrev pub test_rows : Visible → Expr → List Row
test_rows scope x = rows scope x ++ condition_rows (text_place x) (node_of scope x)

-- Parts that may be left out. What is none breaks no rule

abbrev pub maybe_test : Visible → Option Expr → Option (Option Test)
maybe_test scope None = Some None
maybe_test scope (Some x) = option_map (λ t. Some t) (test scope x)

abbrev pub maybe_test_rows : Visible → Option Expr → List Row
maybe_test_rows scope None = []
maybe_test_rows scope (Some x) = test_rows scope x

abbrev pub maybe_simple : Visible → Option Simple → Option (Option TypedSimple)
maybe_simple scope None = Some None
maybe_simple scope (Some x) = option_map (λ s. Some s) (simple scope x)

abbrev pub maybe_simple_rows : Visible → Option Simple → List Row
maybe_simple_rows scope None = []
maybe_simple_rows scope (Some x) = simple_rows scope x

abbrev pub maybe_block : Option (List (Found Statement)) → Bool → Option (Option (List Statement))
maybe_block None b = Some None
maybe_block (Some fs) b = option_map (λ ss. Some ss) (block fs b)

abbrev pub maybe_block_rows : Option (List (Found Statement)) → Bool → List Row
maybe_block_rows None b = []
maybe_block_rows (Some fs) b = all_rows fs b

-- `return`, by the type of the function's result

abbrev pub return_rows : Visible → Derived → ℕ → Option Expr → List Row
return_rows scope result at None = cond (is_void result) [] (row kind.Kind at)
return_rows scope result at (Some x) = rows scope x ++ converted_rows at result (node_of scope x)

abbrev pub returned : Visible → Derived → Option Expr → Option Statement
returned scope result None = cond (is_void result) (Some (typed.Return None)) None
returned scope result (Some x) = option_map (λ v. typed.Return (Some v)) (converted result (node_of scope x))

-- `break` and `continue` stand in a loop
abbrev pub leaving : Bool → ℕ → Statement → Finding Statement
leaving true at s = record { rows = []; item = Some s }
leaving false at s = record { rows = row kind.Kind at; item = None }

-- Statements of which parts are typed

abbrev pub while_of : Option Test → Option (List Statement) → Option Statement
while_of t body = option_and_then (λ x. option_map (λ ss. typed.While x ss) body) t

abbrev pub do_of : Option (List Statement) → Option Test → Option Statement
do_of body t = option_and_then (λ x. option_map (λ ss. typed.Do ss x) body) t

abbrev pub if_of : Option (List TypedArm) → Option (Option (List Statement)) → Option Statement
if_of arms last = option_and_then (λ xs. option_map (λ ss. typed.If xs ss) last) arms

abbrev pub for_of : Option (Option TypedSimple) → Option (Option Test) → Option (Option TypedSimple) → Option (List Statement) → Option Statement
for_of first t step body =
    option_and_then (λ f. option_and_then (λ x. option_and_then (λ s. option_map (λ ss. typed.For f x s ss) body) step) t) first

abbrev pub arm_of : Option Test → Option (List Statement) → Option TypedArm
arm_of t body = option_and_then (λ x. option_map (λ ss. record { test = x; body = ss }) body) t

abbrev pub stmt_step : Visible → Derived → Stmt-F (Found Statement) (Found TypedArm) → Found Statement
stmt_step scope result (Stmt-F.Empty at) b = record { rows = []; item = Some typed.Empty }
stmt_step scope result (Stmt-F.Block at fs) b = record { rows = all_rows fs b; item = option_map (λ ss. typed.Block ss) (block fs b) }
stmt_step scope result (Stmt-F.Simple x) b = record { rows = simple_rows scope x; item = option_map (λ s. typed.Simple s) (simple scope x) }
stmt_step scope result (Stmt-F.Return at x) b = record { rows = return_rows scope result at x; item = returned scope result x }
stmt_step scope result (Stmt-F.Break at) b = leaving b at typed.Break
stmt_step scope result (Stmt-F.Continue at) b = leaving b at typed.Continue
stmt_step scope result (Stmt-F.If arms last) b = record { rows = all_rows arms b ++ maybe_block_rows last b; item = if_of (block arms b) (maybe_block last b) }
stmt_step scope result (Stmt-F.While at x fs) b = record { rows = test_rows scope x ++ all_rows fs true; item = while_of (test scope x) (block fs true) }
stmt_step scope result (Stmt-F.Do at fs x) b = record { rows = all_rows fs true ++ test_rows scope x; item = do_of (block fs true) (test scope x) }
stmt_step scope result (Stmt-F.For at first x step fs) b =
    record {
      rows = maybe_simple_rows scope first ++ (maybe_test_rows scope x ++ (maybe_simple_rows scope step ++ all_rows fs true));
      item = for_of (maybe_simple scope first) (maybe_test scope x) (maybe_simple scope step) (block fs true);
    }

abbrev pub arm_step : Visible → Arm-F (Found Statement) (Found TypedArm) → Found TypedArm
arm_step scope y b = record { rows = test_rows scope y.test ++ all_rows y.body b; item = arm_of (test scope y.test) (block y.body b) }

-- what is found at a statement of a function whose result has this type
abbrev pub stmt_finding : Visible → Derived → Stmt → Found Statement
stmt_finding scope result = fold-Stmt (Found Statement) (Found TypedArm) (stmt_step scope result) (arm_step scope)

abbrev pub arm_finding : Visible → Derived → Arm → Found TypedArm
arm_finding scope result = fold-Arm (Found Statement) (Found TypedArm) (stmt_step scope result) (arm_step scope)

abbrev pub stmt_rows : Visible → Derived → Bool → Stmt → List Row
stmt_rows scope result b s = (stmt_finding scope result s b).rows

abbrev pub stmt_typed : Visible → Derived → Bool → Stmt → Option Statement
stmt_typed scope result b s = (stmt_finding scope result s b).item
