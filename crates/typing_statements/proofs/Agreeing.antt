-- A body that breaks no rule is typed, and one that breaks a rule is not.
use Rattle.std.proofs.Common.{◌≡◌, ℕ, Bool, true, false, cond, ◌==◌, List, [], ◌∷◌, ◌++◌, map, length, Option, Some, None, refl, sym, ap, subst, ◌∙◌, arith, rules}
use Rattle.std.specs.Option.{option_map, option_and_then}
use Rattle.std.proofs.lemmas.Bool.{false≢true, eqb-true}
use Rattle.block_mem.specs.declared.value.Width.{Width}
use Rattle.typing_faults.specs.declared.fault.Row.{Row}
use Rattle.typing_faults.specs.declared.fault.TypeKind.TheVariants as kind
use Rattle.text_grammar.specs.declared.tree.Expr.{Expr}
use Rattle.text_grammar.specs.declared.tree.Call.{Call}
use Rattle.text_grammar.specs.declared.tree.AssignedValue.{AssignedValue}
use Rattle.text_grammar.specs.declared.tree.AssignedValue.TheVariants as right
use Rattle.text_grammar.specs.declared.tree.Simple.{Simple}
use Rattle.text_grammar.specs.declared.tree.Simple.TheVariants as act
use Rattle.text_grammar.specs.declared.tree.Stmt.{Stmt}
use Rattle.text_grammar.specs.declared.tree.Stmt.TheOpen.{Stmt-F, Arm-F}
use Rattle.text_grammar.specs.declared.tree.Stmt.TheFolds.{map-Stmt, map-Arm, fold-roll-Stmt, fold-roll-Arm, ind-Stmt}
use Rattle.text_grammar.specs.declared.tree.Arm.{Arm}
use Rattle.typing_types.specs.Types.{Derived}
use Rattle.typing_types.specs.Operators.{is_void}
use Rattle.typing_types.specs.Meant.{width_of}
use Rattle.typing_scopes.specs.declared.entity.Entity.{Entity}
use Rattle.typing_scopes.specs.declared.entity.Entity.TheVariants as entity
use Rattle.typing_scopes.specs.declared.entity.Prototype.{Prototype}
use Rattle.typing_scopes.specs.Visible.{Visible}
use Rattle.typing_scopes.specs.Names.{entity_of}
use Rattle.clight_unit.specs.declared.statement.Target.{Target}
use Rattle.clight_unit.specs.declared.statement.Value.{Value}
use Rattle.clight_unit.specs.declared.statement.Statement.{Statement}
use Rattle.clight_unit.specs.declared.statement.Statement.TheVariants as statement
use Rattle.clight_unit.specs.declared.statement.Simple.TheVariants as simple_is
use Rattle.clight_unit.specs.declared.statement.Arm.{Arm as TypedArm}
use Rattle.typing_expressions.specs.declared.node.Form.{Form}
use Rattle.typing_expressions.specs.declared.node.Form.TheVariants as form
use Rattle.typing_expressions.specs.declared.node.Node.{Node}
use Rattle.typing_expressions.specs.Judgements.{agrees}
use Rattle.typing_expressions.specs.Expressions.{rows, node_of}
use Rattle.typing_expressions.specs.Uses.{target_at, target_of}
use Rattle.typing_statements.specs.declared.calls.Called.{Called}
use Rattle.typing_statements.specs.Gathering.{with_next, row, kind_unless, converted, converted_rows, condition, condition_rows}
use Rattle.typing_expressions.specs.Places.{text_place}
use Rattle.typing_statements.specs.Calls.{prototype_at, callee_rows, count_rows, parameters_of, arguments, arguments_rows, with_arguments, called_as, called, call_rows, callee, result_type}
use Rattle.typing_statements.specs.Assignments.{place_rows, target_rows, takes_result, result_rows, assign, assignment_to, call_into, result_to, call_to, call_alone, assigned_simple, simple, value_rows, simple_rows}
use Rattle.typing_statements.specs.Statements.{Found, all_rows, all_items, block, test, test_rows, maybe_test, maybe_test_rows, maybe_simple, maybe_simple_rows, return_rows, returned, leaving, stmt_step, arm_step, stmt_finding, arm_finding}

-- Options.

abbrev Fits : {A : Type 0} → List Row → Option A → Type 0
Fits rs x = agrees rs x ≡ true

mapped : {A B : Type 0} (rs : List Row) (x : Option A) (f : A → B) → Fits rs x → Fits rs (option_map f x)
mapped [] (Some x) f h = refl
mapped [] None f h = absurd (false≢true h)
mapped (r ∷ rs) (Some x) f h = absurd (false≢true h)
mapped (r ∷ rs) None f h = refl

after : {A B : Type 0} (rs ss : List Row) (x : Option A) (f : A → Option B) → Fits rs x → ((y : A) → Fits ss (f y)) → Fits (rs ++ ss) (option_and_then f x)
after [] ss (Some x) f h g = g x
after [] ss None f h g = absurd (false≢true h)
after (r ∷ rs) ss (Some x) f h g = absurd (false≢true h)
after (r ∷ rs) ss None f h g = refl

unless : {A : Type 0} (at : ℕ) (x : Option A) → Fits (kind_unless at x) x
unless at (Some x) = refl
unless at None = refl

-- both, the second asked first
turned : {A B C : Type 0} (rs ss : List Row) (x : Option A) (y : Option B) (f : B → A → C) → Fits rs x → Fits ss y → Fits (rs ++ ss) (option_and_then (λ b. option_map (f b) x) y)
turned [] ss (Some x) y f h g = after_same ss y (λ b. f b x) g
  where
    after_same : {B C : Type 0} (ss : List Row) (y : Option B) (k : B → C) → Fits ss y → Fits ss (option_and_then (λ b. Some (k b)) y)
    after_same [] (Some y) k g = refl
    after_same [] None k g = absurd (false≢true g)
    after_same (s ∷ ss) (Some y) k g = absurd (false≢true g)
    after_same (s ∷ ss) None k g = refl
turned [] ss None y f h g = absurd (false≢true h)
turned (r ∷ rs) ss (Some x) y f h g = absurd (false≢true h)
turned (r ∷ rs) ss None (Some y) f h g = refl
turned (r ∷ rs) ss None None f h g = refl

-- Lists.

none_stays : {A : Type 0} (fs : List (Found A)) (b : Bool) → all_items None fs b ≡ None
none_stays [] b = refl
none_stays (f ∷ fs) b = none_stays fs b

next : {A : Type 0} (rs : List Row) (x : Option A) (out : List A) (fs : List (Found A)) (b : Bool) → Fits rs x → ((o : List A) → Fits (all_rows fs b) (all_items (Some o) fs b)) → Fits (rs ++ all_rows fs b) (all_items (with_next (Some out) x) fs b)
next [] (Some x) out fs b h g = g (out ++ x ∷ [])
next [] None out fs b h g = absurd (false≢true h)
next (r ∷ rs) (Some x) out fs b h g = absurd (false≢true h)
next (r ∷ rs) None out fs b h g = ap (agrees (r ∷ (rs ++ all_rows fs b))) (none_stays fs b)

abbrev Holds : {A : Type 0} → Found A → Type 0
Holds f = (b : Bool) → Fits (f b).rows (f b).item

listed : {S A : Type 0} (F : S → Found A) (ys : List ((s : S) × Holds (F s))) (b : Bool) (out : List A) → Fits (all_rows (map F (map (λ (e : (s : S) × Holds (F s)). e.0) ys)) b) (all_items (Some out) (map F (map (λ (e : (s : S) × Holds (F s)). e.0) ys)) b)
listed {S = S} F [] b out = refl
listed {S = S} F (y ∷ ys) b out = next (F y.0 b).rows (F y.0 b).item out (map F (map (λ (e : (s : S) × Holds (F s)). e.0) ys)) b (y.1 b) (λ o. listed F ys b o)

each : {S A : Type 0} (F : S → Found A) → ((s : S) → Holds (F s)) → (xs : List S) (b : Bool) (out : List A) → Fits (all_rows (map F xs) b) (all_items (Some out) (map F xs) b)
each F h [] b out = refl
each F h (x ∷ xs) b out = next (F x b).rows (F x b).item out (map F xs) b (h x b) (λ o. each F h xs b o)

-- Expressions.

abbrev Typed : Type 0
Typed = (scope : Visible) (e : Expr) → Fits (rows scope e) (node_of scope e)

is_converted : (rs : List Row) (n : Option Node) (at : ℕ) (to : Derived) → Fits rs n → Fits (rs ++ converted_rows at to n) (converted to n)
is_converted rs n at to h = by rs n h
  where
    by : (rs : List Row) (n : Option Node) → Fits rs n → Fits (rs ++ converted_rows at to n) (converted to n)
    by [] (Some n) h = unless at (converted to (Some n))
    by [] None h = absurd (false≢true h)
    by (r ∷ rs) (Some n) h = absurd (false≢true h)
    by (r ∷ rs) None h = refl

is_tested : (rs : List Row) (n : Option Node) (at : ℕ) → Fits rs n → Fits (rs ++ condition_rows at n) (condition n)
is_tested [] (Some n) at h = unless at (condition (Some n))
is_tested [] None at h = absurd (false≢true h)
is_tested (r ∷ rs) (Some n) at h = absurd (false≢true h)
is_tested (r ∷ rs) None at h = refl

-- Calls.

no_arguments : (scope : Visible) (ps : List Derived) (es : List Expr) → arguments scope None ps es ≡ None
no_arguments scope ps [] = refl
no_arguments scope [] (e ∷ es) = no_arguments scope [] es
no_arguments scope (p ∷ ps) (e ∷ es) = no_arguments scope ps es

next_argument : (scope : Visible) (rs : List Row) (x : Option Value) (out : List Value) (ps : List Derived) (es : List Expr) → Fits rs x → ((o : List Value) → Fits (arguments_rows scope ps es) (arguments scope (Some o) ps es)) → Fits (rs ++ arguments_rows scope ps es) (arguments scope (with_next (Some out) x) ps es)
next_argument scope [] (Some x) out ps es h g = g (out ++ x ∷ [])
next_argument scope [] None out ps es h g = absurd (false≢true h)
next_argument scope (r ∷ rs) (Some x) out ps es h g = absurd (false≢true h)
next_argument scope (r ∷ rs) None out ps es h g = ap (agrees (r ∷ (rs ++ arguments_rows scope ps es))) (no_arguments scope ps es)

all_arguments : Typed → (scope : Visible) (ps : List Derived) (es : List Expr) (out : List Value) → length ps ≡ length es → Fits (arguments_rows scope ps es) (arguments scope (Some out) ps es)
all_arguments t scope [] [] out h = refl
all_arguments t scope [] (e ∷ es) out h = absurd (omega (arith, h))
all_arguments t scope (p ∷ ps) [] out h = absurd (omega (arith, h))
all_arguments t scope (p ∷ ps) (e ∷ es) out h =
    next_argument scope (rows scope e ++ converted_rows (text_place e) p (node_of scope e)) (converted p (node_of scope e)) out ps es
    (is_converted (rows scope e) (node_of scope e) (text_place e) p (t scope e)) (λ o. all_arguments t scope ps es o (omega (arith, h)))

abbrev the_call : Prototype → List Value → Called
the_call f vs = record { callee = f.symbol; arguments = vs }

with_count : (at n : ℕ) (f : Prototype) (rs : List Row) (vs : Option (List Value)) (b : Bool) → (length f.parameters == n) ≡ b → (b ≡ true → Fits rs vs) → Fits (count_rows at n (Some f) ++ rs) (with_arguments n f vs)
with_count at n f rs (Some vs) true e h =
    subst (λ (z : Bool). Fits (cond z [] (row kind.Count at) ++ rs) (cond z (Some (the_call f vs)) None)) (sym e) (mapped rs (Some vs) (the_call f) (h refl))
with_count at n f rs None true e h = subst (λ (z : Bool). Fits {A = Called} (cond z [] (row kind.Count at) ++ rs) None) (sym e) (mapped rs None (the_call f) (h refl))
with_count at n f rs (Some vs) false e h = subst (λ (z : Bool). Fits (cond z [] (row kind.Count at) ++ rs) (cond z (Some (the_call f vs)) None)) (sym e) refl
with_count at n f rs None false e h = subst (λ (z : Bool). Fits {A = Called} (cond z [] (row kind.Count at) ++ rs) None) (sym e) refl

function_called : Typed → (scope : Visible) (at : ℕ) (es : List Expr) (f : Prototype) (b : Bool) → (length f.parameters == length es) ≡ b → Fits (count_rows at (length es) (Some f) ++ arguments_rows scope f.parameters es) (called_as (Some f) (length es) (arguments scope (Some []) f.parameters es))
function_called t scope at es f b e =
    with_count at (length es) f (arguments_rows scope f.parameters es) (arguments scope (Some []) f.parameters es) b e
    (λ h. all_arguments t scope f.parameters es [] (eqb-true (length f.parameters) (length es) (e ∙ h)))

call_at : Typed → (scope : Visible) (at : ℕ) (es : List Expr) (x : Option Entity) → Fits (callee_rows at x ++ (count_rows at (length es) (prototype_at x) ++ arguments_rows scope (parameters_of (prototype_at x)) es)) (called_as (prototype_at x) (length es) (arguments scope (Some []) (parameters_of (prototype_at x)) es))
call_at t scope at es None = refl
call_at t scope at es (Some (entity.Temporary n c)) = refl
call_at t scope at es (Some (entity.Local n c)) = refl
call_at t scope at es (Some (entity.Object n c)) = refl
call_at t scope at es (Some (entity.Function f)) = function_called t scope at es f (length f.parameters == length es) refl

is_called : Typed → (scope : Visible) (c : Call) → Fits (call_rows scope c) (called scope c)
is_called t scope c = call_at t scope c.name.at c.arguments (entity_of scope c.name.bytes)

-- Assignments.

target_by : (at : ℕ) (f : Form) (w : Option Width) → Fits (place_rows at f ++ kind_unless at w) (option_and_then (target_at f) w)
target_by at (form.Value x) (Some w) = refl
target_by at (form.Value x) None = refl
target_by at (form.Temporary n) (Some w) = refl
target_by at (form.Temporary n) None = refl
target_by at (form.Place p) (Some w) = refl
target_by at (form.Place p) None = refl

assigning : (rs ss : List Row) (x : Option Target) (v : Option Value) → Fits rs x → Fits ss v → Fits (rs ++ ss) (assign x v)
assigning [] [] (Some x) (Some v) h g = refl
assigning [] (s ∷ ss) (Some x) None h g = refl
assigning [] [] (Some x) None h g = absurd (false≢true g)
assigning [] (s ∷ ss) (Some x) (Some v) h g = absurd (false≢true g)
assigning [] ss None v h g = absurd (false≢true h)
assigning (r ∷ rs) ss (Some x) v h g = absurd (false≢true h)
assigning (r ∷ rs) ss None v h g = refl

into : (rs ss : List Row) (to : Derived) (x : Option Target) (c : Option Called) → Fits rs x → Fits ss c → Fits (rs ++ ss) (call_into to x c)
into [] [] to (Some x) (Some c) h g = refl
into [] (s ∷ ss) to (Some x) None h g = refl
into [] [] to (Some x) None h g = absurd (false≢true g)
into [] (s ∷ ss) to (Some x) (Some c) h g = absurd (false≢true g)
into [] ss to None c h g = absurd (false≢true h)
into (r ∷ rs) ss to (Some x) c h g = absurd (false≢true h)
into (r ∷ rs) ss to None c h g = refl

some_row : (A : Type 0) (rs ss : List Row) (r : Row) → Fits {A = A} (rs ++ (ss ++ r ∷ [])) None
some_row A [] [] r = refl
some_row A [] (s ∷ ss) r = refl
some_row A (q ∷ rs) ss r = refl

without_rows : (rs ss : List Row) → rs ++ (ss ++ []) ≡ rs ++ ss
without_rows [] [] = refl
without_rows [] (s ∷ ss) = ap (λ ts. s ∷ ts) (without_rows [] ss)
without_rows (r ∷ rs) ss = ap (λ ts. r ∷ ts) (without_rows rs ss)

result_by : (at : ℕ) (rs ss : List Row) (n : Node) (t : Derived) (c : Option Called) (b : Bool) → takes_result n.ctype t ≡ b → Fits rs (target_of n) → Fits ss c → Fits (rs ++ (ss ++ result_rows at (Some n) (Some t))) (result_to c n t)
result_by at rs ss n t c true e h g =
    subst (λ (z : Bool). Fits (rs ++ (ss ++ cond z [] (row kind.Kind at))) (cond z (call_into n.ctype (target_of n) c) None)) (sym e)
    (subst (λ (ts : List Row). Fits ts (call_into n.ctype (target_of n) c)) (sym (without_rows rs ss)) (into rs ss n.ctype (target_of n) c h g))
result_by at rs ss n t c false e h g =
    subst (λ (z : Bool). Fits (rs ++ (ss ++ cond z [] (row kind.Kind at))) (cond z (call_into n.ctype (target_of n) c) None)) (sym e)
    (some_row _ rs ss (record { kind = kind.Kind; at = at }))

-- a call of nothing that is declared breaks a rule already
undeclared : (at : ℕ) (rs ss : List Row) (n : Node) (c : Option Called) → c ≡ None → Fits ss c → Fits (rs ++ (ss ++ result_rows at (Some n) None)) (call_to (Some n) None c)
undeclared at rs ss n c e g = by rs ss (subst (λ (z : Option Called). Fits ss z) e g)
  where
    by : (rs ss : List Row) → Fits {A = Called} ss None → Fits (rs ++ (ss ++ [])) (call_to (Some n) None c)
    by [] [] h = absurd (false≢true h)
    by [] (s ∷ ss) h = refl
    by (r ∷ rs) ss h = refl

result_at : (at : ℕ) (rs ss : List Row) (n : Node) (t : Option Derived) (c : Option Called) → (t ≡ None → c ≡ None) → Fits rs (target_of n) → Fits ss c → Fits (rs ++ (ss ++ result_rows at (Some n) t)) (call_to (Some n) t c)
result_at at rs ss n None c u h g = undeclared at rs ss n c (u refl) g
result_at at rs ss n (Some t) c u h g = result_by at rs ss n t c (takes_result n.ctype t) refl h g

no_result : (f : Option Prototype) (k : ℕ) (vs : Option (List Value)) → option_map (λ (p : Prototype). p.result) f ≡ None → called_as f k vs ≡ None
no_result None k vs e = refl
no_result (Some f) k vs e = absurd (search (rules, e))

assigned_by : Typed → (scope : Visible) (at : ℕ) (rs : List Row) (n : Option Node) (v : AssignedValue) → Fits rs n → Fits (rs ++ (target_rows at n ++ value_rows scope at n v)) (assigned_simple scope n v)
assigned_by t scope at [] None v h = absurd (false≢true h)
assigned_by t scope at (r ∷ rs) (Some n) v h = absurd (false≢true h)
assigned_by t scope at (r ∷ rs) None (right.Expr x) h = refl
assigned_by t scope at (r ∷ rs) None (right.Call c) h = refl
assigned_by t scope at [] (Some n) (right.Expr x) h =
    mapped _ (assignment_to (node_of scope x) n) (λ a. simple_is.Assign a)
    (assigning (target_rows at (Some n)) (rows scope x ++ converted_rows at n.ctype (node_of scope x)) (target_of n) (converted n.ctype (node_of scope x))
    (target_by at n.form (width_of n.ctype)) (is_converted (rows scope x) (node_of scope x) at n.ctype (t scope x)))
assigned_by t scope at [] (Some n) (right.Call c) h =
    mapped _ (call_to (Some n) (result_type scope c) (called scope c)) (λ a. simple_is.Call a)
    (result_at at (target_rows at (Some n)) (call_rows scope c) n (result_type scope c) (called scope c)
    (no_result (callee scope c) (length c.arguments) (arguments scope (Some []) (parameters_of (callee scope c)) c.arguments))
    (target_by at n.form (width_of n.ctype)) (is_called t scope c))

is_simple : Typed → (scope : Visible) (x : Simple) → Fits (simple_rows scope x) (simple scope x)
is_simple t scope (act.Call c) = mapped (call_rows scope c) (called scope c) (λ a. simple_is.Call (call_alone a)) (is_called t scope c)
is_simple t scope (act.Assign at left v) = assigned_by t scope at (rows scope left) (node_of scope left) v (t scope left)

-- Statements.

is_test : Typed → (scope : Visible) (x : Expr) → Fits (test_rows scope x) (test scope x)
is_test t scope x = is_tested (rows scope x) (node_of scope x) (text_place x) (t scope x)

is_maybe_test : Typed → (scope : Visible) (x : Option Expr) → Fits (maybe_test_rows scope x) (maybe_test scope x)
is_maybe_test t scope None = refl
is_maybe_test t scope (Some x) = mapped (test_rows scope x) (test scope x) (λ y. Some y) (is_test t scope x)

is_maybe_simple : Typed → (scope : Visible) (x : Option Simple) → Fits (maybe_simple_rows scope x) (maybe_simple scope x)
is_maybe_simple t scope None = refl
is_maybe_simple t scope (Some x) = mapped (simple_rows scope x) (simple scope x) (λ y. Some y) (is_simple t scope x)

returned_by : (at : ℕ) (b : Bool) → Fits (cond b [] (row kind.Kind at)) (cond b (Some (statement.Return None)) None)
returned_by at true = refl
returned_by at false = refl

is_returned : Typed → (scope : Visible) (result : Derived) (at : ℕ) (x : Option Expr) → Fits (return_rows scope result at x) (returned scope result x)
is_returned t scope result at None = returned_by at (is_void result)
is_returned t scope result at (Some x) =
    mapped (rows scope x ++ converted_rows at result (node_of scope x)) (converted result (node_of scope x)) (λ v. statement.Return (Some v))
    (is_converted (rows scope x) (node_of scope x) at result (t scope x))

left_by : (b : Bool) (at : ℕ) (s : Statement) → Fits (leaving b at s).rows (leaving b at s).item
left_by true at s = refl
left_by false at s = refl

abbrev AStatement : Visible → Derived → Type 0
AStatement scope result = (s : Stmt) × Holds (stmt_finding scope result s)

abbrev AnArm : Visible → Derived → Type 0
AnArm scope result = (a : Arm) × Holds (arm_finding scope result a)

abbrev found_in : Visible → Derived → Stmt-F Stmt Arm → Stmt-F (Found Statement) (Found TypedArm)
found_in scope result = map-Stmt Stmt Arm (Found Statement) (Found TypedArm) (stmt_finding scope result) (arm_finding scope result)

abbrev found_in_arm : Visible → Derived → Arm-F Stmt Arm → Arm-F (Found Statement) (Found TypedArm)
found_in_arm scope result = map-Arm Stmt Arm (Found Statement) (Found TypedArm) (stmt_finding scope result) (arm_finding scope result)

abbrev parts_of : (scope : Visible) (result : Derived) → Stmt-F (AStatement scope result) (AnArm scope result) → Stmt-F Stmt Arm
parts_of scope result = map-Stmt (AStatement scope result) (AnArm scope result) Stmt Arm (λ (e : AStatement scope result). e.0) (λ (e : AnArm scope result). e.0)

abbrev parts_of_arm : (scope : Visible) (result : Derived) → Arm-F (AStatement scope result) (AnArm scope result) → Arm-F Stmt Arm
parts_of_arm scope result = map-Arm (AStatement scope result) (AnArm scope result) Stmt Arm (λ (e : AStatement scope result). e.0) (λ (e : AnArm scope result). e.0)

listed_statements : (scope : Visible) (result : Derived) (ys : List (AStatement scope result)) (b : Bool) → Fits (all_rows (map (stmt_finding scope result) (map (λ (e : AStatement scope result). e.0) ys)) b) (block (map (stmt_finding scope result) (map (λ (e : AStatement scope result). e.0) ys)) b)
listed_statements scope result ys b = listed (stmt_finding scope result) ys b []

listed_arms : (scope : Visible) (result : Derived) (ys : List (AnArm scope result)) (b : Bool) → Fits (all_rows (map (arm_finding scope result) (map (λ (e : AnArm scope result). e.0) ys)) b) (block (map (arm_finding scope result) (map (λ (e : AnArm scope result). e.0) ys)) b)
listed_arms scope result ys b = listed (arm_finding scope result) ys b []

stmt_holds : Typed → (scope : Visible) (result : Derived) (y : Stmt-F (AStatement scope result) (AnArm scope result)) → Holds (stmt_step scope result (found_in scope result (parts_of scope result y)))
stmt_holds t scope result (Stmt-F.Empty at) b = refl
stmt_holds t scope result (Stmt-F.Block at ys) b = mapped _ _ (λ ss. statement.Block ss) (listed_statements scope result ys b)
stmt_holds t scope result (Stmt-F.Simple x) b = mapped (simple_rows scope x) (simple scope x) (λ s. statement.Simple s) (is_simple t scope x)
stmt_holds t scope result (Stmt-F.Return at x) b = is_returned t scope result at x
stmt_holds t scope result (Stmt-F.Break at) b = left_by b at statement.Break
stmt_holds t scope result (Stmt-F.Continue at) b = left_by b at statement.Continue
stmt_holds t scope result (Stmt-F.If arms None) b = after _ [] _ _ (listed_arms scope result arms b) (λ y. refl)
stmt_holds t scope result (Stmt-F.If arms (Some last)) b =
    after _ _ _ _ (listed_arms scope result arms b) (λ y. mapped _ _ (λ ss. statement.If y ss) (mapped _ _ (λ ss. Some ss) (listed_statements scope result last b)))
stmt_holds t scope result (Stmt-F.While at x ys) b =
    after (test_rows scope x) _ (test scope x) _ (is_test t scope x) (λ y. mapped _ _ (λ ss. statement.While y ss) (listed_statements scope result ys true))
stmt_holds t scope result (Stmt-F.Do at ys x) b = turned _ (test_rows scope x) _ (test scope x) (λ y ss. statement.Do ss y) (listed_statements scope result ys true) (is_test t scope x)
stmt_holds t scope result (Stmt-F.For at first x step ys) b =
    after (maybe_simple_rows scope first) _ (maybe_simple scope first) _ (is_maybe_simple t scope first) (λ f.
    after (maybe_test_rows scope x) _ (maybe_test scope x) _ (is_maybe_test t scope x) (λ y.
    after (maybe_simple_rows scope step) _ (maybe_simple scope step) _ (is_maybe_simple t scope step) (λ s.
    mapped _ _ (λ ss. statement.For f y s ss) (listed_statements scope result ys true))))

arm_holds : Typed → (scope : Visible) (result : Derived) (y : Arm-F (AStatement scope result) (AnArm scope result)) → Holds (arm_step scope (found_in_arm scope result (parts_of_arm scope result y)))
arm_holds t scope result y b =
    after (test_rows scope y.test) _ (test scope y.test) _ (is_test t scope y.test) (λ x. mapped _ _ (λ ss. record { test = x; body = ss }) (listed_statements scope result y.body b))

statement_holds : Typed → (scope : Visible) (result : Derived) (s : Stmt) → Holds (stmt_finding scope result s)
statement_holds t scope result = ind-Stmt (λ s. Holds (stmt_finding scope result s)) (λ a. Holds (arm_finding scope result a))
    (λ x y is. subst (λ (z : Found Statement). Holds z) (sym (fold-roll-Stmt (Found Statement) (Found TypedArm) (stmt_step scope result) (arm_step scope) x))
    (subst (λ z. Holds (stmt_step scope result (found_in scope result z))) is (stmt_holds t scope result y)))
    (λ x y is. subst (λ (z : Found TypedArm). Holds z) (sym (fold-roll-Arm (Found Statement) (Found TypedArm) (stmt_step scope result) (arm_step scope) x))
    (subst (λ z. Holds (arm_step scope (found_in_arm scope result z))) is (arm_holds t scope result y)))

pub bodies_agree : Typed → (scope : Visible) (result : Derived) (body : List Stmt) (b : Bool) → Fits (all_rows (map (stmt_finding scope result) body) b) (block (map (stmt_finding scope result) body) b)
bodies_agree t scope result body b = each (stmt_finding scope result) (statement_holds t scope result) body b []
