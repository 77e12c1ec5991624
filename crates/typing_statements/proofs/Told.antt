-- What is told of rows that are broken one after another, and of lists of which each item breaks some.
use Rattle.std.proofs.Common.{◌≡◌, ℕ, ◌+◌, ◌<◌, Bool, true, List, ◌∷◌, ◌++◌, map, length, get_or, drop, slice_get, Option, Some, sym, ap, ◌∙◌}
use Rattle.std.proofs.lemmas.List.{at_drop_more}
use Rattle.typing_faults.specs.declared.fault.Row.{Row}
use Rattle.typing_faults.specs.Faults.{told}
use Rattle.typing_faults.specs.laws.Faults.{told_append}
use Rattle.text_grammar.specs.declared.tree.Expr.{Expr}
use Rattle.text_grammar.specs.declared.tree.Simple.{Simple}
use Rattle.text_grammar.specs.declared.tree.Stmt.{Stmt}
use Rattle.text_grammar.specs.declared.tree.Stmt.TheVariants as stmt
use Rattle.text_grammar.specs.declared.tree.Stmt.TheOpen.{Stmt-F}
use Rattle.text_grammar.specs.declared.tree.Stmt.TheViews.{roll-Stmt}
use Rattle.text_grammar.specs.declared.tree.Stmt.TheFolds.{map-Stmt, fold-roll-Stmt, fold-roll-Arm}
use Rattle.text_grammar.specs.declared.tree.Arm.{Arm}
use Rattle.typing_types.specs.Types.{Derived}
use Rattle.typing_scopes.specs.Visible.{Visible}
use Rattle.clight_unit.specs.declared.statement.Value.{Value}
use Rattle.clight_unit.specs.declared.statement.Statement.{Statement}
use Rattle.clight_unit.specs.declared.statement.Arm.{Arm as TypedArm}
use Rattle.typing_expressions.specs.Expressions.{rows, node_of}
use Rattle.typing_expressions.specs.Places.{text_place}
use Rattle.typing_statements.specs.Gathering.{with_next}
use Rattle.typing_statements.specs.Calls.{argument, argument_rows, arguments, arguments_rows}
use Rattle.typing_statements.specs.Statements.{Found, all_rows, all_items, test_rows, maybe_test_rows, maybe_simple_rows, stmt_step, arm_step, stmt_finding, arm_finding}

pub told_two : (r s t : Option Row) (xs ys : List Row) → s ≡ told r xs → t ≡ told s ys → t ≡ told r (xs ++ ys)
told_two r s t xs ys e f = f ∙ ap (λ (z : Option Row). told z ys) e ∙ sym (told_append r xs ys)

pub told_three : (r s t u : Option Row) (xs ys zs : List Row) → s ≡ told r xs → t ≡ told s ys → u ≡ told t zs → u ≡ told r (xs ++ (ys ++ zs))
told_three r s t u xs ys zs e f g = told_two r s u xs (ys ++ zs) e (told_two s t u ys zs f g)

pub told_four : (r s t u v : Option Row) (xs ys zs ws : List Row) → s ≡ told r xs → t ≡ told s ys → u ≡ told t zs → v ≡ told u ws → v ≡ told r (xs ++ (ys ++ (zs ++ ws)))
told_four r s t u v xs ys zs ws e f g h = told_two r s v xs (ys ++ (zs ++ ws)) e (told_three s t u v ys zs ws f g h)

-- the item at an index is the first of those that are left there
left_at : {X Y : Type 0} (F : List X → Y) (xs : List X) (i : ℕ) (x : X) → i < length xs → x ≡ get_or xs i x → F (drop i xs) ≡ F (x ∷ drop (i + 1) xs)
left_at {X = X} F xs i x h e = at_drop_more F xs i x h ∙ ap (λ (z : X). F (z ∷ drop (i + 1) xs)) (sym e)

pub rows_left : {S A : Type 0} (F : S → Found A) (b : Bool) (xs : List S) (i : ℕ) (x : S) (r t : Option Row) → i < length xs → x ≡ get_or xs i x → t ≡ told r (F x b).rows → told t (all_rows (map F (drop (i + 1) xs)) b) ≡ told r (all_rows (map F (drop i xs)) b)
rows_left {S = S} F b xs i x r t h e p =
    ap (λ (z : Option Row). told z (all_rows (map F (drop (i + 1) xs)) b)) p
    ∙ sym (told_append r (F x b).rows (all_rows (map F (drop (i + 1) xs)) b))
    ∙ sym (left_at (λ (ys : List S). told r (all_rows (map F ys) b)) xs i x h e)

pub items_left : {S A : Type 0} (F : S → Found A) (b : Bool) (xs : List S) (i : ℕ) (x : S) (out : Option (List A)) → i < length xs → x ≡ get_or xs i x → all_items (with_next out (F x b).item) (map F (drop (i + 1) xs)) b ≡ all_items out (map F (drop i xs)) b
items_left {S = S} F b xs i x out h e = sym (left_at (λ (ys : List S). all_items out (map F ys) b) xs i x h e)

pub argument_rows_left : (scope : Visible) (ps : List Derived) (es : List Expr) (i : ℕ) (e : Expr) (r s t : Option Row) → i < length es → e ≡ get_or es i e → s ≡ told r (rows scope e) → t ≡ told s (argument_rows (text_place e) (slice_get ps 0) (node_of scope e)) → told t (arguments_rows scope (drop 1 ps) (drop (i + 1) es)) ≡ told r (arguments_rows scope ps (drop i es))
argument_rows_left scope ps es i e r s t h x p q =
    let here = rows scope e ++ argument_rows (text_place e) (slice_get ps 0) (node_of scope e) in
    let behind = arguments_rows scope (drop 1 ps) (drop (i + 1) es) in
    ap (λ (z : Option Row). told z behind) (told_two r s t (rows scope e) (argument_rows (text_place e) (slice_get ps 0) (node_of scope e)) p q)
    ∙ sym (told_append r here behind)
    ∙ sym (left_at (λ (ys : List Expr). told r (arguments_rows scope ps ys)) es i e h x)

pub arguments_left : (scope : Visible) (ps : List Derived) (es : List Expr) (i : ℕ) (e : Expr) (out : Option (List Value)) → i < length es → e ≡ get_or es i e → arguments scope (with_next out (argument (slice_get ps 0) (node_of scope e))) (drop 1 ps) (drop (i + 1) es) ≡ arguments scope out ps (drop i es)
arguments_left scope ps es i e out h x = sym (left_at (λ (ys : List Expr). arguments scope out ps ys) es i e h x)

-- The rows of statements, by their variants.

abbrev statements_of : Visible → Derived → List Stmt → List (Found Statement)
statements_of scope result body = map (stmt_finding scope result) body

rolled : (scope : Visible) (result : Derived) (b : Bool) (y : Stmt-F Stmt Arm) (z : Stmt) → roll-Stmt y ≡ z → (stmt_finding scope result z b).rows ≡ (stmt_step scope result (map-Stmt Stmt Arm (Found Statement) (Found TypedArm) (stmt_finding scope result) (arm_finding scope result) y) b).rows
rolled scope result b y z e =
    ap (λ (w : Stmt). (stmt_finding scope result w b).rows) (sym e)
    ∙ ap (λ (f : Found Statement). (f b).rows) (fold-roll-Stmt (Found Statement) (Found TypedArm) (stmt_step scope result) (arm_step scope) y)

pub rows_of_choice : (scope : Visible) (result : Derived) (b : Bool) (arms : List Arm) (o : Option (List Stmt)) (last : List Stmt) → o ≡ Some last → (stmt_finding scope result (stmt.If arms o) b).rows ≡ all_rows (map (arm_finding scope result) arms) b ++ all_rows (statements_of scope result last) b
rows_of_choice scope result b arms o last e =
    ap (λ (p : Option (List Stmt)). (stmt_finding scope result (stmt.If arms p) b).rows) e
    ∙ rolled scope result b (Stmt-F.If arms (Some last)) _ (stmt.rolls-If arms (Some last))

pub rows_of_while : (scope : Visible) (result : Derived) (b : Bool) (at : ℕ) (x : Expr) (body : List Stmt) → (stmt_finding scope result (stmt.While at x body) b).rows ≡ test_rows scope x ++ all_rows (statements_of scope result body) true
rows_of_while scope result b at x body = rolled scope result b (Stmt-F.While at x body) _ (stmt.rolls-While at x body)

pub rows_of_do : (scope : Visible) (result : Derived) (b : Bool) (at : ℕ) (body : List Stmt) (x : Expr) → (stmt_finding scope result (stmt.Do at body x) b).rows ≡ all_rows (statements_of scope result body) true ++ test_rows scope x
rows_of_do scope result b at body x = rolled scope result b (Stmt-F.Do at body x) _ (stmt.rolls-Do at body x)

pub rows_of_for : (scope : Visible) (result : Derived) (b : Bool) (at : ℕ) (first : Option Simple) (x : Option Expr) (step : Option Simple) (body : List Stmt) → (stmt_finding scope result (stmt.For at first x step body) b).rows ≡ maybe_simple_rows scope first ++ (maybe_test_rows scope x ++ (maybe_simple_rows scope step ++ all_rows (statements_of scope result body) true))
rows_of_for scope result b at first x step body = rolled scope result b (Stmt-F.For at first x step body) _ (stmt.rolls-For at first x step body)

pub rows_of_arm : (scope : Visible) (result : Derived) (b : Bool) (a : Arm) → (arm_finding scope result a b).rows ≡ test_rows scope a.test ++ all_rows (statements_of scope result a.body) b
rows_of_arm scope result b a =
    ap (λ (f : Found TypedArm). (f b).rows) (fold-roll-Arm (Found Statement) (Found TypedArm) (stmt_step scope result) (arm_step scope) (record { at = a.at; test = a.test; body = a.body }))
