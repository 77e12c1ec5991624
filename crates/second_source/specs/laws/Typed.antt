-- What the bodies of the second form are in the typed unit, under what names mean there.
use Rattle.std.proofs.Common.{◌≡◌, ℕ, suc, ◌+◌, Bool, true, false, cond, List, [], ◌∷◌, ◌++◌, map, length, Option, Some, None, refl, sym, ap, ◌∙◌, subst, arith, append-nil, append_assoc}
use Rattle.std.specs.Prelude.{codes, All, Contains}
use Rattle.std.specs.Option.{option_map, option_and_then}
use Rattle.std.specs.List.{sum_by}
use Rattle.std.proofs.lemmas.List.Sums.{sum_by-cons}
use Rattle.std.proofs.lemmas.Option.{same_Some}
use Rattle.text_grammar.specs.declared.tree.Expr.{Expr}
use Rattle.text_grammar.specs.declared.tree.Expr.TheVariants as expr
use Rattle.text_grammar.specs.declared.tree.Expr.TheOpen.{Expr-F}
use Rattle.text_grammar.specs.declared.tree.Expr.TheFolds.{fold-roll-Expr}
use Rattle.text_grammar.specs.declared.tree.Call.{Call as CallTree}
use Rattle.text_grammar.specs.declared.tree.Simple.TheVariants as simple
use Rattle.text_grammar.specs.declared.tree.Stmt.{Stmt}
use Rattle.text_grammar.specs.declared.tree.Stmt.TheVariants as stmt
use Rattle.text_grammar.specs.declared.tree.Stmt.TheOpen.{Stmt-F}
use Rattle.text_grammar.specs.declared.tree.Stmt.TheFolds.{fold-roll-Stmt}
use Rattle.typing_types.specs.Operators.{int}
use Rattle.typing_symbols.specs.Names.{is_among}
use Rattle.typing_scopes.specs.declared.entity.Entity.{Entity}
use Rattle.typing_scopes.specs.declared.entity.Entity.TheVariants as entity
use Rattle.typing_scopes.specs.declared.entity.Prototype.{Prototype}
use Rattle.typing_scopes.specs.Visible.{Visible}
use Rattle.typing_scopes.specs.Names.{entity_of}
use Rattle.typing_nodes.specs.Nodes as nodes
use Rattle.clight_unit.specs.declared.statement.Statement.{Statement}
use Rattle.clight_unit.specs.declared.statement.Statement.TheVariants as typed
use Rattle.clight_unit.specs.declared.statement.Value.{Value}
use Rattle.clight_unit.specs.declared.statement.Arm.{Arm as TypedArm}
use Rattle.clight_unit.specs.declared.statement.Simple.TheVariants as typed_simple
use Rattle.typing_expressions.specs.Expressions.{Finding as ExprFinding, expr_step, node_of}
use Rattle.typing_declarations.specs.declared.whole.Whole.{Whole}
use Rattle.typing_declarations.specs.Whole.{symbol_of, putbyte_of}
use Rattle.typing_statements.specs.declared.calls.Called.{Called}
use Rattle.typing_statements.specs.Gathering.{with_next, converted}
use Rattle.typing_statements.specs.Calls.{prototype_at, parameters_of, arguments, called_as, called}
use Rattle.typing_statements.specs.Assignments.{call_alone}
use Rattle.typing_statements.specs.Statements.{Found, all_items, stmt_step, arm_step, stmt_finding, returned}
use Rattle.typing_bodies.specs.Functions.{body_of}
use Rattle.second_form.specs.declared.second_items.SmallStmt.{SmallStmt}
use Rattle.second_form.specs.declared.second_items.SmallStmt.TheVariants.{Put, Call, Return}
use Rattle.second_form.specs.SecondForm.{all_of, statement_of, reserved_words, CallsName}
use Rattle.second_form.specs.SecondRun.{nodes_of}
use Rattle.second_runs.specs.Mirrors.{number, call}
use Rattle.second_symbols.specs.Shapes.{IsNumber, IsCall, HasShape, shape_of}

-- What names mean: `putbyte`, and the functions that are declared

-- `int f(void)`
abbrev pub plain_function : Whole → List ℕ → Prototype
plain_function whole name = record { symbol = symbol_of whole name; result = int; parameters = [] }

pub record Knows (whole : Whole) (done : List (List ℕ)) (scope : Visible) : Type 0 where
  pub own : scope.own ≡ []
  pub putbyte : entity_of scope (codes "putbyte") ≡ Some (entity.Function (putbyte_of whole))
  pub others : (name : List ℕ) → ¬ Contains reserved_words name → entity_of scope name ≡ cond (is_among name done) (Some (entity.Function (plain_function whole name))) None

-- What statements are

abbrev pub TypedAs : Whole → List (List ℕ) → SmallStmt → Statement → Type 0
TypedAs whole done (Put n) s = s ≡ call (symbol_of whole (codes "putbyte")) (number n ∷ [])
TypedAs whole done (Call name) s = (is_among name done ≡ true) × (s ≡ call (symbol_of whole name) [])
TypedAs whole done (Return n) s = s ≡ typed.Return (Some (number n))

abbrev pub AllTypedAs : Whole → List (List ℕ) → List SmallStmt → List Statement → Type 0
AllTypedAs whole done [] ts = ts ≡ []
AllTypedAs whole done (s ∷ ss) [] = ⊥
AllTypedAs whole done (s ∷ ss) (t ∷ ts) = TypedAs whole done s t × AllTypedAs whole done ss ts

number_value : (scope : Visible) (x : Expr) (n : ℕ) → IsNumber x n → converted int (node_of scope x) ≡ Some (number n)
number_value scope x n h =
    ap (λ x. converted int (node_of scope x)) (h.is ∙ sym (expr.rolls-Number h.at n false))
    ∙ ap (λ (f : ExprFinding). converted int f.node) (fold-roll-Expr ExprFinding (expr_step scope) (Expr-F.Number h.at n false))

module _ (whole : Whole) (done : List (List ℕ)) (scope : Visible) (knows : Knows whole done scope) where
  simple_item : (c : CallTree) → (stmt_finding scope int (stmt.Simple (simple.Call c)) false).item ≡ option_map (λ (a : Called). typed.Simple (typed_simple.Call (call_alone a))) (called scope c)
  simple_item c =
      ap (λ s. (stmt_finding scope int s false).item) (sym (stmt.rolls-Simple (simple.Call c)))
      ∙ ap (λ (f : Found Statement). (f false).item) (fold-roll-Stmt (Found Statement) (Found TypedArm) (stmt_step scope int) (arm_step scope) (Stmt-F.Simple (simple.Call c)))
      ∙ twice (called scope c)
    where
      twice : (a : Option Called) → option_map (λ s. typed.Simple s) (option_map (λ (a : Called). typed_simple.Call (call_alone a)) a) ≡ option_map (λ (a : Called). typed.Simple (typed_simple.Call (call_alone a))) a
      twice None = refl
      twice (Some a) = refl

  return_item : (at : ℕ) (x : Expr) → (stmt_finding scope int (stmt.Return at (Some x)) false).item ≡ returned scope int (Some x)
  return_item at x =
      ap (λ s. (stmt_finding scope int s false).item) (sym (stmt.rolls-Return at (Some x)))
      ∙ ap (λ (f : Found Statement). (f false).item) (fold-roll-Stmt (Found Statement) (Found TypedArm) (stmt_step scope int) (arm_step scope) (Stmt-F.Return at (Some x)))

  -- a call of what the name means
  called_with : (c : CallTree) (name : List ℕ) (es : List Expr) (o : Option Entity) → c.name.bytes ≡ name → c.arguments ≡ es → entity_of scope name ≡ o
      → called scope c ≡ called_as (prototype_at o) (length es) (arguments scope (Some []) (parameters_of (prototype_at o)) es)
  called_with c name es o named are e =
      ap (λ f. called_as f (length c.arguments) (arguments scope (Some []) (parameters_of f) c.arguments)) (ap (λ n. prototype_at (entity_of scope n)) named ∙ ap prototype_at e)
      ∙ ap (λ es. called_as (prototype_at o) (length es) (arguments scope (Some []) (parameters_of (prototype_at o)) es)) are

  put_is : (s : Stmt) (x : Expr) (n : ℕ) → IsNumber x n → IsCall s (codes "putbyte") (x ∷ []) → (t : Statement) → (stmt_finding scope int s false).item ≡ Some t → TypedAs whole done (Put n) t
  put_is s x n is h t e =
      let calls : called scope h.c ≡ Some (record { callee = symbol_of whole (codes "putbyte"); arguments = number n ∷ [] }) =
      called_with h.c (codes "putbyte") (x ∷ []) (Some (entity.Function (putbyte_of whole))) h.named h.arguments knows.putbyte
      ∙ ap (λ v. called_as (Some (putbyte_of whole)) 1 (with_next (Some []) v)) (number_value scope x n is) in
      same_Some t (call (symbol_of whole (codes "putbyte")) (number n ∷ []))
      (sym e ∙ ap (λ s. (stmt_finding scope int s false).item) h.is ∙ simple_item h.c ∙ ap (λ a. option_map (λ (a : Called). typed.Simple (typed_simple.Call (call_alone a))) a) calls)

  call_is : (s : Stmt) (name : List ℕ) → IsCall s name [] → ¬ Contains reserved_words name → (t : Statement) → (stmt_finding scope int s false).item ≡ Some t → TypedAs whole done (Call name) t
  call_is s name h free t e = by (is_among name done) refl
    where
      item : (stmt_finding scope int s false).item ≡ option_map (λ (a : Called). typed.Simple (typed_simple.Call (call_alone a))) (called scope h.c)
      item = ap (λ s. (stmt_finding scope int s false).item) h.is ∙ simple_item h.c

      by : (b : Bool) → is_among name done ≡ b → (is_among name done ≡ true) × (t ≡ call (symbol_of whole name) [])
      by true among =
          let means : entity_of scope name ≡ Some (entity.Function (plain_function whole name)) = knows.others name free ∙ ap (λ b. cond b (Some (entity.Function (plain_function whole name))) None) among in (
            among,
            same_Some t (call (symbol_of whole name) [])
                (sym e ∙ item ∙ ap (λ a. option_map (λ (a : Called). typed.Simple (typed_simple.Call (call_alone a))) a) (called_with h.c name [] (Some (entity.Function (plain_function whole name))) h.named h.arguments means)),
          )
      by false among =
          let means : entity_of scope name ≡ None = knows.others name free ∙ ap (λ b. cond b (Some (entity.Function (plain_function whole name))) None) among in
          let none : None ≡ Some t =
          sym (item ∙ ap (λ a. option_map (λ (a : Called). typed.Simple (typed_simple.Call (call_alone a))) a) (called_with h.c name [] None h.named h.arguments means)) ∙ e in
          cc

  return_is : (s : Stmt) (at : ℕ) (x : Expr) (n : ℕ) → IsNumber x n → s ≡ stmt.Return at (Some x) → (t : Statement) → (stmt_finding scope int s false).item ≡ Some t → TypedAs whole done (Return n) t
  return_is s at x n is same t e =
      same_Some t (typed.Return (Some (number n)))
      (sym e ∙ ap (λ s. (stmt_finding scope int s false).item) same ∙ return_item at x ∙ ap (λ v. option_map (λ (v : Value). typed.Return (Some v)) v) (number_value scope x n is))

  statement_is : (s : Stmt) (x : SmallStmt) → HasShape s x → CallsName x → (t : Statement) → (stmt_finding scope int s false).item ≡ Some t → TypedAs whole done x t
  statement_is s (Put n) h name t e = put_is s h.0 n h.1 h.2 t e
  statement_is s (Call n) h name t e = call_is s n h name.free t e
  statement_is s (Return n) h name t e = return_is s h.0 h.1 n h.2 h.3 t e

  -- The statements of a body

  pub record Gathered (ss : List SmallStmt) (out : Option (List Statement)) (total : List Statement) : Type 0 where
    pub before : List Statement
    pub later : List Statement
    pub began : out ≡ Some before
    pub whole_is : total ≡ before ++ later
    pub are : AllTypedAs whole done ss later

  one_more : (x : SmallStmt) (ss : List SmallStmt) (out : Option (List Statement)) (o : Option Statement) (all : List Statement)
      → ((t : Statement) → o ≡ Some t → TypedAs whole done x t) → Gathered ss (with_next out o) all → Gathered (x ∷ ss) out all
  one_more x ss None o all is h = let e = h.began in cc
  one_more x ss (Some before) None all is h = let e = h.began in cc
  one_more x ss (Some before) (Some t) all is h =
      let same : before ++ t ∷ [] ≡ h.before = same_Some (before ++ t ∷ []) h.before h.began in
      record {
        before = before;
        later = t ∷ h.later;
        began = refl;
        whole_is = h.whole_is ∙ ap (λ b. b ++ h.later) (sym same) ∙ append_assoc before (t ∷ []) h.later;
        are = (is t refl, h.are);
      }

  gathered_more : (s : Stmt) (body : List Stmt) (ss : List SmallStmt) → All CallsName ss → (out : Option (List Statement)) (all : List Statement)
      → ((more : List SmallStmt) → all_of statement_of body ≡ Some more → All CallsName more → Gathered more (with_next out (stmt_finding scope int s false).item) all)
      → (o : Option SmallStmt) → statement_of s ≡ o → (r : Option (List SmallStmt)) → all_of statement_of body ≡ r → option_and_then (λ y. option_map (λ ys. y ∷ ys) r) o ≡ Some ss → Gathered ss out all
  gathered_more s body ss names out all later None is r others are = cc
  gathered_more s body ss names out all later (Some x) is None others are = cc
  gathered_more s body ss names out all later (Some x) is (Some xs) others are =
      let same : ss ≡ x ∷ xs = cc in
      let named : All CallsName (x ∷ xs) = subst (All CallsName) same names in
      subst (λ ss. Gathered ss out all) (sym same)
      (one_more x xs out (stmt_finding scope int s false).item all (λ t is_t. statement_is s x (shape_of s x is) (named 0 x (omega arith)) t is_t)
      (later xs others (λ k d h. named (suc k) d (omega arith))))

  gathered : (body : List Stmt) (ss : List SmallStmt) → all_of statement_of body ≡ Some ss → All CallsName ss → (out : Option (List Statement)) (all : List Statement)
      → all_items out (map (stmt_finding scope int) body) false ≡ Some all → Gathered ss out all
  gathered [] ss are names out all e =
      let none : [] ≡ ss = cc in
      subst (λ ss. Gathered ss out all) none (record { before = all; later = []; began = e; whole_is = sym (append-nil all); are = refl })
  gathered (s ∷ body) ss are names out all e =
      gathered_more s body ss names out all (λ more others named. gathered body more others named (with_next out (stmt_finding scope int s false).item) all e) (statement_of s) refl (all_of statement_of body) refl are

  pub body_is : (body : List Stmt) (ss : List SmallStmt) → all_of statement_of body ≡ Some ss → All CallsName ss → (ts : List Statement) → body_of scope int body ≡ Some ts → AllTypedAs whole done ss ts
  body_is body ss are names ts e =
      let h = gathered body ss are names (Some []) ts e in
      let none : [] ≡ h.before = same_Some [] h.before h.began in
      subst (AllTypedAs whole done ss) (sym (h.whole_is ∙ ap (λ b. b ++ h.later) (sym none))) h.are

-- Nodes

number_nodes : (x : Expr) (n : ℕ) → IsNumber x n → nodes.expr_nodes x ≡ 1
number_nodes x n h = ap nodes.expr_nodes (h.is ∙ sym (expr.rolls-Number h.at n false)) ∙ fold-roll-Expr ℕ nodes.expr_step (Expr-F.Number h.at n false)

call_nodes : (s : Stmt) (name : List ℕ) (es : List Expr) → IsCall s name es → nodes.stmt_nodes s ≡ 1 + sum_by nodes.expr_nodes es
call_nodes s name es h =
    ap nodes.stmt_nodes (h.is ∙ sym (stmt.rolls-Simple (simple.Call h.c)))
    ∙ fold-roll-Stmt ℕ ℕ nodes.stmt_step nodes.arm_step (Stmt-F.Simple (simple.Call h.c))
    ∙ ap (λ es. 1 + sum_by nodes.expr_nodes es) h.arguments

one_number : (x : Expr) (n : ℕ) → IsNumber x n → sum_by nodes.expr_nodes (x ∷ []) ≡ 1
one_number x n h = sum_by-cons nodes.expr_nodes x [] ∙ ap (λ n. n + sum_by nodes.expr_nodes []) (number_nodes x n h)

return_nodes : (s : Stmt) (at : ℕ) (x : Expr) (n : ℕ) → IsNumber x n → s ≡ stmt.Return at (Some x) → nodes.stmt_nodes s ≡ 2
return_nodes s at x n h same =
    ap nodes.stmt_nodes (same ∙ sym (stmt.rolls-Return at (Some x)))
    ∙ fold-roll-Stmt ℕ ℕ nodes.stmt_step nodes.arm_step (Stmt-F.Return at (Some x))
    ∙ ap (λ n. 1 + n) (number_nodes x n h)

abbrev small_nodes : SmallStmt → ℕ
small_nodes (Put n) = 2
small_nodes (Call name) = 1
small_nodes (Return n) = 2

statement_nodes : (s : Stmt) (x : SmallStmt) → HasShape s x → nodes.stmt_nodes s ≡ small_nodes x
statement_nodes s (Put n) h = call_nodes s (codes "putbyte") (h.0 ∷ []) h.2 ∙ ap (λ n. 1 + n) (one_number h.0 n h.1)
statement_nodes s (Call name) h = call_nodes s name [] h
statement_nodes s (Return n) h = return_nodes s h.0 h.1 n h.2 h.3

more_nodes : (x : SmallStmt) (ss : List SmallStmt) (k : ℕ) → 1 + k ≡ nodes_of ss → 1 + (small_nodes x + k) ≡ nodes_of (x ∷ ss)
more_nodes (Put n) ss k e = omega (arith, e)
more_nodes (Call name) ss k e = omega (arith, e)
more_nodes (Return n) ss k e = omega (arith, e)

one_more_node : (s : Stmt) (body : List Stmt) (ss : List SmallStmt) → ((more : List SmallStmt) → all_of statement_of body ≡ Some more → 1 + sum_by nodes.stmt_nodes body ≡ nodes_of more)
    → (o : Option SmallStmt) → statement_of s ≡ o → (r : Option (List SmallStmt)) → all_of statement_of body ≡ r → option_and_then (λ y. option_map (λ ys. y ∷ ys) r) o ≡ Some ss
    → 1 + sum_by nodes.stmt_nodes (s ∷ body) ≡ nodes_of ss
one_more_node s body ss later None is r others are = cc
one_more_node s body ss later (Some x) is None others are = cc
one_more_node s body ss later (Some x) is (Some xs) others are =
    let same : x ∷ xs ≡ ss = cc in
    ap (λ n. 1 + n) (sum_by-cons nodes.stmt_nodes s body ∙ ap (λ n. n + sum_by nodes.stmt_nodes body) (statement_nodes s x (shape_of s x is)))
    ∙ more_nodes x xs (sum_by nodes.stmt_nodes body) (later xs others)
    ∙ ap nodes_of same

pub body_nodes : (body : List Stmt) (ss : List SmallStmt) → all_of statement_of body ≡ Some ss → 1 + sum_by nodes.stmt_nodes body ≡ nodes_of ss
body_nodes [] ss are = let none : [] ≡ ss = cc in ap nodes_of none
body_nodes (s ∷ body) ss are = one_more_node s body ss (body_nodes body) (statement_of s) refl (all_of statement_of body) refl are
