-- What is a statement in the grammar is read as that statement.
use Rattle.std.proofs.Common.{◌≡◌, ◌<◌, List, [], ◌∷◌, ◌++◌, Option, Some, None, refl, sym, ap, ◌∙◌, arith, append_assoc, ◌⊎◌, inl, inr, Bool, true, false}
use Rattle.text_grammar.specs.declared.kind.Kind.{Kind}
use Rattle.text_grammar.specs.declared.kind.Kind.TheVariants as k
use Rattle.text_grammar.specs.declared.kind.Level.{Level}
use Rattle.text_grammar.specs.declared.kind.Level.TheVariants as level
use Rattle.text_grammar.specs.declared.tree.UnaryOp.{UnaryOp}
use Rattle.text_grammar.specs.declared.tree.Expr.{Expr}
use Rattle.text_grammar.specs.declared.tree.Expr.TheVariants as e
use Rattle.text_grammar.specs.declared.tree.Call.{Call as CallTree}
use Rattle.text_grammar.specs.declared.tree.AssignedValue.{AssignedValue}
use Rattle.text_grammar.specs.declared.tree.AssignedValue.TheVariants as value
use Rattle.text_grammar.specs.declared.tree.Simple.{Simple}
use Rattle.text_grammar.specs.declared.tree.Simple.TheVariants as act
use Rattle.text_grammar.specs.declared.tree.Stmt.{Stmt}
use Rattle.text_grammar.specs.declared.tree.Stmt.TheVariants as stmt
use Rattle.text_grammar.specs.declared.tree.Arm.{Arm}
use Rattle.text_grammar.specs.laws.SameKind.{same}
use Rattle.text_grammar.specs.Grammar.{name_at, arm, Symbol, prefix_of, operator_of}
use Rattle.text_grammar.specs.Grammar as g
use Rattle.text_grammar.specs.laws.Programs.{head, Out, Rule, Sort, Prog, PrimaryOf, After, Open, Plain, UnaryOf, OperandOf, ChainOf, Further, Ret, Fail, Call, try, expect, primary_literal, walk, Resume, ArgumentsOf, CallTail, ValueOf, SimpleOf, StatementOf, GuardedOf, Choice, BodyOf, StatementsOf, argument, call_of, call_close, call_first, value_named, value_plain, assigned, assign_rest, named_target, simple_named, simple, guard_body, guard_test, choice_arm, choice_last, choice_more, block_rest, return_value, return_rest, while_rest, do_end, do_test, do_rest, for_body, for_step_some, for_step, for_test_some, for_test, for_first_some, for_first, for_rest, break_rest, continue_rest, stmt_simple, stmt_for, stmt_do, stmt_while, stmt_if, stmt_continue, stmt_break, stmt_return, stmt_block, statements_more, resumed, runs, and_then, taken}
use Rattle.text_grammar.specs.laws.Same.{same_true, same_not}
use Rattle.text_grammar.specs.laws.ProgramWalks.{runs_walk}
use Rattle.text_grammar.specs.laws.ProgramSteps.{taken_some, not_taken, other, try_take, try_no, try_other, expect_take, call_ok, call_last}
use Rattle.text_grammar.specs.laws.ExpressionsRead.{alone, none_some, true_false, next_binds, binds, closes, after_ends, further_ends, unary_complete, complete}

-- What an expression begins with.

abbrev pub starter : Kind → Bool
starter k.Id = true
starter k.Num = true
starter k.Char = true
starter k.LParen = true
starter k.Minus = true
starter k.Tilde = true
starter k.Bang = true
starter k.Star = true
starter k.And = true
starter k.KwSizeof = true
starter _ = false

abbrev pub starts : Option Symbol → Bool
starts None = false
starts (Some x) = starter x.kind

-- a kind that begins no expression is not the kind that begins one
not_starter : (c kind : Kind) → starter c ≡ false → starter kind ≡ true → same c kind ≡ false
not_starter c kind n h = same_not c kind (λ e. true_false (sym h ∙ ap starter (sym e) ∙ n))

pub no_starter : (c : Kind) (ts : List Symbol) → starter c ≡ false → starts (head ts) ≡ true → taken c (head ts) ≡ None
no_starter c [] n h = refl
no_starter c (x ∷ ts) n h = not_taken c x (not_starter c x.kind n h)

prefix_starts : (kind : Kind) (op : UnaryOp) → prefix_of kind ≡ Some op → starter kind ≡ true
prefix_starts k.Minus op h = refl
prefix_starts k.Tilde op h = refl
prefix_starts k.Bang op h = refl
prefix_starts k.Star op h = refl
prefix_starts k.And op h = refl
prefix_starts _ op h = absurd (none_some h)

mutual
  postfix_starts : {a : List Symbol} {t : Expr} → g.Postfix a t → (r : List Symbol) → starts (head (a ++ r)) ≡ true
  postfix_starts (g.primary (g.name x h)) r = ap starter h
  postfix_starts (g.primary (g.number x h)) r = ap starter h
  postfix_starts (g.primary (g.character x h)) r = ap starter h
  postfix_starts (g.primary (g.parens x y h d h')) r = ap starter h
  postfix_starts (g.index x y {a = a} {c = c} d h d' h') r = ap (λ z. starts (head z)) (append_assoc a (x ∷ (c ++ y ∷ [])) r) ∙ postfix_starts d ((x ∷ (c ++ y ∷ [])) ++ r)
  postfix_starts (g.member x y {a = a} d h h') r = ap (λ z. starts (head z)) (append_assoc a (x ∷ y ∷ []) r) ∙ postfix_starts d ((x ∷ y ∷ []) ++ r)
  postfix_starts (g.arrow x y {a = a} d h h') r = ap (λ z. starts (head z)) (append_assoc a (x ∷ y ∷ []) r) ∙ postfix_starts d ((x ∷ y ∷ []) ++ r)

  pub unary_starts : {a : List Symbol} {t : Expr} → g.Unary a t → (r : List Symbol) → starts (head (a ++ r)) ≡ true
  unary_starts (g.uncast (g.postfix d)) r = postfix_starts d r
  unary_starts (g.uncast (g.prefix x op h d)) r = prefix_starts x.kind op h
  unary_starts (g.uncast (g.sizeof_type x y z h h' d h'')) r = ap starter h
  unary_starts (g.uncast (g.sizeof x h d)) r = ap starter h
  unary_starts (g.cast x y h d h' d') r = ap starter h

  operand_starts : {l : Level} {a : List Symbol} {t : Expr} → g.Operand l a t → (r : List Symbol) → starts (head (a ++ r)) ≡ true
  operand_starts (g.of_or d) r = chain_starts d r
  operand_starts (g.of_and d) r = chain_starts d r
  operand_starts (g.of_bit_or d) r = chain_starts d r
  operand_starts (g.of_bit_xor d) r = chain_starts d r
  operand_starts (g.of_bit_and d) r = chain_starts d r
  operand_starts (g.of_equality d) r = chain_starts d r
  operand_starts (g.of_order d) r = chain_starts d r
  operand_starts (g.of_shift d) r = chain_starts d r
  operand_starts (g.of_sum d) r = chain_starts d r
  operand_starts (g.of_product d) r = unary_starts d r

  pub chain_starts : {l : Level} {a : List Symbol} {t : Expr} → g.Chain l a t → (r : List Symbol) → starts (head (a ++ r)) ≡ true
  chain_starts (g.operand d) r = operand_starts d r
  chain_starts (g.binary x op {a = a} {c = c} d h d') r = ap (λ z. starts (head z)) (append_assoc a (x ∷ c) r) ∙ chain_starts d ((x ∷ c) ++ r)

-- An expression whose first token is a name may be read behind that name.

name_unary : (n : Symbol) (ts : List Symbol) → n.kind ≡ k.Id → runs UnaryOf (n ∷ ts) ≡ runs (After (e.Name n.at n.text)) ts
name_unary n ts h =
    runs_walk UnaryOf (n ∷ ts)
    ∙ try_other k.LParen (λ x. Call (Open x) Ret) (Call Plain Ret) k.Id n ts h refl
    ∙ call_last Plain (n ∷ ts)
    ∙ alone n (e.Name n.at n.text) ts (other k.KwSizeof k.Id n h refl) (ap prefix_of h)
    (runs_walk PrimaryOf (n ∷ ts) ∙ try_take k.Id (λ x. Ret (e.Name x.at x.text)) primary_literal n ts h)

further_then : (l : Level) (o p : Out Expr) → o ≡ p → and_then o (λ v r. walk runs (resumed l v) r) ≡ and_then p (λ v r. walk runs (resumed l v) r)
further_then l o p h = ap (λ z. and_then z (λ v r. walk runs (resumed l v) r)) h

named_product : (n : Symbol) (ts : List Symbol) → n.kind ≡ k.Id → runs (ChainOf level.Product) (n ∷ ts) ≡ runs (Resume level.Product n) ts
named_product n ts h =
    runs_walk (ChainOf level.Product) (n ∷ ts)
    ∙ further_then level.Product (runs (OperandOf level.Product) (n ∷ ts)) (runs (After (e.Name n.at n.text)) ts)
    (runs_walk (OperandOf level.Product) (n ∷ ts) ∙ call_last UnaryOf (n ∷ ts) ∙ name_unary n ts h)
    ∙ sym (runs_walk (Resume level.Product n) ts)

named_sum : (n : Symbol) (ts : List Symbol) → n.kind ≡ k.Id → runs (ChainOf level.Sum) (n ∷ ts) ≡ runs (Resume level.Sum n) ts
named_sum n ts h =
    runs_walk (ChainOf level.Sum) (n ∷ ts)
    ∙ further_then level.Sum (runs (OperandOf level.Sum) (n ∷ ts)) (runs (Resume level.Product n) ts)
    (runs_walk (OperandOf level.Sum) (n ∷ ts) ∙ call_last (ChainOf level.Product) (n ∷ ts) ∙ named_product n ts h)
    ∙ sym (runs_walk (Resume level.Sum n) ts)

named_shift : (n : Symbol) (ts : List Symbol) → n.kind ≡ k.Id → runs (ChainOf level.Shift) (n ∷ ts) ≡ runs (Resume level.Shift n) ts
named_shift n ts h =
    runs_walk (ChainOf level.Shift) (n ∷ ts)
    ∙ further_then level.Shift (runs (OperandOf level.Shift) (n ∷ ts)) (runs (Resume level.Sum n) ts)
    (runs_walk (OperandOf level.Shift) (n ∷ ts) ∙ call_last (ChainOf level.Sum) (n ∷ ts) ∙ named_sum n ts h)
    ∙ sym (runs_walk (Resume level.Shift n) ts)

named_order : (n : Symbol) (ts : List Symbol) → n.kind ≡ k.Id → runs (ChainOf level.Order) (n ∷ ts) ≡ runs (Resume level.Order n) ts
named_order n ts h =
    runs_walk (ChainOf level.Order) (n ∷ ts)
    ∙ further_then level.Order (runs (OperandOf level.Order) (n ∷ ts)) (runs (Resume level.Shift n) ts)
    (runs_walk (OperandOf level.Order) (n ∷ ts) ∙ call_last (ChainOf level.Shift) (n ∷ ts) ∙ named_shift n ts h)
    ∙ sym (runs_walk (Resume level.Order n) ts)

named_equality : (n : Symbol) (ts : List Symbol) → n.kind ≡ k.Id → runs (ChainOf level.Equality) (n ∷ ts) ≡ runs (Resume level.Equality n) ts
named_equality n ts h =
    runs_walk (ChainOf level.Equality) (n ∷ ts)
    ∙ further_then level.Equality (runs (OperandOf level.Equality) (n ∷ ts)) (runs (Resume level.Order n) ts)
    (runs_walk (OperandOf level.Equality) (n ∷ ts) ∙ call_last (ChainOf level.Order) (n ∷ ts) ∙ named_order n ts h)
    ∙ sym (runs_walk (Resume level.Equality n) ts)

named_bit_and : (n : Symbol) (ts : List Symbol) → n.kind ≡ k.Id → runs (ChainOf level.BitAnd) (n ∷ ts) ≡ runs (Resume level.BitAnd n) ts
named_bit_and n ts h =
    runs_walk (ChainOf level.BitAnd) (n ∷ ts)
    ∙ further_then level.BitAnd (runs (OperandOf level.BitAnd) (n ∷ ts)) (runs (Resume level.Equality n) ts)
    (runs_walk (OperandOf level.BitAnd) (n ∷ ts) ∙ call_last (ChainOf level.Equality) (n ∷ ts) ∙ named_equality n ts h)
    ∙ sym (runs_walk (Resume level.BitAnd n) ts)

named_bit_xor : (n : Symbol) (ts : List Symbol) → n.kind ≡ k.Id → runs (ChainOf level.BitXor) (n ∷ ts) ≡ runs (Resume level.BitXor n) ts
named_bit_xor n ts h =
    runs_walk (ChainOf level.BitXor) (n ∷ ts)
    ∙ further_then level.BitXor (runs (OperandOf level.BitXor) (n ∷ ts)) (runs (Resume level.BitAnd n) ts)
    (runs_walk (OperandOf level.BitXor) (n ∷ ts) ∙ call_last (ChainOf level.BitAnd) (n ∷ ts) ∙ named_bit_and n ts h)
    ∙ sym (runs_walk (Resume level.BitXor n) ts)

named_bit_or : (n : Symbol) (ts : List Symbol) → n.kind ≡ k.Id → runs (ChainOf level.BitOr) (n ∷ ts) ≡ runs (Resume level.BitOr n) ts
named_bit_or n ts h =
    runs_walk (ChainOf level.BitOr) (n ∷ ts)
    ∙ further_then level.BitOr (runs (OperandOf level.BitOr) (n ∷ ts)) (runs (Resume level.BitXor n) ts)
    (runs_walk (OperandOf level.BitOr) (n ∷ ts) ∙ call_last (ChainOf level.BitXor) (n ∷ ts) ∙ named_bit_xor n ts h)
    ∙ sym (runs_walk (Resume level.BitOr n) ts)

named_and : (n : Symbol) (ts : List Symbol) → n.kind ≡ k.Id → runs (ChainOf level.And) (n ∷ ts) ≡ runs (Resume level.And n) ts
named_and n ts h =
    runs_walk (ChainOf level.And) (n ∷ ts)
    ∙ further_then level.And (runs (OperandOf level.And) (n ∷ ts)) (runs (Resume level.BitOr n) ts)
    (runs_walk (OperandOf level.And) (n ∷ ts) ∙ call_last (ChainOf level.BitOr) (n ∷ ts) ∙ named_bit_or n ts h)
    ∙ sym (runs_walk (Resume level.And n) ts)

named_or : (n : Symbol) (ts : List Symbol) → n.kind ≡ k.Id → runs (ChainOf level.Or) (n ∷ ts) ≡ runs (Resume level.Or n) ts
named_or n ts h =
    runs_walk (ChainOf level.Or) (n ∷ ts)
    ∙ further_then level.Or (runs (OperandOf level.Or) (n ∷ ts)) (runs (Resume level.And n) ts)
    (runs_walk (OperandOf level.Or) (n ∷ ts) ∙ call_last (ChainOf level.And) (n ∷ ts) ∙ named_and n ts h)
    ∙ sym (runs_walk (Resume level.Or n) ts)

stops_product : (n : Symbol) (r : List Symbol) → next_binds r < 1 → runs (Resume level.Product n) r ≡ (Some (e.Name n.at n.text), r)
stops_product n r h =
    runs_walk (Resume level.Product n) r
    ∙ call_ok (After (e.Name n.at n.text)) (resumed level.Product) r (e.Name n.at n.text) r (after_ends (e.Name n.at n.text) r (omega arith))
    ∙ call_last (Further level.Product (e.Name n.at n.text)) r
    ∙ further_ends level.Product (e.Name n.at n.text) r (omega arith)

stops_sum : (n : Symbol) (r : List Symbol) → next_binds r < 1 → runs (Resume level.Sum n) r ≡ (Some (e.Name n.at n.text), r)
stops_sum n r h =
    runs_walk (Resume level.Sum n) r
    ∙ call_ok (Resume level.Product n) (resumed level.Sum) r (e.Name n.at n.text) r (stops_product n r h)
    ∙ call_last (Further level.Sum (e.Name n.at n.text)) r
    ∙ further_ends level.Sum (e.Name n.at n.text) r (omega arith)

stops_shift : (n : Symbol) (r : List Symbol) → next_binds r < 1 → runs (Resume level.Shift n) r ≡ (Some (e.Name n.at n.text), r)
stops_shift n r h =
    runs_walk (Resume level.Shift n) r
    ∙ call_ok (Resume level.Sum n) (resumed level.Shift) r (e.Name n.at n.text) r (stops_sum n r h)
    ∙ call_last (Further level.Shift (e.Name n.at n.text)) r
    ∙ further_ends level.Shift (e.Name n.at n.text) r (omega arith)

stops_order : (n : Symbol) (r : List Symbol) → next_binds r < 1 → runs (Resume level.Order n) r ≡ (Some (e.Name n.at n.text), r)
stops_order n r h =
    runs_walk (Resume level.Order n) r
    ∙ call_ok (Resume level.Shift n) (resumed level.Order) r (e.Name n.at n.text) r (stops_shift n r h)
    ∙ call_last (Further level.Order (e.Name n.at n.text)) r
    ∙ further_ends level.Order (e.Name n.at n.text) r (omega arith)

stops_equality : (n : Symbol) (r : List Symbol) → next_binds r < 1 → runs (Resume level.Equality n) r ≡ (Some (e.Name n.at n.text), r)
stops_equality n r h =
    runs_walk (Resume level.Equality n) r
    ∙ call_ok (Resume level.Order n) (resumed level.Equality) r (e.Name n.at n.text) r (stops_order n r h)
    ∙ call_last (Further level.Equality (e.Name n.at n.text)) r
    ∙ further_ends level.Equality (e.Name n.at n.text) r (omega arith)

stops_bit_and : (n : Symbol) (r : List Symbol) → next_binds r < 1 → runs (Resume level.BitAnd n) r ≡ (Some (e.Name n.at n.text), r)
stops_bit_and n r h =
    runs_walk (Resume level.BitAnd n) r
    ∙ call_ok (Resume level.Equality n) (resumed level.BitAnd) r (e.Name n.at n.text) r (stops_equality n r h)
    ∙ call_last (Further level.BitAnd (e.Name n.at n.text)) r
    ∙ further_ends level.BitAnd (e.Name n.at n.text) r (omega arith)

stops_bit_xor : (n : Symbol) (r : List Symbol) → next_binds r < 1 → runs (Resume level.BitXor n) r ≡ (Some (e.Name n.at n.text), r)
stops_bit_xor n r h =
    runs_walk (Resume level.BitXor n) r
    ∙ call_ok (Resume level.BitAnd n) (resumed level.BitXor) r (e.Name n.at n.text) r (stops_bit_and n r h)
    ∙ call_last (Further level.BitXor (e.Name n.at n.text)) r
    ∙ further_ends level.BitXor (e.Name n.at n.text) r (omega arith)

stops_bit_or : (n : Symbol) (r : List Symbol) → next_binds r < 1 → runs (Resume level.BitOr n) r ≡ (Some (e.Name n.at n.text), r)
stops_bit_or n r h =
    runs_walk (Resume level.BitOr n) r
    ∙ call_ok (Resume level.BitXor n) (resumed level.BitOr) r (e.Name n.at n.text) r (stops_bit_xor n r h)
    ∙ call_last (Further level.BitOr (e.Name n.at n.text)) r
    ∙ further_ends level.BitOr (e.Name n.at n.text) r (omega arith)

stops_and : (n : Symbol) (r : List Symbol) → next_binds r < 1 → runs (Resume level.And n) r ≡ (Some (e.Name n.at n.text), r)
stops_and n r h =
    runs_walk (Resume level.And n) r
    ∙ call_ok (Resume level.BitOr n) (resumed level.And) r (e.Name n.at n.text) r (stops_bit_or n r h)
    ∙ call_last (Further level.And (e.Name n.at n.text)) r
    ∙ further_ends level.And (e.Name n.at n.text) r (omega arith)

stops_or : (n : Symbol) (r : List Symbol) → next_binds r < 1 → runs (Resume level.Or n) r ≡ (Some (e.Name n.at n.text), r)
stops_or n r h =
    runs_walk (Resume level.Or n) r
    ∙ call_ok (Resume level.And n) (resumed level.Or) r (e.Name n.at n.text) r (stops_and n r h)
    ∙ call_last (Further level.Or (e.Name n.at n.text)) r
    ∙ further_ends level.Or (e.Name n.at n.text) r (omega arith)

-- the first token, if it is of this kind
pub record First (kind : Kind) (ts : List Symbol) : Type 0 where
  pub token : Symbol
  pub rest : List Symbol
  pub is : ts ≡ token ∷ rest
  pub its : token.kind ≡ kind

first_or_not : (kind : Kind) (ts : List Symbol) → First kind ts ⊎ (taken kind (head ts) ≡ None)
first_or_not kind [] = inr refl
first_or_not kind (x ∷ ts) = go (same kind x.kind) refl
  where
    go : (b : Bool) → same kind x.kind ≡ b → First kind (x ∷ ts) ⊎ (taken kind (Some x) ≡ None)
    go true h = inl (record { token = x; rest = ts; is = refl; its = sym (same_true kind x.kind h) })
    go false h = inr (not_taken kind x h)

rest_of_pair : {A : Type 0} {a b : Option A} {r s : List Symbol} → ◌≡◌ {A = Out A} (a, r) (b, s) → r ≡ s
rest_of_pair h = ap (λ o. o.1) h

some_none : {A : Type 0} {a : A} → Some a ≡ None → ⊥
some_none h = cc

first_taken : (kind : Kind) (ts : List Symbol) (f : First kind ts) → taken kind (head ts) ≡ None → ⊥
first_taken kind ts f h = some_none (sym (ap (λ z. taken kind (head z)) f.is ∙ taken_some kind f.token f.its) ∙ h)

-- behind a name that was read no parenthesis stands, unless one stands behind all that was read
no_paren : (m : Rule) (q r : List Symbol) (v : Option (Sort m)) → ((z : Symbol) (p : List Symbol) → z.kind ≡ k.LParen → (runs m (z ∷ p)).1 ≡ z ∷ p) → runs m q ≡ (v, r) → taken k.LParen (head r) ≡ None
    → taken k.LParen (head q) ≡ None
no_paren m q r v stay h n = go (first_or_not k.LParen q)
  where
    go : First k.LParen q ⊎ (taken k.LParen (head q) ≡ None) → taken k.LParen (head q) ≡ None
    go (inr e) = e
    go (inl f) =
        let e1 : (runs m q).1 ≡ q = ap (λ z. (runs m z).1) f.is ∙ stay f.token f.rest f.its ∙ sym f.is in
        let e2 : q ≡ r = sym e1 ∙ ap (λ (o : Out (Sort m)). o.1) h in
        ap (λ z. taken k.LParen (head z)) e2 ∙ n

paren_binds : (z : Symbol) (p : List Symbol) → z.kind ≡ k.LParen → next_binds (z ∷ p) < 1
paren_binds z p h = let e : binds z.kind ≡ 0 = ap binds h in omega arith

-- Calls.

arguments_turn : (found : List Expr) (t : Expr) (x : Symbol) (c r : List Symbol) → x.kind ≡ k.Comma → runs (ChainOf level.Or) (c ++ r) ≡ (Some t, r)
    → runs (ArgumentsOf found) (x ∷ (c ++ r)) ≡ runs (ArgumentsOf (found ++ t ∷ [])) r
arguments_turn found t x c r ex h =
    runs_walk (ArgumentsOf found) (x ∷ (c ++ r))
    ∙ try_take k.Comma (argument found) (Ret found) x (c ++ r) ex
    ∙ call_ok (ChainOf level.Or) (λ t. Call (ArgumentsOf (found ++ t ∷ [])) Ret) (c ++ r) t r h
    ∙ call_last (ArgumentsOf (found ++ t ∷ [])) r

arguments_complete : (f : List Expr → Prog CallTree) {a : List Symbol} {ts : List Expr} → g.Arguments a ts → (r : List Symbol) → next_binds r < 1
    → walk runs (Call (ChainOf level.Or) (λ t. Call (ArgumentsOf (t ∷ [])) f)) (a ++ r) ≡ walk runs (Call (ArgumentsOf ts) f) r
arguments_complete f (g.Arguments.one {a = a} {t = t} d) r h =
    call_ok (ChainOf level.Or) (λ t. Call (ArgumentsOf (t ∷ [])) f) (a ++ r) t r (complete a t d r h)
arguments_complete f (g.Arguments.more x {a = a} {c = c} {ts = ts} {t = t} d ex d') r h =
    ap (walk runs (Call (ChainOf level.Or) (λ t. Call (ArgumentsOf (t ∷ [])) f))) (append_assoc a (x ∷ c) r)
    ∙ arguments_complete f d (x ∷ (c ++ r)) (closes k.Comma x (c ++ r) ex refl)
    ∙ ap (λ o. and_then o (λ v q. walk runs (f v) q)) (arguments_turn ts t x c r ex (complete c t d' r h))

arguments_end : (ts : List Expr) (y : Symbol) (r : List Symbol) → y.kind ≡ k.RParen → runs (ArgumentsOf ts) (y ∷ r) ≡ (Some ts, y ∷ r)
arguments_end ts y r ey = runs_walk (ArgumentsOf ts) (y ∷ r) ∙ try_no k.Comma (argument ts) (Ret ts) (y ∷ r) (other k.Comma k.RParen y ey refl)

arguments_start : {a : List Symbol} {ts : List Expr} → g.Arguments a ts → (r : List Symbol) → starts (head (a ++ r)) ≡ true
arguments_start (g.Arguments.one d) r = chain_starts d r
arguments_start (g.Arguments.more x {a = a} {c = c} d ex d') r = ap (λ z. starts (head z)) (append_assoc a (x ∷ c) r) ∙ arguments_start d ((x ∷ c) ++ r)

record CallShape (a : List Symbol) (c : CallTree) (r : List Symbol) : Type 0 where
  name : Symbol
  open_ : Symbol
  rest : List Symbol
  is : a ++ r ≡ name ∷ open_ ∷ rest
  named : name.kind ≡ k.Id
  opened : open_.kind ≡ k.LParen
  reads : runs (CallTail name) rest ≡ (Some c, r)

call_complete : {a : List Symbol} {c : CallTree} → g.CallReads a c → (r : List Symbol) → CallShape a c r
call_complete (g.CallReads.none n x y en ex ey) r = record {
  name = n;
  open_ = x;
  rest = y ∷ r;
  is = refl;
  named = en;
  opened = ex;
  reads = runs_walk (CallTail n) (y ∷ r) ∙ try_take k.RParen (λ y. Ret (call_of n [])) (call_first n) y r ey;
}
call_complete (g.CallReads.some n x y {a = a} {ts = ts} en ex d ey) r = record {
  name = n;
  open_ = x;
  rest = a ++ y ∷ r;
  is = ap (λ q. n ∷ x ∷ q) (append_assoc a (y ∷ []) r);
  named = en;
  opened = ex;
  reads =
      runs_walk (CallTail n) (a ++ y ∷ r)
      ∙ try_no k.RParen (λ y. Ret (call_of n [])) (call_first n) (a ++ y ∷ r) (no_starter k.RParen (a ++ y ∷ r) refl (arguments_start d (y ∷ r)))
      ∙ arguments_complete (call_close n) d (y ∷ r) (closes k.RParen y r ey refl)
      ∙ call_ok (ArgumentsOf ts) (call_close n) (y ∷ r) ts (y ∷ r) (arguments_end ts y r ey)
      ∙ expect_take k.RParen (Ret (call_of n ts)) y r ey;
}

-- Assignments.

value_call : {a : List Symbol} {c : CallTree} → g.CallReads a c → (r : List Symbol) → runs ValueOf (a ++ r) ≡ (Some (value.Call c), r)
value_call {a = a} {c = c} d r =
    let f = call_complete d r in
    ap (runs ValueOf) f.is
    ∙ runs_walk ValueOf (f.name ∷ f.open_ ∷ f.rest)
    ∙ try_take k.Id value_named value_plain f.name (f.open_ ∷ f.rest) f.named
    ∙ try_take k.LParen (λ x. Call (CallTail f.name) (λ c. Ret (value.Call c))) (Call (Resume level.Or f.name) (λ t. Ret (value.Expr t))) f.open_ f.rest f.opened
    ∙ call_ok (CallTail f.name) (λ c. Ret (value.Call c)) f.rest c r f.reads

value_expr : (ts : List Symbol) (t : Expr) (r : List Symbol) → runs (ChainOf level.Or) ts ≡ (Some t, r) → taken k.LParen (head r) ≡ None → runs ValueOf ts ≡ (Some (value.Expr t), r)
value_expr ts t r h n = runs_walk ValueOf ts ∙ go (first_or_not k.Id ts)
  where
    go : First k.Id ts ⊎ (taken k.Id (head ts) ≡ None) → walk runs (try k.Id value_named value_plain) ts ≡ (Some (value.Expr t), r)
    go (inr e) = try_no k.Id value_named value_plain ts e ∙ call_ok (ChainOf level.Or) (λ t. Ret (value.Expr t)) ts t r h
    go (inl f) =
        let here : runs (Resume level.Or f.token) f.rest ≡ (Some t, r) = sym (named_or f.token f.rest f.its) ∙ ap (runs (ChainOf level.Or)) (sym f.is) ∙ h in
        let closed : taken k.LParen (head f.rest) ≡ None = no_paren (Resume level.Or f.token) f.rest r (Some t) (λ z p hz. ap (λ (o : Out Expr). o.1) (stops_or f.token (z ∷ p) (paren_binds z p hz))) here n in
        ap (walk runs (try k.Id value_named value_plain)) f.is
        ∙ try_take k.Id value_named value_plain f.token f.rest f.its
        ∙ try_no k.LParen (λ x. Call (CallTail f.token) (λ c. Ret (value.Call c))) (Call (Resume level.Or f.token) (λ t. Ret (value.Expr t))) f.rest closed
        ∙ call_ok (Resume level.Or f.token) (λ t. Ret (value.Expr t)) f.rest t r here

assign_complete : (t : Expr) (v : AssignedValue) (x : Symbol) (q r : List Symbol) → x.kind ≡ k.Assign → runs ValueOf q ≡ (Some v, r) → walk runs (assign_rest t) (x ∷ q) ≡ (Some (act.Assign x.at t v), r)
assign_complete t v x q r ex h = try_take k.Assign (assigned t) Fail x q ex ∙ call_ok ValueOf (λ v. Ret (act.Assign x.at t v)) q v r h

simple_assign : (ts : List Symbol) (t : Expr) (v : AssignedValue) (x : Symbol) (q r : List Symbol) → runs UnaryOf ts ≡ (Some t, x ∷ q) → x.kind ≡ k.Assign → runs ValueOf q ≡ (Some v, r)
    → runs SimpleOf ts ≡ (Some (act.Assign x.at t v), r)
simple_assign ts t v x q r h ex hv = runs_walk SimpleOf ts ∙ go (first_or_not k.Id ts)
  where
    go : First k.Id ts ⊎ (taken k.Id (head ts) ≡ None) → walk runs simple ts ≡ (Some (act.Assign x.at t v), r)
    go (inr e) = try_no k.Id simple_named (Call UnaryOf assign_rest) ts e ∙ call_ok UnaryOf assign_rest ts t (x ∷ q) h ∙ assign_complete t v x q r ex hv
    go (inl f) =
        let here : runs (After (e.Name f.token.at f.token.text)) f.rest ≡ (Some t, x ∷ q) = sym (name_unary f.token f.rest f.its) ∙ ap (runs UnaryOf) (sym f.is) ∙ h in
        let closed : taken k.LParen (head f.rest) ≡ None =
        no_paren (After (e.Name f.token.at f.token.text)) f.rest (x ∷ q) (Some t) (λ z p hz. ap (λ (o : Out Expr). o.1) (after_ends (e.Name f.token.at f.token.text) (z ∷ p) (omega (arith, paren_binds z p hz)))) here
        (other k.LParen k.Assign x ex refl) in
        ap (walk runs simple) f.is
        ∙ try_take k.Id simple_named (Call UnaryOf assign_rest) f.token f.rest f.its
        ∙ try_no k.LParen (λ x. Call (CallTail f.token) (λ c. Ret (act.Call c))) (named_target f.token) f.rest closed
        ∙ call_ok (After (e.Name f.token.at f.token.text)) assign_rest f.rest t (x ∷ q) here
        ∙ assign_complete t v x q r ex hv

pub simple_complete : {a : List Symbol} {t : Simple} → g.SimpleReads a t → (r : List Symbol) → next_binds r < 1 → taken k.LParen (head r) ≡ None → runs SimpleOf (a ++ r) ≡ (Some t, r)
simple_complete (g.SimpleReads.call {a = a} {c = c} d) r b n =
    let f = call_complete d r in
    ap (runs SimpleOf) f.is
    ∙ runs_walk SimpleOf (f.name ∷ f.open_ ∷ f.rest)
    ∙ try_take k.Id simple_named (Call UnaryOf assign_rest) f.name (f.open_ ∷ f.rest) f.named
    ∙ try_take k.LParen (λ x. Call (CallTail f.name) (λ c. Ret (act.Call c))) (named_target f.name) f.open_ f.rest f.opened
    ∙ call_ok (CallTail f.name) (λ c. Ret (act.Call c)) f.rest c r f.reads
simple_complete (g.assign x {a = a} {c = c} {t = t} {v = v} d ex d') r b n =
    ap (runs SimpleOf) (append_assoc a (x ∷ c) r)
    ∙ simple_assign (a ++ x ∷ (c ++ r)) t (value.Expr v) x (c ++ r) r (unary_complete d (x ∷ (c ++ r)) (omega (arith, closes k.Assign x (c ++ r) ex refl))) ex (value_expr (c ++ r) v r (complete c v d' r b) n)
simple_complete (g.assign_call x {a = a} {c = c} {t = t} {v = v} d ex d') r b n =
    ap (runs SimpleOf) (append_assoc a (x ∷ c) r)
    ∙ simple_assign (a ++ x ∷ (c ++ r)) t (value.Call v) x (c ++ r) r (unary_complete d (x ∷ (c ++ r)) (omega (arith, closes k.Assign x (c ++ r) ex refl))) ex (value_call d' r)

pub simple_starts : {a : List Symbol} {t : Simple} → g.SimpleReads a t → (r : List Symbol) → starts (head (a ++ r)) ≡ true
simple_starts (g.SimpleReads.call (g.CallReads.none n x y en ex ey)) r = ap starter en
simple_starts (g.SimpleReads.call (g.CallReads.some n x y en ex d ey)) r = ap starter en
simple_starts (g.assign x {a = a} {c = c} d ex d') r = ap (λ z. starts (head z)) (append_assoc a (x ∷ c) r) ∙ unary_starts d ((x ∷ c) ++ r)
simple_starts (g.assign_call x {a = a} {c = c} d ex d') r = ap (λ z. starts (head z)) (append_assoc a (x ∷ c) r) ∙ unary_starts d ((x ∷ c) ++ r)

-- Statements.

statement_at : (x : Symbol) (r : List Symbol) → x.kind ≡ k.KwIf → runs StatementOf (x ∷ r) ≡ walk runs (choice_arm [] x) r
statement_at x r h =
    runs_walk StatementOf (x ∷ r)
    ∙ try_other k.Semi (λ x. Ret (stmt.Empty x.at)) stmt_block k.KwIf x (r) h refl
    ∙ try_other k.LBrace block_rest stmt_return k.KwIf x (r) h refl
    ∙ try_other k.KwReturn return_rest stmt_break k.KwIf x (r) h refl
    ∙ try_other k.KwBreak break_rest stmt_continue k.KwIf x (r) h refl
    ∙ try_other k.KwContinue continue_rest stmt_if k.KwIf x (r) h refl
    ∙ try_take k.KwIf (choice_arm []) stmt_while x (r) h

for_step_complete : (x : Symbol) (i : Option Simple) (t : Option Expr) {d : List Symbol} {p : Option Simple} (v : Symbol) (q r : List Symbol) (c : List Stmt) → g.MaybeSimple d p → v.kind ≡ k.RParen
    → runs BodyOf q ≡ (Some c, r) → walk runs (for_step x i t) (d ++ v ∷ q) ≡ (Some (stmt.For x.at i t p c), r)
for_step_complete x i t v q r c g.MaybeSimple.none ev h = try_take k.RParen (λ y. for_body x i t None) (Call SimpleOf (for_step_some x i t)) v q ev ∙ call_ok BodyOf (λ c. Ret (stmt.For x.at i t None c)) q c r h
for_step_complete x i t v q r c (g.MaybeSimple.some {a = a} {t = p} d) ev h =
    try_no k.RParen (λ y. for_body x i t None) (Call SimpleOf (for_step_some x i t)) (a ++ v ∷ q) (no_starter k.RParen (a ++ v ∷ q) refl (simple_starts d (v ∷ q)))
    ∙ call_ok SimpleOf (for_step_some x i t) (a ++ v ∷ q) p (v ∷ q) (simple_complete d (v ∷ q) (closes k.RParen v q ev refl) (other k.LParen k.RParen v ev refl))
    ∙ expect_take k.RParen (for_body x i t (Some p)) v q ev
    ∙ call_ok BodyOf (λ c. Ret (stmt.For x.at i t (Some p) c)) q c r h

for_test_complete : (x : Symbol) (i : Option Simple) {a : List Symbol} {t : Option Expr} (w : Symbol) (q r : List Symbol) (o : Stmt) → g.MaybeExpr a t → w.kind ≡ k.Semi
    → walk runs (for_step x i t) q ≡ (Some o, r) → walk runs (for_test x i) (a ++ w ∷ q) ≡ (Some o, r)
for_test_complete x i w q r o g.MaybeExpr.none ew h = try_take k.Semi (λ y. for_step x i None) (Call (ChainOf level.Or) (for_test_some x i)) w q ew ∙ h
for_test_complete x i w q r o (g.MaybeExpr.some {a = a} {t = t} d) ew h =
    try_no k.Semi (λ y. for_step x i None) (Call (ChainOf level.Or) (for_test_some x i)) (a ++ w ∷ q) (no_starter k.Semi (a ++ w ∷ q) refl (chain_starts d (w ∷ q)))
    ∙ call_ok (ChainOf level.Or) (for_test_some x i) (a ++ w ∷ q) t (w ∷ q) (complete a t d (w ∷ q) (closes k.Semi w q ew refl))
    ∙ expect_take k.Semi (for_step x i (Some t)) w q ew
    ∙ h

for_first_complete : (x : Symbol) {a : List Symbol} {i : Option Simple} (z : Symbol) (q r : List Symbol) (o : Stmt) → g.MaybeSimple a i → z.kind ≡ k.Semi
    → walk runs (for_test x i) q ≡ (Some o, r) → walk runs (for_first x) (a ++ z ∷ q) ≡ (Some o, r)
for_first_complete x z q r o g.MaybeSimple.none ez h = try_take k.Semi (λ y. for_test x None) (Call SimpleOf (for_first_some x)) z q ez ∙ h
for_first_complete x z q r o (g.MaybeSimple.some {a = a} {t = i} d) ez h =
    try_no k.Semi (λ y. for_test x None) (Call SimpleOf (for_first_some x)) (a ++ z ∷ q) (no_starter k.Semi (a ++ z ∷ q) refl (simple_starts d (z ∷ q)))
    ∙ call_ok SimpleOf (for_first_some x) (a ++ z ∷ q) i (z ∷ q) (simple_complete d (z ∷ q) (closes k.Semi z q ez refl) (other k.LParen k.Semi z ez refl))
    ∙ expect_take k.Semi (for_test x (Some i)) z q ez
    ∙ h

-- a statement begins with no `}` and no `else`
pub arms_first : {a : List Symbol} {arms : List Arm} → g.Arms a arms → (r : List Symbol) → First k.KwIf (a ++ r)
arms_first (g.first x {a = a} h d) r = record { token = x; rest = a ++ r; is = refl; its = h }
arms_first (g.another x y {a = a} {c = c} d h h' d') r =
    let f = arms_first d ((x ∷ y ∷ c) ++ r) in record { token = f.token; rest = f.rest; is = append_assoc a (x ∷ y ∷ c) r ∙ f.is; its = f.its }

pub first_other : (c kind : Kind) (ts : List Symbol) → First kind ts → same c kind ≡ false → taken c (head ts) ≡ None
first_other c kind ts f n = ap (λ z. taken c (head z)) f.is ∙ other c kind f.token f.its n

pub statement_not : {a : List Symbol} {t : Stmt} → g.Statement a t → (r : List Symbol) → (taken k.RBrace (head (a ++ r)) ≡ None) × (taken k.KwElse (head (a ++ r)) ≡ None)
statement_not (g.empty x h) r = (other k.RBrace k.Semi x h refl, other k.KwElse k.Semi x h refl)
statement_not (g.block x h d) r = (other k.RBrace k.LBrace x h refl, other k.KwElse k.LBrace x h refl)
statement_not (g.simple x {a = a} d h) r =
    let e1 : (a ++ x ∷ []) ++ r ≡ a ++ x ∷ r = append_assoc a (x ∷ []) r in
    let b = ap (λ z. starts (head z)) e1 ∙ simple_starts d (x ∷ r) in
    (no_starter k.RBrace ((a ++ x ∷ []) ++ r) refl b, no_starter k.KwElse ((a ++ x ∷ []) ++ r) refl b)
statement_not (g.return x y h d h') r = (other k.RBrace k.KwReturn x h refl, other k.KwElse k.KwReturn x h refl)
statement_not (g.break x y h h') r = (other k.RBrace k.KwBreak x h refl, other k.KwElse k.KwBreak x h refl)
statement_not (g.continue x y h h') r = (other k.RBrace k.KwContinue x h refl, other k.KwElse k.KwContinue x h refl)
statement_not (g.choice {a = a} d) r = (first_other k.RBrace k.KwIf (a ++ r) (arms_first d r) refl, first_other k.KwElse k.KwIf (a ++ r) (arms_first d r) refl)
statement_not (g.choice_else x {a = a} {c = c} d h d') r =
    let f = arms_first d ((x ∷ c) ++ r) in
    let e1 : (a ++ x ∷ c) ++ r ≡ a ++ x ∷ (c ++ r) = append_assoc a (x ∷ c) r in
    (ap (λ z. taken k.RBrace (head z)) e1 ∙ first_other k.RBrace k.KwIf (a ++ x ∷ (c ++ r)) f refl, ap (λ z. taken k.KwElse (head z)) e1 ∙ first_other k.KwElse k.KwIf (a ++ x ∷ (c ++ r)) f refl)
statement_not (g.while x h d) r = (other k.RBrace k.KwWhile x h refl, other k.KwElse k.KwWhile x h refl)
statement_not (g.do_while x y z w v h d h' h'' d' i j) r = (other k.RBrace k.KwDo x h refl, other k.KwElse k.KwDo x h refl)
statement_not (g.for x y z w v h h' d i d' j d'' l m) r = (other k.RBrace k.KwFor x h refl, other k.KwElse k.KwFor x h refl)

brace_ends : (c : List Stmt) (y : Symbol) (r : List Symbol) → y.kind ≡ k.RBrace → runs (StatementsOf c) (y ∷ r) ≡ (Some c, r)
brace_ends c y r h = runs_walk (StatementsOf c) (y ∷ r) ∙ try_take k.RBrace (λ y. Ret c) (statements_more c) y r h

body_no_if : {a : List Symbol} {c : List Stmt} → g.Body a c → (r : List Symbol) → taken k.KwIf (head (a ++ r)) ≡ None
body_no_if (g.braces x h d) r = other k.KwIf k.LBrace x h refl

mutual
  pub statement_complete : {a : List Symbol} {t : Stmt} → g.Statement a t → (r : List Symbol) → taken k.KwElse (head r) ≡ None → runs StatementOf (a ++ r) ≡ (Some t, r)
  statement_complete (g.empty x h) r n =
      runs_walk StatementOf (x ∷ r)
      ∙ try_take k.Semi (λ x. Ret (stmt.Empty x.at)) stmt_block x (r) h
  statement_complete (g.block x {a = a} {c = c} h d) r n =
      runs_walk StatementOf (x ∷ a ++ r)
      ∙ try_other k.Semi (λ x. Ret (stmt.Empty x.at)) stmt_block k.LBrace x (a ++ r) h refl
      ∙ try_take k.LBrace block_rest stmt_return x (a ++ r) h
      ∙ call_ok (StatementsOf []) (λ c. Ret (stmt.Block x.at c)) (a ++ r) c r (braced_complete d r)
  statement_complete (g.simple x {a = a} {t = t} d h) r n =
      let b = simple_starts d (x ∷ r) in
      ap (runs StatementOf) (append_assoc a (x ∷ []) r)
      ∙ runs_walk StatementOf (a ++ x ∷ r)
      ∙ try_no k.Semi (λ x. Ret (stmt.Empty x.at)) stmt_block (a ++ x ∷ r) (no_starter k.Semi (a ++ x ∷ r) refl b)
      ∙ try_no k.LBrace block_rest stmt_return (a ++ x ∷ r) (no_starter k.LBrace (a ++ x ∷ r) refl b)
      ∙ try_no k.KwReturn return_rest stmt_break (a ++ x ∷ r) (no_starter k.KwReturn (a ++ x ∷ r) refl b)
      ∙ try_no k.KwBreak break_rest stmt_continue (a ++ x ∷ r) (no_starter k.KwBreak (a ++ x ∷ r) refl b)
      ∙ try_no k.KwContinue continue_rest stmt_if (a ++ x ∷ r) (no_starter k.KwContinue (a ++ x ∷ r) refl b)
      ∙ try_no k.KwIf (choice_arm []) stmt_while (a ++ x ∷ r) (no_starter k.KwIf (a ++ x ∷ r) refl b)
      ∙ try_no k.KwWhile while_rest stmt_do (a ++ x ∷ r) (no_starter k.KwWhile (a ++ x ∷ r) refl b)
      ∙ try_no k.KwDo do_rest stmt_for (a ++ x ∷ r) (no_starter k.KwDo (a ++ x ∷ r) refl b)
      ∙ try_no k.KwFor for_rest stmt_simple (a ++ x ∷ r) (no_starter k.KwFor (a ++ x ∷ r) refl b)
      ∙ call_ok SimpleOf (λ t. expect k.Semi (Ret (stmt.Simple t))) (a ++ x ∷ r) t (x ∷ r) (simple_complete d (x ∷ r) (closes k.Semi x r h refl) (other k.LParen k.Semi x h refl))
      ∙ expect_take k.Semi (Ret (stmt.Simple t)) x r h
  statement_complete (g.return x y h g.MaybeExpr.none h') r n =
      runs_walk StatementOf (x ∷ y ∷ r)
      ∙ try_other k.Semi (λ x. Ret (stmt.Empty x.at)) stmt_block k.KwReturn x (y ∷ r) h refl
      ∙ try_other k.LBrace block_rest stmt_return k.KwReturn x (y ∷ r) h refl
      ∙ try_take k.KwReturn return_rest stmt_break x (y ∷ r) h
      ∙ try_take k.Semi (λ y. Ret (stmt.Return x.at None)) (return_value x) y r h'
  statement_complete (g.return x y h (g.MaybeExpr.some {a = a} {t = t} d) h') r n =
      ap (λ q. runs StatementOf (x ∷ q)) (append_assoc a (y ∷ []) r)
      ∙ runs_walk StatementOf (x ∷ a ++ y ∷ r)
      ∙ try_other k.Semi (λ x. Ret (stmt.Empty x.at)) stmt_block k.KwReturn x (a ++ y ∷ r) h refl
      ∙ try_other k.LBrace block_rest stmt_return k.KwReturn x (a ++ y ∷ r) h refl
      ∙ try_take k.KwReturn return_rest stmt_break x (a ++ y ∷ r) h
      ∙ try_no k.Semi (λ y. Ret (stmt.Return x.at None)) (return_value x) (a ++ y ∷ r) (no_starter k.Semi (a ++ y ∷ r) refl (chain_starts d (y ∷ r)))
      ∙ call_ok (ChainOf level.Or) (λ t. expect k.Semi (Ret (stmt.Return x.at (Some t)))) (a ++ y ∷ r) t (y ∷ r) (complete a t d (y ∷ r) (closes k.Semi y r h' refl))
      ∙ expect_take k.Semi (Ret (stmt.Return x.at (Some t))) y r h'
  statement_complete (g.break x y h h') r n =
      runs_walk StatementOf (x ∷ y ∷ r)
      ∙ try_other k.Semi (λ x. Ret (stmt.Empty x.at)) stmt_block k.KwBreak x (y ∷ r) h refl
      ∙ try_other k.LBrace block_rest stmt_return k.KwBreak x (y ∷ r) h refl
      ∙ try_other k.KwReturn return_rest stmt_break k.KwBreak x (y ∷ r) h refl
      ∙ try_take k.KwBreak break_rest stmt_continue x (y ∷ r) h
      ∙ expect_take k.Semi (Ret (stmt.Break x.at)) y r h'
  statement_complete (g.continue x y h h') r n =
      runs_walk StatementOf (x ∷ y ∷ r)
      ∙ try_other k.Semi (λ x. Ret (stmt.Empty x.at)) stmt_block k.KwContinue x (y ∷ r) h refl
      ∙ try_other k.LBrace block_rest stmt_return k.KwContinue x (y ∷ r) h refl
      ∙ try_other k.KwReturn return_rest stmt_break k.KwContinue x (y ∷ r) h refl
      ∙ try_other k.KwBreak break_rest stmt_continue k.KwContinue x (y ∷ r) h refl
      ∙ try_take k.KwContinue continue_rest stmt_if x (y ∷ r) h
      ∙ expect_take k.Semi (Ret (stmt.Continue x.at)) y r h'
  statement_complete (g.choice {arms = arms} d) r n =
      arms_complete d r ∙ runs_walk (Choice arms) r ∙ try_no k.KwElse (choice_more arms) (Ret (stmt.If arms None)) r n
  statement_complete (g.choice_else x {a = a} {c = c} {arms = arms} {d = b} d h d') r n =
      ap (runs StatementOf) (append_assoc a (x ∷ c) r)
      ∙ arms_complete d (x ∷ (c ++ r))
      ∙ runs_walk (Choice arms) (x ∷ (c ++ r))
      ∙ try_take k.KwElse (choice_more arms) (Ret (stmt.If arms None)) x (c ++ r) h
      ∙ try_no k.KwIf (choice_arm arms) (choice_last arms) (c ++ r) (body_no_if d' r)
      ∙ call_ok BodyOf (λ c. Ret (stmt.If arms (Some c))) (c ++ r) b r (body_complete d' r)
  statement_complete (g.while x {a = a} {t = t} {c = c} h d) r n =
      runs_walk StatementOf (x ∷ a ++ r)
      ∙ try_other k.Semi (λ x. Ret (stmt.Empty x.at)) stmt_block k.KwWhile x (a ++ r) h refl
      ∙ try_other k.LBrace block_rest stmt_return k.KwWhile x (a ++ r) h refl
      ∙ try_other k.KwReturn return_rest stmt_break k.KwWhile x (a ++ r) h refl
      ∙ try_other k.KwBreak break_rest stmt_continue k.KwWhile x (a ++ r) h refl
      ∙ try_other k.KwContinue continue_rest stmt_if k.KwWhile x (a ++ r) h refl
      ∙ try_other k.KwIf (choice_arm []) stmt_while k.KwWhile x (a ++ r) h refl
      ∙ try_take k.KwWhile while_rest stmt_do x (a ++ r) h
      ∙ call_ok GuardedOf (λ v. Ret (stmt.While x.at v.0 v.1)) (a ++ r) (t, c) r (guarded_complete d r)
  statement_complete (g.do_while x y z w v {a = a} {c = c} {t = t} {d = b} h d h' h'' d' i j) r n =
      let e1 : (a ++ y ∷ z ∷ (c ++ w ∷ v ∷ [])) ++ r ≡ a ++ y ∷ z ∷ (c ++ w ∷ v ∷ r) = simp append_assoc in
      ap (λ q. runs StatementOf (x ∷ q)) e1
      ∙ runs_walk StatementOf (x ∷ a ++ y ∷ z ∷ (c ++ w ∷ v ∷ r))
      ∙ try_other k.Semi (λ x. Ret (stmt.Empty x.at)) stmt_block k.KwDo x (a ++ y ∷ z ∷ (c ++ w ∷ v ∷ r)) h refl
      ∙ try_other k.LBrace block_rest stmt_return k.KwDo x (a ++ y ∷ z ∷ (c ++ w ∷ v ∷ r)) h refl
      ∙ try_other k.KwReturn return_rest stmt_break k.KwDo x (a ++ y ∷ z ∷ (c ++ w ∷ v ∷ r)) h refl
      ∙ try_other k.KwBreak break_rest stmt_continue k.KwDo x (a ++ y ∷ z ∷ (c ++ w ∷ v ∷ r)) h refl
      ∙ try_other k.KwContinue continue_rest stmt_if k.KwDo x (a ++ y ∷ z ∷ (c ++ w ∷ v ∷ r)) h refl
      ∙ try_other k.KwIf (choice_arm []) stmt_while k.KwDo x (a ++ y ∷ z ∷ (c ++ w ∷ v ∷ r)) h refl
      ∙ try_other k.KwWhile while_rest stmt_do k.KwDo x (a ++ y ∷ z ∷ (c ++ w ∷ v ∷ r)) h refl
      ∙ try_take k.KwDo do_rest stmt_for x (a ++ y ∷ z ∷ (c ++ w ∷ v ∷ r)) h
      ∙ call_ok BodyOf (do_test x) (a ++ y ∷ z ∷ (c ++ w ∷ v ∷ r)) b (y ∷ z ∷ (c ++ w ∷ v ∷ r)) (body_complete d (y ∷ z ∷ (c ++ w ∷ v ∷ r)))
      ∙ expect_take k.KwWhile (expect k.LParen (Call (ChainOf level.Or) (do_end x b))) y (z ∷ (c ++ w ∷ v ∷ r)) h'
      ∙ expect_take k.LParen (Call (ChainOf level.Or) (do_end x b)) z (c ++ w ∷ v ∷ r) h''
      ∙ call_ok (ChainOf level.Or) (do_end x b) (c ++ w ∷ v ∷ r) t (w ∷ v ∷ r) (complete c t d' (w ∷ v ∷ r) (closes k.RParen w (v ∷ r) i refl))
      ∙ expect_take k.RParen (expect k.Semi (Ret (stmt.Do x.at b t))) w (v ∷ r) i
      ∙ expect_take k.Semi (Ret (stmt.Do x.at b t)) v r j
  statement_complete (g.for x y z w v {a = a} {c = c} {d = d} {f = f} {i = i} {p = p} {t = t} {g = b} h h' di ez dt ew dp ev db) r n =
      let e1 : (a ++ z ∷ (c ++ w ∷ (d ++ v ∷ f))) ++ r ≡ a ++ z ∷ (c ++ w ∷ (d ++ v ∷ (f ++ r))) = simp append_assoc in
      ap (λ q. runs StatementOf (x ∷ y ∷ q)) e1
      ∙ runs_walk StatementOf (x ∷ y ∷ (a ++ z ∷ (c ++ w ∷ (d ++ v ∷ (f ++ r)))))
      ∙ try_other k.Semi (λ x. Ret (stmt.Empty x.at)) stmt_block k.KwFor x (y ∷ (a ++ z ∷ (c ++ w ∷ (d ++ v ∷ (f ++ r))))) h refl
      ∙ try_other k.LBrace block_rest stmt_return k.KwFor x (y ∷ (a ++ z ∷ (c ++ w ∷ (d ++ v ∷ (f ++ r))))) h refl
      ∙ try_other k.KwReturn return_rest stmt_break k.KwFor x (y ∷ (a ++ z ∷ (c ++ w ∷ (d ++ v ∷ (f ++ r))))) h refl
      ∙ try_other k.KwBreak break_rest stmt_continue k.KwFor x (y ∷ (a ++ z ∷ (c ++ w ∷ (d ++ v ∷ (f ++ r))))) h refl
      ∙ try_other k.KwContinue continue_rest stmt_if k.KwFor x (y ∷ (a ++ z ∷ (c ++ w ∷ (d ++ v ∷ (f ++ r))))) h refl
      ∙ try_other k.KwIf (choice_arm []) stmt_while k.KwFor x (y ∷ (a ++ z ∷ (c ++ w ∷ (d ++ v ∷ (f ++ r))))) h refl
      ∙ try_other k.KwWhile while_rest stmt_do k.KwFor x (y ∷ (a ++ z ∷ (c ++ w ∷ (d ++ v ∷ (f ++ r))))) h refl
      ∙ try_other k.KwDo do_rest stmt_for k.KwFor x (y ∷ (a ++ z ∷ (c ++ w ∷ (d ++ v ∷ (f ++ r))))) h refl
      ∙ try_take k.KwFor for_rest stmt_simple x (y ∷ (a ++ z ∷ (c ++ w ∷ (d ++ v ∷ (f ++ r))))) h
      ∙ expect_take k.LParen (for_first x) y (a ++ z ∷ (c ++ w ∷ (d ++ v ∷ (f ++ r)))) h'
      ∙ for_first_complete x z (c ++ w ∷ (d ++ v ∷ (f ++ r))) r (stmt.For x.at i t p b) di ez
      (for_test_complete x i w (d ++ v ∷ (f ++ r)) r (stmt.For x.at i t p b) dt ew (for_step_complete x i t v (f ++ r) r b dp ev (body_complete db r)))

  guarded_complete : {a : List Symbol} {t : Expr} {c : List Stmt} → g.Guarded a t c → (r : List Symbol) → runs GuardedOf (a ++ r) ≡ (Some (t, c), r)
  guarded_complete (g.guarded x y {a = a} {c = c} {t = t} {d = b} ex d ey d') r =
      ap (λ q. runs GuardedOf (x ∷ q)) (append_assoc a (y ∷ c) r)
      ∙ runs_walk GuardedOf (x ∷ (a ++ y ∷ (c ++ r)))
      ∙ expect_take k.LParen guard_test x (a ++ y ∷ (c ++ r)) ex
      ∙ call_ok (ChainOf level.Or) (λ t. expect k.RParen (guard_body t)) (a ++ y ∷ (c ++ r)) t (y ∷ (c ++ r)) (complete a t d (y ∷ (c ++ r)) (closes k.RParen y (c ++ r) ey refl))
      ∙ expect_take k.RParen (guard_body t) y (c ++ r) ey
      ∙ call_ok BodyOf (λ c. Ret (t, c)) (c ++ r) b r (body_complete d' r)

  arms_complete : {a : List Symbol} {arms : List Arm} → g.Arms a arms → (r : List Symbol) → runs StatementOf (a ++ r) ≡ runs (Choice arms) r
  arms_complete (g.first x {a = a} {t = t} {c = c} ex d) r =
      statement_at x (a ++ r) ex
      ∙ call_ok GuardedOf (λ v. Call (Choice (arm x v.0 v.1 ∷ [])) Ret) (a ++ r) (t, c) r (guarded_complete d r)
      ∙ call_last (Choice (arm x t c ∷ [])) r
  arms_complete (g.another x y {a = a} {c = c} {arms = arms} {t = t} {d = b} d ex ey d') r =
      ap (runs StatementOf) (append_assoc a (x ∷ y ∷ c) r)
      ∙ arms_complete d (x ∷ y ∷ (c ++ r))
      ∙ runs_walk (Choice arms) (x ∷ y ∷ (c ++ r))
      ∙ try_take k.KwElse (choice_more arms) (Ret (stmt.If arms None)) x (y ∷ (c ++ r)) ex
      ∙ try_take k.KwIf (choice_arm arms) (choice_last arms) y (c ++ r) ey
      ∙ call_ok GuardedOf (λ v. Call (Choice (arms ++ arm y v.0 v.1 ∷ [])) Ret) (c ++ r) (t, b) r (guarded_complete d' r)
      ∙ call_last (Choice (arms ++ arm y t b ∷ [])) r

  pub body_complete : {a : List Symbol} {c : List Stmt} → g.Body a c → (r : List Symbol) → runs BodyOf (a ++ r) ≡ (Some c, r)
  body_complete (g.braces x {a = a} {c = c} ex d) r =
      runs_walk BodyOf (x ∷ (a ++ r))
      ∙ expect_take k.LBrace (Call (StatementsOf []) Ret) x (a ++ r) ex
      ∙ call_last (StatementsOf []) (a ++ r)
      ∙ braced_complete d r

  pub braced_complete : {a : List Symbol} {c : List Stmt} → g.Braced a c → (r : List Symbol) → runs (StatementsOf []) (a ++ r) ≡ (Some c, r)
  braced_complete (g.closed y {a = a} {c = c} d ey) r =
      ap (runs (StatementsOf [])) (append_assoc a (y ∷ []) r) ∙ statements_complete d (y ∷ r) (other k.KwElse k.RBrace y ey refl) ∙ brace_ends c y r ey

  statements_complete : {a : List Symbol} {c : List Stmt} → g.Statements a c → (r : List Symbol) → taken k.KwElse (head r) ≡ None → runs (StatementsOf []) (a ++ r) ≡ runs (StatementsOf c) r
  statements_complete g.Statements.none r n = refl
  statements_complete (g.Statements.more {a = a} {c = c} {d = b} {t = t} d d') r n =
      let o = statement_not d' r in
      ap (runs (StatementsOf [])) (append_assoc a c r)
      ∙ statements_complete d (c ++ r) o.1
      ∙ runs_walk (StatementsOf b) (c ++ r)
      ∙ try_no k.RBrace (λ y. Ret b) (statements_more b) (c ++ r) o.0
      ∙ call_ok StatementOf (λ t. Call (StatementsOf (b ++ t ∷ [])) Ret) (c ++ r) t r (statement_complete d' r n)
      ∙ call_last (StatementsOf (b ++ t ∷ [])) r
