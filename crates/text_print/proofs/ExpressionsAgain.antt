-- The canonical tokens of an expression read as the same expression.
use Rattle.std.proofs.Common.{◌≡◌, ℕ, ◌+◌, List, [], ◌∷◌, ◌++◌, length, drop, refl, sym, ap, ◌∙◌, subst, Bool, true, false, if◌then◌else◌, Some}
use Rattle.text_grammar.specs.declared.kind.Kind.TheVariants as k
use Rattle.text_grammar.specs.declared.kind.Level.{Level}
use Rattle.text_grammar.specs.declared.kind.Level.TheVariants as level
use Rattle.text_grammar.specs.declared.tree.UnaryOp.{UnaryOp}
use Rattle.text_grammar.specs.declared.tree.UnaryOp.TheVariants as u
use Rattle.text_grammar.specs.declared.tree.BinaryOp.{BinaryOp}
use Rattle.text_grammar.specs.declared.tree.BinaryOp.TheVariants as b
use Rattle.text_grammar.specs.declared.tree.TypeName.{TypeName}
use Rattle.text_grammar.specs.declared.tree.Expr.{Expr, map-Expr}
use Rattle.text_grammar.specs.declared.tree.Expr.TheVariants as e
use Rattle.text_grammar.specs.declared.tree.Expr.TheOpen.{Expr-F}
use Rattle.text_grammar.specs.declared.tree.Expr.TheViews.{roll-Expr}
use Rattle.text_grammar.specs.declared.tree.Expr.TheFolds.{fold-roll-Expr}
use Rattle.text_grammar.specs.Lexical.{number_value, is_unsigned_number, element_value}
use Rattle.text_grammar.specs.Grammar.{Symbol, prefix_of, operator_of}
use Rattle.text_grammar.specs.Grammar as g
use Rattle.text_grammar.specs.laws.Sound.{lift, lift_operand}
use Rattle.text_print.specs.Spelling.{prefix_kind, operator_kind, fixed, name, number, character}
use Rattle.text_print.specs.Canonical.{parenthesised, bracketed, type_tokens, Tight, Prefixed, Infixed, Printed, is_tight, is_infixed, operand, target, expr_step, printed, expr_tokens}
use Rattle.text_print.specs.SameTree.{SameType, SameExpr}
use Rattle.text_print.specs.SameTree as same
use Rattle.text_print.specs.Placed.{placed}
use Rattle.text_print.proofs.Again.{IsReadable, Again, Anywhere, Each, behind, placed_append, split, type_again}

-- Operators.

prefix_again : (op : UnaryOp) → prefix_of (prefix_kind op) ≡ Some op
prefix_again u.Neg = refl
prefix_again u.Flip = refl
prefix_again u.Not = refl
prefix_again u.Deref = refl
prefix_again u.Address = refl

level_of : BinaryOp → Level
level_of b.OrOr = level.Or
level_of b.AndAnd = level.And
level_of b.Or = level.BitOr
level_of b.Xor = level.BitXor
level_of b.And = level.BitAnd
level_of b.Eq = level.Equality
level_of b.Ne = level.Equality
level_of b.Lt = level.Order
level_of b.Gt = level.Order
level_of b.Le = level.Order
level_of b.Ge = level.Order
level_of b.Shl = level.Shift
level_of b.Shr = level.Shift
level_of b.Add = level.Sum
level_of b.Sub = level.Sum
level_of b.Mul = level.Product
level_of b.Div = level.Product
level_of b.Rem = level.Product

operator_again : (op : BinaryOp) → operator_of (level_of op) (operator_kind op) ≡ Some op
unfolding level_of
operator_again b.OrOr = refl
operator_again b.AndAnd = refl
operator_again b.Or = refl
operator_again b.Xor = refl
operator_again b.And = refl
operator_again b.Eq = refl
operator_again b.Ne = refl
operator_again b.Lt = refl
operator_again b.Gt = refl
operator_again b.Le = refl
operator_again b.Ge = refl
operator_again b.Shl = refl
operator_again b.Shr = refl
operator_again b.Add = refl
operator_again b.Sub = refl
operator_again b.Mul = refl
operator_again b.Div = refl
operator_again b.Rem = refl

-- a chain of any level is an expression
up_and : {a : List Symbol} {t : Expr} → g.Chain level.And a t → g.Chain level.Or a t
up_and d = g.operand (g.of_or d)

up_bit_or : {a : List Symbol} {t : Expr} → g.Chain level.BitOr a t → g.Chain level.Or a t
up_bit_or d = up_and (g.operand (g.of_and d))

up_bit_xor : {a : List Symbol} {t : Expr} → g.Chain level.BitXor a t → g.Chain level.Or a t
up_bit_xor d = up_bit_or (g.operand (g.of_bit_or d))

up_bit_and : {a : List Symbol} {t : Expr} → g.Chain level.BitAnd a t → g.Chain level.Or a t
up_bit_and d = up_bit_xor (g.operand (g.of_bit_xor d))

up_equality : {a : List Symbol} {t : Expr} → g.Chain level.Equality a t → g.Chain level.Or a t
up_equality d = up_bit_and (g.operand (g.of_bit_and d))

up_order : {a : List Symbol} {t : Expr} → g.Chain level.Order a t → g.Chain level.Or a t
up_order d = up_equality (g.operand (g.of_equality d))

up_shift : {a : List Symbol} {t : Expr} → g.Chain level.Shift a t → g.Chain level.Or a t
up_shift d = up_order (g.operand (g.of_order d))

up_sum : {a : List Symbol} {t : Expr} → g.Chain level.Sum a t → g.Chain level.Or a t
up_sum d = up_shift (g.operand (g.of_shift d))

up_product : {a : List Symbol} {t : Expr} → g.Chain level.Product a t → g.Chain level.Or a t
up_product d = up_sum (g.operand (g.of_sum d))

up : (l : Level) {a : List Symbol} {t : Expr} → g.Chain l a t → g.Chain level.Or a t
up level.Or d = d
up level.And d = up_and d
up level.BitOr d = up_bit_or d
up level.BitXor d = up_bit_xor d
up level.BitAnd d = up_bit_and d
up level.Equality d = up_equality d
up level.Order d = up_order d
up level.Shift d = up_shift d
up level.Sum d = up_sum d
up level.Product d = up_product d

-- What is printed for each node.

rolled : (x : Expr-F Expr) → printed (roll-Expr x) ≡ expr_step (map-Expr Expr Printed printed x)
rolled x = fold-roll-Expr Printed expr_step x

pub printed_name : (at : ℕ) (bytes : List ℕ) → printed (e.Name at bytes) ≡ record { tokens = name bytes ∷ []; form = Tight }
printed_name at bytes = ap printed (sym (e.rolls-Name at bytes)) ∙ rolled (Expr-F.Name at bytes)

pub printed_number : (at v : ℕ) (s : Bool) → printed (e.Number at v s) ≡ record { tokens = number v s ∷ []; form = Tight }
printed_number at v s = ap printed (sym (e.rolls-Number at v s)) ∙ rolled (Expr-F.Number at v s)

pub printed_character : (at v : ℕ) → printed (e.Character at v) ≡ record { tokens = character v ∷ []; form = Tight }
printed_character at v = ap printed (sym (e.rolls-Character at v)) ∙ rolled (Expr-F.Character at v)

pub printed_unary : (at : ℕ) (op : UnaryOp) (t : Expr) → printed (e.Unary at op t) ≡ record { tokens = fixed (prefix_kind op) ∷ operand (printed t); form = Prefixed }
printed_unary at op t = ap printed (sym (e.rolls-Unary at op t)) ∙ rolled (Expr-F.Unary at op t)

pub printed_binary : (at : ℕ) (op : BinaryOp) (t v : Expr) → printed (e.Binary at op t v) ≡ record { tokens = operand (printed t) ++ fixed (operator_kind op) ∷ operand (printed v); form = Infixed }
printed_binary at op t v = ap printed (sym (e.rolls-Binary at op t v)) ∙ rolled (Expr-F.Binary at op t v)

pub printed_cast : (at : ℕ) (to : TypeName) (t : Expr) → printed (e.Cast at to t) ≡ record { tokens = fixed k.LParen ∷ (type_tokens to ++ fixed k.RParen ∷ operand (printed t)); form = Prefixed }
printed_cast at to t = ap printed (sym (e.rolls-Cast at to t)) ∙ rolled (Expr-F.Cast at to t)

pub printed_sizeof_type : (at : ℕ) (to : TypeName) → printed (e.SizeofType at to) ≡ record { tokens = fixed k.KwSizeof ∷ parenthesised (type_tokens to); form = Prefixed }
printed_sizeof_type at to = ap printed (sym (e.rolls-SizeofType at to)) ∙ rolled (Expr-F.SizeofType at to)

pub printed_sizeof : (at : ℕ) (t : Expr) → printed (e.Sizeof at t) ≡ record { tokens = fixed k.KwSizeof ∷ operand (printed t); form = Prefixed }
printed_sizeof at t = ap printed (sym (e.rolls-Sizeof at t)) ∙ rolled (Expr-F.Sizeof at t)

pub printed_index : (at : ℕ) (t i : Expr) → printed (e.Index at t i) ≡ record { tokens = operand (printed t) ++ bracketed (expr_tokens i); form = Tight }
printed_index at t i = ap printed (sym (e.rolls-Index at t i)) ∙ rolled (Expr-F.Index at t i)

pub printed_member : (at : ℕ) (t : Expr) (bytes : List ℕ) → printed (e.Member at t bytes) ≡ record { tokens = operand (printed t) ++ fixed k.Dot ∷ name bytes ∷ []; form = Tight }
printed_member at t bytes = ap printed (sym (e.rolls-Member at t bytes)) ∙ rolled (Expr-F.Member at t bytes)

pub printed_arrow : (at : ℕ) (t : Expr) (bytes : List ℕ) → printed (e.Arrow at t bytes) ≡ record { tokens = operand (printed t) ++ fixed k.Arrow ∷ name bytes ∷ []; form = Tight }
printed_arrow at t bytes = ap printed (sym (e.rolls-Arrow at t bytes)) ∙ rolled (Expr-F.Arrow at t bytes)

-- Reading again.

pub record ExprAgain (t : Expr) : Type 0 where
  pub whole : Anywhere g.ReadsExpr SameExpr (expr_tokens t) t
  pub tight : is_tight (printed t).form ≡ true → Anywhere g.Postfix SameExpr (expr_tokens t) t
  pub unary : is_infixed (printed t).form ≡ false → Anywhere g.Unary SameExpr (expr_tokens t) t

true_false : true ≡ false → ⊥
true_false h = cc

-- as what it reads, by the form that is printed
tightly : (t : Expr) (p : Printed) → printed t ≡ p → p.form ≡ Tight → Anywhere g.Postfix SameExpr p.tokens t → ExprAgain t
tightly t p is f r =
    let s : Anywhere g.Postfix SameExpr (expr_tokens t) t = subst (λ (z : Printed). Anywhere g.Postfix SameExpr z.tokens t) (sym is) r in
    record {
      whole = λ n. let x = s n in record { tree = x.tree; same = x.same; reads = lift level.Or (g.uncast (g.postfix x.reads)) };
      tight = λ h. s;
      unary = λ h n. let x = s n in record { tree = x.tree; same = x.same; reads = g.uncast (g.postfix x.reads) };
    }

prefixed : (t : Expr) (p : Printed) → printed t ≡ p → p.form ≡ Prefixed → Anywhere g.Unary SameExpr p.tokens t → ExprAgain t
prefixed t p is f r =
    let s : Anywhere g.Unary SameExpr (expr_tokens t) t = subst (λ (z : Printed). Anywhere g.Unary SameExpr z.tokens t) (sym is) r in
    let form : (printed t).form ≡ Prefixed = ap (λ (z : Printed). z.form) is ∙ f in
    record {
      whole = λ n. let x = s n in record { tree = x.tree; same = x.same; reads = lift level.Or x.reads };
      tight = λ h. absurd (true_false (sym h ∙ ap is_tight form));
      unary = λ h. s;
    }

infixed : (t : Expr) (p : Printed) → printed t ≡ p → p.form ≡ Infixed → Anywhere g.ReadsExpr SameExpr p.tokens t → ExprAgain t
infixed t p is f r =
    let s : Anywhere g.ReadsExpr SameExpr (expr_tokens t) t = subst (λ (z : Printed). Anywhere g.ReadsExpr SameExpr z.tokens t) (sym is) r in
    let form : (printed t).form ≡ Infixed = ap (λ (z : Printed). z.form) is ∙ f in
    record {
      whole = s;
      tight = λ h. absurd (true_false (sym h ∙ ap is_tight form));
      unary = λ h. absurd (true_false (sym (ap is_infixed form) ∙ h));
    }

-- in parentheses
parens_again : (t : Expr) → ExprAgain t → Anywhere g.Postfix SameExpr (parenthesised (expr_tokens t)) t
parens_again t h n =
    let m = n + length (fixed k.LParen).text + 1 in
    let x = h.whole m in
    record {
      tree = x.tree;
      same = x.same;
      reads = g.primary (subst (λ (q : List Symbol). g.Primary (placed n (fixed k.LParen ∷ []) ++ q) x.tree) (sym (placed_append m (expr_tokens t) (fixed k.RParen ∷ []))) (g.parens _ _ refl x.reads refl));
    }

pub operand_again : (t : Expr) → ExprAgain t → Anywhere g.Postfix SameExpr (operand (printed t)) t
operand_again t h n = go (is_tight (printed t).form) refl
  where
    go : (c : Bool) → is_tight (printed t).form ≡ c → Again g.Postfix SameExpr (placed n (if c then (expr_tokens t) else parenthesised (expr_tokens t))) t
    go true is = h.tight is n
    go false is = parens_again t h n

pub target_again : (t : Expr) → ExprAgain t → Anywhere g.Unary SameExpr (target (printed t)) t
target_again t h n = go (is_infixed (printed t).form) refl
  where
    go : (c : Bool) → is_infixed (printed t).form ≡ c → Again g.Unary SameExpr (placed n (if c then parenthesised (expr_tokens t) else (expr_tokens t))) t
    go true is = let x = parens_again t h n in record { tree = x.tree; same = x.same; reads = g.uncast (g.postfix x.reads) }
    go false is = h.unary is n

-- Each node.

name_node : (at : ℕ) (bytes : List ℕ) → ExprAgain (e.Name at bytes)
name_node at bytes = tightly (e.Name at bytes) _ (printed_name at bytes) refl (λ n. record { tree = e.Name n bytes; same = same.SameExpr.name at n bytes; reads = g.primary (g.name _ refl) })

number_node : (at v : ℕ) (s : Bool) → number_value (number v s).text ≡ v → is_unsigned_number (number v s).text ≡ s → ExprAgain (e.Number at v s)
number_node at v s hv hs =
    tightly (e.Number at v s) _ (printed_number at v s) refl
    (λ n. record {
      tree = e.Number n v s;
      same = same.SameExpr.number at n v s;
      reads = subst (λ (z : Bool). g.Postfix (placed n (number v s ∷ [])) (e.Number n v z)) hs
          (subst (λ (z : ℕ). g.Postfix (placed n (number v s ∷ [])) (e.Number n z (is_unsigned_number (number v s).text))) hv (g.primary (g.number _ refl)));
    })

character_node : (at v : ℕ) → element_value (drop 1 (character v).text) ≡ v → ExprAgain (e.Character at v)
character_node at v h =
    tightly (e.Character at v) _ (printed_character at v) refl
    (λ n. record { tree = e.Character n v; same = same.SameExpr.character at n v; reads = subst (λ (z : ℕ). g.Postfix (placed n (character v ∷ [])) (e.Character n z)) h (g.primary (g.character _ refl)) })

unary_node : (at : ℕ) (op : UnaryOp) (t : Expr) → ExprAgain t → ExprAgain (e.Unary at op t)
unary_node at op t h =
    prefixed (e.Unary at op t) _ (printed_unary at op t) refl
    (λ n. let x = operand_again t h (n + length (fixed (prefix_kind op)).text + 1) in
    record { tree = e.Unary n op x.tree; same = same.SameExpr.unary at n op x.same; reads = g.uncast (g.prefix _ op (prefix_again op) (g.uncast (g.postfix x.reads))) })

binary_node : (at : ℕ) (op : BinaryOp) (t v : Expr) → ExprAgain t → ExprAgain v → ExprAgain (e.Binary at op t v)
binary_node at op t v h h' =
    infixed (e.Binary at op t v) _ (printed_binary at op t v) refl
    (λ n. let m = behind n (operand (printed t)) in
    let x = operand_again t h n in
    let y = operand_again v h' (m + length (fixed (operator_kind op)).text + 1) in
    record {
      tree = e.Binary m op x.tree y.tree;
      same = same.SameExpr.binary at m op x.same y.same;
      reads = subst (λ (q : List Symbol). g.ReadsExpr q (e.Binary m op x.tree y.tree)) (sym (placed_append n (operand (printed t)) (fixed (operator_kind op) ∷ operand (printed v))))
          (up (level_of op) (g.binary _ op (lift (level_of op) (g.uncast (g.postfix x.reads))) (operator_again op) (lift_operand (level_of op) (g.uncast (g.postfix y.reads)))));
    })

cast_node : (at : ℕ) (to : TypeName) (t : Expr) → ExprAgain t → ExprAgain (e.Cast at to t)
cast_node at to t h =
    prefixed (e.Cast at to t) _ (printed_cast at to t) refl
    (λ n. let m = n + length (fixed k.LParen).text + 1 in
    let l = behind m (type_tokens to) in
    let x = type_again to m in
    let y = operand_again t h (l + length (fixed k.RParen).text + 1) in
    let tree = e.Cast n x.tree y.tree in
    record {
      tree = tree;
      same = same.SameExpr.cast at n x.same y.same;
      reads = subst (λ (q : List Symbol). g.Unary (placed n (fixed k.LParen ∷ []) ++ q) tree) (sym (placed_append m (type_tokens to) (fixed k.RParen ∷ operand (printed t))))
          (g.cast _ _ refl x.reads refl (g.uncast (g.postfix y.reads)));
    })

sizeof_type_node : (at : ℕ) (to : TypeName) → ExprAgain (e.SizeofType at to)
sizeof_type_node at to =
    prefixed (e.SizeofType at to) _ (printed_sizeof_type at to) refl
    (λ n. let m = n + length (fixed k.KwSizeof).text + 1 in
    let l = m + length (fixed k.LParen).text + 1 in
    let x = type_again to l in
    let tree = e.SizeofType n x.tree in
    record {
      tree = tree;
      same = same.SameExpr.sizeof_type at n x.same;
      reads = subst (λ (q : List Symbol). g.Unary (placed n (fixed k.KwSizeof ∷ fixed k.LParen ∷ []) ++ q) tree) (sym (placed_append l (type_tokens to) (fixed k.RParen ∷ [])))
          (g.uncast (g.sizeof_type _ _ _ refl refl x.reads refl));
    })

sizeof_node : (at : ℕ) (t : Expr) → ExprAgain t → ExprAgain (e.Sizeof at t)
sizeof_node at t h =
    prefixed (e.Sizeof at t) _ (printed_sizeof at t) refl
    (λ n. let x = operand_again t h (n + length (fixed k.KwSizeof).text + 1) in
    record { tree = e.Sizeof n x.tree; same = same.SameExpr.sizeof at n x.same; reads = g.uncast (g.sizeof _ refl (g.postfix x.reads)) })

index_node : (at : ℕ) (t i : Expr) → ExprAgain t → ExprAgain i → ExprAgain (e.Index at t i)
index_node at t i h h' =
    tightly (e.Index at t i) _ (printed_index at t i) refl
    (λ n. let m = behind n (operand (printed t)) in
    let l = m + length (fixed k.LBracket).text + 1 in
    let x = operand_again t h n in
    let y = h'.whole l in
    let tree = e.Index m x.tree y.tree in
    record {
      tree = tree;
      same = same.SameExpr.index at m x.same y.same;
      reads = subst (λ (q : List Symbol). g.Postfix q tree)
          (sym (placed_append n (operand (printed t)) (bracketed (expr_tokens i)) ∙ ap (λ (q : List Symbol). placed n (operand (printed t)) ++ (placed m (fixed k.LBracket ∷ []) ++ q)) (placed_append l (expr_tokens i) (fixed k.RBracket ∷ []))))
          (g.index _ _ x.reads refl y.reads refl);
    })

member_node : (at : ℕ) (t : Expr) (bytes : List ℕ) → ExprAgain t → ExprAgain (e.Member at t bytes)
member_node at t bytes h =
    tightly (e.Member at t bytes) _ (printed_member at t bytes) refl
    (λ n. let m = behind n (operand (printed t)) + length (fixed k.Dot).text + 1 in
    let x = operand_again t h n in
    let tree = e.Member m x.tree bytes in
    record {
      tree = tree;
      same = same.SameExpr.member at m bytes x.same;
      reads = subst (λ (q : List Symbol). g.Postfix q tree) (sym (placed_append n (operand (printed t)) (fixed k.Dot ∷ name bytes ∷ []))) (g.member _ _ x.reads refl refl);
    })

arrow_node : (at : ℕ) (t : Expr) (bytes : List ℕ) → ExprAgain t → ExprAgain (e.Arrow at t bytes)
arrow_node at t bytes h =
    tightly (e.Arrow at t bytes) _ (printed_arrow at t bytes) refl
    (λ n. let m = behind n (operand (printed t)) + length (fixed k.Arrow).text + 1 in
    let x = operand_again t h n in
    let tree = e.Arrow m x.tree bytes in
    record {
      tree = tree;
      same = same.SameExpr.arrow at m bytes x.same;
      reads = subst (λ (q : List Symbol). g.Postfix q tree) (sym (placed_append n (operand (printed t)) (fixed k.Arrow ∷ name bytes ∷ []))) (g.arrow _ _ x.reads refl refl);
    })

-- Each alternative of the grammar.

mutual
  primary_again : {a : List Symbol} {t : Expr} → g.Primary a t → Each IsReadable a → ExprAgain t
  primary_again (g.name x h) r = name_node x.at x.text
  primary_again (g.number x h) r = number_node x.at (number_value x.text) (is_unsigned_number x.text) (r.0.number h) (r.0.sign h)
  primary_again (g.character x h) r = character_node x.at (element_value (drop 1 x.text)) (r.0.character h)
  primary_again (g.parens x y {a = a} h d h') r = chain_again d (split IsReadable a (y ∷ []) r.1).0

  postfix_again : {a : List Symbol} {t : Expr} → g.Postfix a t → Each IsReadable a → ExprAgain t
  postfix_again (g.primary d) r = primary_again d r
  postfix_again (g.index x y {a = a} {c = c} {t = t} {i = i} d h d' h') r =
      let s = split IsReadable a (x ∷ (c ++ y ∷ [])) r in
      index_node x.at t i (postfix_again d s.0) (chain_again d' (split IsReadable c (y ∷ []) s.1.1).0)
  postfix_again (g.member x y {a = a} {t = t} d h h') r = member_node y.at t y.text (postfix_again d (split IsReadable a (x ∷ y ∷ []) r).0)
  postfix_again (g.arrow x y {a = a} {t = t} d h h') r = arrow_node y.at t y.text (postfix_again d (split IsReadable a (x ∷ y ∷ []) r).0)

  uncast_again : {a : List Symbol} {t : Expr} → g.Uncast a t → Each IsReadable a → ExprAgain t
  uncast_again (g.postfix d) r = postfix_again d r
  uncast_again (g.prefix x op {t = t} h d) r = unary_node x.at op t (unary_again d r.1)
  uncast_again (g.sizeof_type x y z {t = t} h h' d h'') r = sizeof_type_node x.at t
  uncast_again (g.sizeof x {t = t} h d) r = sizeof_node x.at t (uncast_again d r.1)

  pub unary_again : {a : List Symbol} {t : Expr} → g.Unary a t → Each IsReadable a → ExprAgain t
  unary_again (g.uncast d) r = uncast_again d r
  unary_again (g.cast x y {a = a} {c = c} {t = to} {v = t} h d h' d') r = cast_node x.at to t (unary_again d' (split IsReadable a (y ∷ c) r.1).1.1)

  level_again : {l : Level} {a : List Symbol} {t : Expr} → g.Operand l a t → Each IsReadable a → ExprAgain t
  level_again (g.of_or d) r = chain_again d r
  level_again (g.of_and d) r = chain_again d r
  level_again (g.of_bit_or d) r = chain_again d r
  level_again (g.of_bit_xor d) r = chain_again d r
  level_again (g.of_bit_and d) r = chain_again d r
  level_again (g.of_equality d) r = chain_again d r
  level_again (g.of_order d) r = chain_again d r
  level_again (g.of_shift d) r = chain_again d r
  level_again (g.of_sum d) r = chain_again d r
  level_again (g.of_product d) r = unary_again d r

  pub chain_again : {l : Level} {a : List Symbol} {t : Expr} → g.Chain l a t → Each IsReadable a → ExprAgain t
  chain_again (g.operand d) r = level_again d r
  chain_again (g.binary x op {a = a} {c = c} {t = t} {v = v} d h d') r =
      let s = split IsReadable a (x ∷ c) r in binary_node x.at op t v (chain_again d s.0) (level_again d' s.1.1)
