-- The canonical tokens of a statement read as the same statement.
use Rattle.std.proofs.Common.{◌≡◌, ℕ, ◌+◌, List, [], ◌∷◌, ◌++◌, length, map, Option, Some, None, refl, sym, ap, ◌∙◌, subst, append_assoc}
use Rattle.std.proofs.lemmas.List.{append-nil}
use Rattle.std.proofs.lemmas.Grind.{flat_map-append}
use Rattle.std.specs.List.{flat_map}
use Rattle.text_grammar.specs.declared.kind.Kind.{Kind}
use Rattle.text_grammar.specs.declared.kind.Kind.TheVariants as k
use Rattle.text_grammar.specs.declared.tree.Expr.{Expr}
use Rattle.text_grammar.specs.declared.tree.Call.{Call}
use Rattle.text_grammar.specs.declared.tree.AssignedValue.TheVariants as value
use Rattle.text_grammar.specs.declared.tree.Simple.{Simple}
use Rattle.text_grammar.specs.declared.tree.Simple.TheVariants as act
use Rattle.text_grammar.specs.declared.tree.Stmt.{Stmt}
use Rattle.text_grammar.specs.declared.tree.Stmt.TheVariants as s
use Rattle.text_grammar.specs.declared.tree.Stmt.TheOpen.{Stmt-F}
use Rattle.text_grammar.specs.declared.tree.Stmt.TheViews.{roll-Stmt}
use Rattle.text_grammar.specs.declared.tree.Stmt.TheFolds.{map-Stmt, fold-roll-Stmt, fold-roll-Arm}
use Rattle.text_grammar.specs.declared.tree.Arm.{Arm, roll-Arm}
use Rattle.text_grammar.specs.Grammar.{Symbol}
use Rattle.text_grammar.specs.Grammar as g
use Rattle.text_print.specs.Spelling.{fixed, name}
use Rattle.text_print.specs.Canonical.{separated, parenthesised, braced, in_a_row, expr_tokens, printed, target, call_tokens, simple_tokens, maybe_expr_tokens, maybe_simple_tokens, for_tokens, stmt_step, arm_step, stmt_tokens, arm_tokens}
use Rattle.text_print.specs.SameTree.{SameExpr, SameExprs, SameCall, SameValue, SameSimple, SameMaybe, SameStmt, SameStmts, SameArms}
use Rattle.text_print.specs.SameTree as same
use Rattle.text_print.specs.Placed.{placed}
use Rattle.text_print.proofs.Rows.{separated_map, in_a_row_map}
use Rattle.text_print.proofs.Again.{IsReadable, Again, Anywhere, Each, behind, placed_append, split}
use Rattle.text_print.proofs.ExpressionsAgain.{ExprAgain, chain_again, unary_again, target_again}

-- Rows.

pub flat_more : {A : Type 0} (f : A → List Symbol) (xs : List A) (x : A) → flat_map f (xs ++ x ∷ []) ≡ flat_map f xs ++ f x
flat_more f xs x = flat_map-append f xs (x ∷ []) ∙ ap (λ q. flat_map f xs ++ q) (append-nil (f x))

pub separated_one : {A : Type 0} (kind : Kind) (f : A → List Symbol) (x : A) → separated kind f (x ∷ []) ≡ f x
separated_one kind f x = append-nil (f x)

-- a list with at least one item
pub data HasFirst {A : Type 0} : List A → Type 0 where
  first : (x : A) (xs : List A) → HasFirst (x ∷ xs)

pub has_first : {A : Type 0} (xs : List A) (x : A) → HasFirst (xs ++ x ∷ [])
has_first [] x = first x []
has_first (y ∷ xs) x = first y (xs ++ x ∷ [])

pub separated_more : {A : Type 0} (kind : Kind) (f : A → List Symbol) (xs : List A) (x : A) → HasFirst xs → separated kind f (xs ++ x ∷ []) ≡ separated kind f xs ++ fixed kind ∷ f x
separated_more kind f _ x (first y ys) =
    ap (λ q. f y ++ q) (flat_more (λ z. fixed kind ∷ f z) ys x) ∙ sym (append_assoc (f y) (flat_map (λ z. fixed kind ∷ f z) ys) (fixed kind ∷ f x))

-- Calls and simple statements.

pub arguments_first : {a : List Symbol} {ts : List Expr} → g.Arguments a ts → HasFirst ts
arguments_first (g.Arguments.one {t = t} d) = first t []
arguments_first (g.Arguments.more x {ts = ts} {t = t} d h d') = has_first ts t

arguments_again : {a : List Symbol} {ts : List Expr} → g.Arguments a ts → Each IsReadable a → Anywhere g.Arguments SameExprs (separated k.Comma expr_tokens ts) ts
arguments_again (g.Arguments.one {t = t} d) r n =
    let x = (chain_again d r).whole n in
    record {
      tree = x.tree ∷ [];
      same = same.SameExprs.more {ts = []} {us = []} same.SameExprs.none x.same;
      reads = subst (λ (q : List Symbol). g.Arguments (placed n q) (x.tree ∷ [])) (sym (separated_one k.Comma expr_tokens t)) (g.Arguments.one x.reads);
    }
arguments_again (g.Arguments.more x {a = a} {c = c} {ts = ts} {t = t} d h d') r n =
    let z = split IsReadable a (x ∷ c) r in
    let f = arguments_again d z.0 n in
    let m = behind n (separated k.Comma expr_tokens ts) in
    let y = (chain_again d' z.1.1).whole (m + length (fixed k.Comma).text + 1) in
    record {
      tree = f.tree ++ y.tree ∷ [];
      same = same.SameExprs.more f.same y.same;
      reads = subst (λ (q : List Symbol). g.Arguments q (f.tree ++ y.tree ∷ []))
          (sym (ap (placed n) (separated_more k.Comma expr_tokens ts t (arguments_first d)) ∙ placed_append n (separated k.Comma expr_tokens ts) (fixed k.Comma ∷ expr_tokens t)))
          (g.Arguments.more _ f.reads refl y.reads);
    }

call_again : {a : List Symbol} {c : Call} → g.CallReads a c → Each IsReadable a → Anywhere g.CallReads SameCall (call_tokens c) c
call_again (g.CallReads.none x y z h h' h'') r n =
    record {
      tree = record { name = record { at = n; bytes = x.text }; arguments = [] };
      same = record { name = refl; arguments = same.SameExprs.none };
      reads = g.CallReads.none _ _ _ refl refl refl;
    }
call_again (g.CallReads.some x y z {a = a} {ts = ts} h h' d h'') r n =
    let m = n + length (name x.text).text + 1 + length (fixed k.LParen).text + 1 in
    let f = arguments_again d (split IsReadable a (z ∷ []) r.1.1).0 m in
    let tree : Call = record { name = record { at = n; bytes = x.text }; arguments = f.tree } in
    record {
      tree = tree;
      same = record { name = refl; arguments = f.same };
      reads = subst (λ (q : List Symbol). g.CallReads (placed n (name x.text ∷ fixed k.LParen ∷ []) ++ q) tree) (sym (placed_append m (separated k.Comma expr_tokens ts) (fixed k.RParen ∷ [])))
          (g.CallReads.some _ _ _ refl refl f.reads refl);
    }

simple_again : {a : List Symbol} {t : Simple} → g.SimpleReads a t → Each IsReadable a → Anywhere g.SimpleReads SameSimple (simple_tokens t) t
simple_again (g.SimpleReads.call d) r n = let x = call_again d r n in record { tree = act.Call x.tree; same = same.SameSimple.call x.same; reads = g.SimpleReads.call x.reads }
simple_again (g.SimpleReads.assign x {a = a} {c = c} {t = t} {v = v} d h d') r n =
    let z = split IsReadable a (x ∷ c) r in
    let m = behind n (target (printed t)) in
    let f = target_again t (unary_again d z.0) n in
    let y = (chain_again d' z.1.1).whole (m + length (fixed k.Assign).text + 1) in
    let tree = act.Assign m f.tree (value.Expr y.tree) in
    record {
      tree = tree;
      same = same.SameSimple.assign x.at m f.same (same.SameValue.expr y.same);
      reads = subst (λ (q : List Symbol). g.SimpleReads q tree) (sym (placed_append n (target (printed t)) (fixed k.Assign ∷ expr_tokens v))) (g.SimpleReads.assign _ f.reads refl y.reads);
    }
simple_again (g.SimpleReads.assign_call x {a = a} {c = c} {t = t} {v = v} d h d') r n =
    let z = split IsReadable a (x ∷ c) r in
    let m = behind n (target (printed t)) in
    let f = target_again t (unary_again d z.0) n in
    let y = call_again d' z.1.1 (m + length (fixed k.Assign).text + 1) in
    let tree = act.Assign m f.tree (value.Call y.tree) in
    record {
      tree = tree;
      same = same.SameSimple.assign x.at m f.same (same.SameValue.call y.same);
      reads = subst (λ (q : List Symbol). g.SimpleReads q tree) (sym (placed_append n (target (printed t)) (fixed k.Assign ∷ call_tokens v))) (g.SimpleReads.assign_call _ f.reads refl y.reads);
    }

maybe_simple_again : {a : List Symbol} {t : Option Simple} → g.MaybeSimple a t → Each IsReadable a → Anywhere g.MaybeSimple (SameMaybe SameSimple) (maybe_simple_tokens t) t
maybe_simple_again g.MaybeSimple.none r n = record { tree = None; same = same.SameMaybe.none; reads = g.MaybeSimple.none }
maybe_simple_again (g.MaybeSimple.some d) r n = let x = simple_again d r n in record { tree = Some x.tree; same = same.SameMaybe.some x.same; reads = g.MaybeSimple.some x.reads }

maybe_expr_again : {a : List Symbol} {t : Option Expr} → g.MaybeExpr a t → Each IsReadable a → Anywhere g.MaybeExpr (SameMaybe SameExpr) (maybe_expr_tokens t) t
maybe_expr_again g.MaybeExpr.none r n = record { tree = None; same = same.SameMaybe.none; reads = g.MaybeExpr.none }
maybe_expr_again (g.MaybeExpr.some d) r n = let x = (chain_again d r).whole n in record { tree = Some x.tree; same = same.SameMaybe.some x.same; reads = g.MaybeExpr.some x.reads }

-- What is printed for each node.

rolled : (x : Stmt-F Stmt Arm) → stmt_tokens (roll-Stmt x) ≡ stmt_step (map-Stmt Stmt Arm (List Symbol) (List Symbol) stmt_tokens arm_tokens x)
rolled x = fold-roll-Stmt (List Symbol) (List Symbol) stmt_step arm_step x

abbrev row : List Stmt → List Symbol
row c = flat_map stmt_tokens c

abbrev choices : List Arm → List Symbol
choices arms = separated k.KwElse arm_tokens arms

pub tokens_empty : (at : ℕ) → stmt_tokens (s.Empty at) ≡ fixed k.Semi ∷ []
tokens_empty at = ap stmt_tokens (sym (s.rolls-Empty at)) ∙ rolled (Stmt-F.Empty at)

pub tokens_block : (at : ℕ) (c : List Stmt) → stmt_tokens (s.Block at c) ≡ braced (row c)
tokens_block at c = ap stmt_tokens (sym (s.rolls-Block at c)) ∙ rolled (Stmt-F.Block at c) ∙ ap braced (in_a_row_map stmt_tokens c)

pub tokens_simple : (t : Simple) → stmt_tokens (s.Simple t) ≡ simple_tokens t ++ fixed k.Semi ∷ []
tokens_simple t = ap stmt_tokens (sym (s.rolls-Simple t)) ∙ rolled (Stmt-F.Simple t)

pub tokens_return : (at : ℕ) (t : Option Expr) → stmt_tokens (s.Return at t) ≡ fixed k.KwReturn ∷ (maybe_expr_tokens t ++ fixed k.Semi ∷ [])
tokens_return at t = ap stmt_tokens (sym (s.rolls-Return at t)) ∙ rolled (Stmt-F.Return at t)

pub tokens_break : (at : ℕ) → stmt_tokens (s.Break at) ≡ fixed k.KwBreak ∷ fixed k.Semi ∷ []
tokens_break at = ap stmt_tokens (sym (s.rolls-Break at)) ∙ rolled (Stmt-F.Break at)

pub tokens_continue : (at : ℕ) → stmt_tokens (s.Continue at) ≡ fixed k.KwContinue ∷ fixed k.Semi ∷ []
tokens_continue at = ap stmt_tokens (sym (s.rolls-Continue at)) ∙ rolled (Stmt-F.Continue at)

pub tokens_choice : (arms : List Arm) → stmt_tokens (s.If arms None) ≡ choices arms
tokens_choice arms =
    ap stmt_tokens (sym (s.rolls-If arms None)) ∙ rolled (Stmt-F.If arms None)
    ∙ append-nil (separated k.KwElse (λ ts. ts) (map arm_tokens arms)) ∙ separated_map k.KwElse arm_tokens arms

pub tokens_choice_else : (arms : List Arm) (c : List Stmt) → stmt_tokens (s.If arms (Some c)) ≡ choices arms ++ fixed k.KwElse ∷ braced (row c)
tokens_choice_else arms c =
    ap stmt_tokens (sym (s.rolls-If arms (Some c))) ∙ rolled (Stmt-F.If arms (Some c))
    ∙ ap (λ q. q ++ fixed k.KwElse ∷ braced (in_a_row (map stmt_tokens c))) (separated_map k.KwElse arm_tokens arms)
    ∙ ap (λ q. choices arms ++ fixed k.KwElse ∷ braced q) (in_a_row_map stmt_tokens c)

pub tokens_while : (at : ℕ) (t : Expr) (c : List Stmt) → stmt_tokens (s.While at t c) ≡ fixed k.KwWhile ∷ (parenthesised (expr_tokens t) ++ braced (row c))
tokens_while at t c =
    ap stmt_tokens (sym (s.rolls-While at t c)) ∙ rolled (Stmt-F.While at t c) ∙ ap (λ q. fixed k.KwWhile ∷ (parenthesised (expr_tokens t) ++ braced q)) (in_a_row_map stmt_tokens c)

pub tokens_do : (at : ℕ) (c : List Stmt) (t : Expr) → stmt_tokens (s.Do at c t) ≡ fixed k.KwDo ∷ (braced (row c) ++ fixed k.KwWhile ∷ (parenthesised (expr_tokens t) ++ fixed k.Semi ∷ []))
tokens_do at c t =
    ap stmt_tokens (sym (s.rolls-Do at c t)) ∙ rolled (Stmt-F.Do at c t)
    ∙ ap (λ q. fixed k.KwDo ∷ (braced q ++ fixed k.KwWhile ∷ (parenthesised (expr_tokens t) ++ fixed k.Semi ∷ []))) (in_a_row_map stmt_tokens c)

pub tokens_for : (at : ℕ) (f : Option Simple) (t : Option Expr) (l : Option Simple) (c : List Stmt) → stmt_tokens (s.For at f t l c) ≡ for_tokens f t l ++ braced (row c)
tokens_for at f t l c = ap stmt_tokens (sym (s.rolls-For at f t l c)) ∙ rolled (Stmt-F.For at f t l c) ∙ ap (λ q. for_tokens f t l ++ braced q) (in_a_row_map stmt_tokens c)

pub tokens_arm : (at : ℕ) (t : Expr) (c : List Stmt) → arm_tokens (roll-Arm (record { at = at; test = t; body = c })) ≡ fixed k.KwIf ∷ (parenthesised (expr_tokens t) ++ braced (row c))
tokens_arm at t c =
    fold-roll-Arm (List Symbol) (List Symbol) stmt_step arm_step (record { at = at; test = t; body = c })
    ∙ ap (λ q. fixed k.KwIf ∷ (parenthesised (expr_tokens t) ++ braced q)) (in_a_row_map stmt_tokens c)

-- Parts between other tokens.

-- tokens in parentheses, and what stands behind them
parens_split : (n : ℕ) (ts rest : List Symbol)
    → let m = n + length (fixed k.LParen).text + 1 in
    placed n (parenthesised ts ++ rest) ≡ placed n (fixed k.LParen ∷ []) ++ (placed m ts ++ placed (behind m ts) (fixed k.RParen ∷ rest))
parens_split n ts rest =
    let m = n + length (fixed k.LParen).text + 1 in
    ap (λ (q : List Symbol). placed n (fixed k.LParen ∷ q)) (append_assoc ts (fixed k.RParen ∷ []) rest)
    ∙ ap (λ (q : List Symbol). placed n (fixed k.LParen ∷ []) ++ q) (placed_append m ts (fixed k.RParen ∷ rest))

-- tokens in braces, and what stands behind them
braces_split : (n : ℕ) (ts rest : List Symbol)
    → let m = n + length (fixed k.LBrace).text + 1 in
    placed n (braced ts ++ rest) ≡ placed n (fixed k.LBrace ∷ []) ++ (placed m ts ++ placed (behind m ts) (fixed k.RBrace ∷ rest))
braces_split n ts rest =
    let m = n + length (fixed k.LBrace).text + 1 in
    ap (λ (q : List Symbol). placed n (fixed k.LBrace ∷ q)) (append_assoc ts (fixed k.RBrace ∷ []) rest)
    ∙ ap (λ (q : List Symbol). placed n (fixed k.LBrace ∷ []) ++ q) (placed_append m ts (fixed k.RBrace ∷ rest))

retold : (t : Stmt) (ts : List Symbol) (n : ℕ) → stmt_tokens t ≡ ts → Again g.Statement SameStmt (placed n ts) t → Again g.Statement SameStmt (placed n (stmt_tokens t)) t
retold t ts n is r = subst (λ (q : List Symbol). Again g.Statement SameStmt (placed n q) t) (sym is) r

-- a block, once its statements are read
block_again : (c : List Stmt) → Anywhere g.Statements SameStmts (row c) c → Anywhere g.Body SameStmts (braced (row c)) c
block_again c h n =
    let m = n + length (fixed k.LBrace).text + 1 in
    let x = h m in
    record {
      tree = x.tree;
      same = x.same;
      reads = subst (λ (q : List Symbol). g.Body (placed n (fixed k.LBrace ∷ []) ++ q) x.tree) (sym (placed_append m (row c) (fixed k.RBrace ∷ []))) (g.Body.braces _ refl (g.Braced.closed _ x.reads refl));
    }

-- a condition and its block
record GuardedAgain (n : ℕ) (t : Expr) (c : List Stmt) : Type 0 where
  test : Expr
  body : List Stmt
  same_test : SameExpr t test
  same_body : SameStmts c body
  reads : g.Guarded (placed n (parenthesised (expr_tokens t) ++ braced (row c))) test body

guard : (t : Expr) (c : List Stmt) → ExprAgain t → Anywhere g.Statements SameStmts (row c) c → (n : ℕ) → GuardedAgain n t c
guard t c h h' n =
    let m = n + length (fixed k.LParen).text + 1 in
    let l = behind m (expr_tokens t) + length (fixed k.RParen).text + 1 in
    let x = h.whole m in
    let y = block_again c h' l in
    record {
      test = x.tree;
      body = y.tree;
      same_test = x.same;
      same_body = y.same;
      reads = subst (λ (q : List Symbol). g.Guarded q x.tree y.tree) (sym (parens_split n (expr_tokens t) (braced (row c)))) (g.Guarded.guarded _ _ refl x.reads refl y.reads);
    }

do_again : (at : ℕ) (c : List Stmt) (t : Expr) → Anywhere g.Statements SameStmts (row c) c → ExprAgain t → Anywhere g.Statement SameStmt (stmt_tokens (s.Do at c t)) (s.Do at c t)
do_again at c t h h' n =
    let m = n + length (fixed k.KwDo).text + 1 in
    let p = behind m (braced (row c)) + length (fixed k.KwWhile).text + 1 in
    let l = p + length (fixed k.LParen).text + 1 in
    let x = block_again c h m in
    let y = h'.whole l in
    let tree = s.Do n x.tree y.tree in
    retold (s.Do at c t) _ n (tokens_do at c t)
    (record {
      tree = tree;
      same = same.SameStmt.do_while at n x.same y.same;
      reads = subst (λ (q : List Symbol). g.Statement (placed n (fixed k.KwDo ∷ []) ++ q) tree)
          (sym (placed_append m (braced (row c)) (fixed k.KwWhile ∷ (parenthesised (expr_tokens t) ++ fixed k.Semi ∷ []))
          ∙ ap (λ (q : List Symbol). placed m (braced (row c)) ++ (placed (behind m (braced (row c))) (fixed k.KwWhile ∷ []) ++ q)) (parens_split p (expr_tokens t) (fixed k.Semi ∷ []))))
          (g.Statement.do_while _ _ _ _ _ refl x.reads refl refl y.reads refl refl);
    })

-- the head of a `for` and what stands behind it, in the order of the text
for_row : (f t l rest : List Symbol)
    → parenthesised (f ++ fixed k.Semi ∷ (t ++ fixed k.Semi ∷ l)) ++ rest ≡ fixed k.LParen ∷ (f ++ fixed k.Semi ∷ (t ++ fixed k.Semi ∷ (l ++ fixed k.RParen ∷ rest)))
for_row f t l rest = simp append_assoc refl

for_again : (at : ℕ) (f : Option Simple) (t : Option Expr) (l : Option Simple) (c : List Stmt) → Anywhere g.MaybeSimple (SameMaybe SameSimple) (maybe_simple_tokens f) f
    → Anywhere g.MaybeExpr (SameMaybe SameExpr) (maybe_expr_tokens t) t → Anywhere g.MaybeSimple (SameMaybe SameSimple) (maybe_simple_tokens l) l → Anywhere g.Statements SameStmts (row c) c
    → Anywhere g.Statement SameStmt (stmt_tokens (s.For at f t l c)) (s.For at f t l c)
for_again at f t l c hf ht hl hc n =
    let fs = maybe_simple_tokens f in
    let ts = maybe_expr_tokens t in
    let ls = maybe_simple_tokens l in
    let body = braced (row c) in
    let m = n + length (fixed k.KwFor).text + 1 + length (fixed k.LParen).text + 1 in
    let p = behind m fs + length (fixed k.Semi).text + 1 in
    let q = behind p ts + length (fixed k.Semi).text + 1 in
    let r = behind q ls + length (fixed k.RParen).text + 1 in
    let x = hf m in
    let y = ht p in
    let z = hl q in
    let w = block_again c hc r in
    let tree = s.For n x.tree y.tree z.tree w.tree in
    retold (s.For at f t l c) _ n (tokens_for at f t l c ∙ ap (λ (o : List Symbol). fixed k.KwFor ∷ o) (for_row fs ts ls body))
    (record {
      tree = tree;
      same = same.SameStmt.for at n x.same y.same z.same w.same;
      reads = subst (λ (o : List Symbol). g.Statement (placed n (fixed k.KwFor ∷ fixed k.LParen ∷ []) ++ o) tree)
          (sym (placed_append m fs (fixed k.Semi ∷ (ts ++ fixed k.Semi ∷ (ls ++ fixed k.RParen ∷ body)))
          ∙ ap (λ (o : List Symbol). placed m fs ++ (placed (behind m fs) (fixed k.Semi ∷ []) ++ o)) (placed_append p ts (fixed k.Semi ∷ (ls ++ fixed k.RParen ∷ body))
          ∙ ap (λ (o : List Symbol). placed p ts ++ (placed (behind p ts) (fixed k.Semi ∷ []) ++ o)) (placed_append q ls (fixed k.RParen ∷ body)))))
          (g.Statement.for _ _ _ _ _ refl refl x.reads refl y.reads refl z.reads refl w.reads);
    })

pub arms_first : {a : List Symbol} {arms : List Arm} → g.Arms a arms → HasFirst arms
arms_first (g.Arms.first x {t = t} {c = c} h d) = first (g.arm x t c) []
arms_first (g.Arms.another x y {arms = arms} {t = t} {d = d} b h h' e) = has_first arms (g.arm y t d)

-- Each alternative of the grammar.

mutual
  pub statement_again : {a : List Symbol} {t : Stmt} → g.Statement a t → Each IsReadable a → Anywhere g.Statement SameStmt (stmt_tokens t) t
  statement_again (g.Statement.empty x h) r n = retold (s.Empty x.at) _ n (tokens_empty x.at) (record { tree = s.Empty n; same = same.SameStmt.empty x.at n; reads = g.Statement.empty _ refl })
  statement_again (g.Statement.block x {a = a} {c = c} h d) r n =
      let m = n + length (fixed k.LBrace).text + 1 in
      let b = braced_again d r.1 m in
      retold (s.Block x.at c) _ n (tokens_block x.at c)
      (record { tree = s.Block n b.tree; same = same.SameStmt.block x.at n b.same; reads = subst (λ (q : List Symbol). g.Statement (placed n (fixed k.LBrace ∷ []) ++ q) (s.Block n b.tree)) (sym (placed_append m (row c) (fixed k.RBrace ∷ []))) (g.Statement.block _ refl (g.Braced.closed _ b.reads refl)) })
  statement_again (g.Statement.simple x {a = a} {t = t} d h) r n =
      let b = simple_again d (split IsReadable a (x ∷ []) r).0 n in
      retold (s.Simple t) _ n (tokens_simple t)
      (record { tree = s.Simple b.tree; same = same.SameStmt.simple b.same; reads = subst (λ (q : List Symbol). g.Statement q (s.Simple b.tree)) (sym (placed_append n (simple_tokens t) (fixed k.Semi ∷ []))) (g.Statement.simple _ b.reads refl) })
  statement_again (g.Statement.return x y {a = a} {t = t} h d h') r n =
      let m = n + length (fixed k.KwReturn).text + 1 in
      let b = maybe_expr_again d (split IsReadable a (y ∷ []) r.1).0 m in
      retold (s.Return x.at t) _ n (tokens_return x.at t)
      (record { tree = s.Return n b.tree; same = same.SameStmt.return x.at n b.same; reads = subst (λ (q : List Symbol). g.Statement (placed n (fixed k.KwReturn ∷ []) ++ q) (s.Return n b.tree)) (sym (placed_append m (maybe_expr_tokens t) (fixed k.Semi ∷ []))) (g.Statement.return _ _ refl b.reads refl) })
  statement_again (g.Statement.break x y h h') r n = retold (s.Break x.at) _ n (tokens_break x.at) (record { tree = s.Break n; same = same.SameStmt.break x.at n; reads = g.Statement.break _ _ refl refl })
  statement_again (g.Statement.continue x y h h') r n = retold (s.Continue x.at) _ n (tokens_continue x.at) (record { tree = s.Continue n; same = same.SameStmt.continue x.at n; reads = g.Statement.continue _ _ refl refl })
  statement_again (g.Statement.choice {arms = arms} d) r n =
      let b = arms_again d r n in
      retold (s.If arms None) _ n (tokens_choice arms) (record { tree = s.If b.tree None; same = same.SameStmt.choice b.same; reads = g.Statement.choice b.reads })
  statement_again (g.Statement.choice_else x {a = a} {c = c} {arms = arms} {d = body} d h d') r n =
      let z = split IsReadable a (x ∷ c) r in
      let b = arms_again d z.0 n in
      let l = block_again body (body_again d' z.1.1) (behind n (choices arms) + length (fixed k.KwElse).text + 1) in
      let tree = s.If b.tree (Some l.tree) in
      retold (s.If arms (Some body)) _ n (tokens_choice_else arms body)
      (record { tree = tree; same = same.SameStmt.choice_else b.same l.same; reads = subst (λ (q : List Symbol). g.Statement q tree) (sym (placed_append n (choices arms) (fixed k.KwElse ∷ braced (row body)))) (g.Statement.choice_else _ b.reads refl l.reads) })
  statement_again (g.Statement.while x {t = t} {c = c} h d) r n =
      let b = guarded_again d r.1 (n + length (fixed k.KwWhile).text + 1) in
      retold (s.While x.at t c) _ n (tokens_while x.at t c)
      (record { tree = s.While n b.test b.body; same = same.SameStmt.while x.at n b.same_test b.same_body; reads = g.Statement.while _ refl b.reads })
  statement_again (g.Statement.do_while x y z w v {a = a} {c = c} {t = t} {d = body} h d h' h'' e i j) r n =
      let q = split IsReadable a (y ∷ z ∷ (c ++ w ∷ v ∷ [])) r.1 in
      do_again x.at body t (body_again d q.0) (chain_again e (split IsReadable c (w ∷ v ∷ []) q.1.1.1).0) n
  statement_again (g.Statement.for x y z w v {a = a} {c = c} {d = d} {f = f} {i = i} {p = p} {t = t} {g = body} h h' di h'' dt j dp l db) r n =
      let q1 = split IsReadable a (z ∷ (c ++ w ∷ (d ++ v ∷ f))) r.1.1 in
      let q2 = split IsReadable c (w ∷ (d ++ v ∷ f)) q1.1.1 in
      let q3 = split IsReadable d (v ∷ f) q2.1.1 in
      for_again x.at i t p body (maybe_simple_again di q1.0) (maybe_expr_again dt q2.0) (maybe_simple_again dp q3.0) (body_again db q3.1.1) n

  guarded_again : {a : List Symbol} {t : Expr} {c : List Stmt} → g.Guarded a t c → Each IsReadable a → (n : ℕ) → GuardedAgain n t c
  guarded_again (g.Guarded.guarded x y {a = a} {c = c} {t = t} {d = body} h d h' d') r n =
      let q = split IsReadable a (y ∷ c) r.1 in
      guard t body (chain_again d q.0) (body_again d' q.1.1) n

  arms_again : {a : List Symbol} {arms : List Arm} → g.Arms a arms → Each IsReadable a → Anywhere g.Arms SameArms (choices arms) arms
  arms_again (g.Arms.first x {t = t} {c = c} h d) r n =
      let b = guarded_again d r.1 (n + length (fixed k.KwIf).text + 1) in
      let tree = roll-Arm (record { at = n; test = b.test; body = b.body }) ∷ [] in
      record {
        tree = tree;
        same = same.SameArms.further_arm x.at n {xs = []} {ys = []} same.SameArms.no_arm b.same_test b.same_body;
        reads = subst (λ (q : List Symbol). g.Arms (placed n q) tree) (sym (separated_one k.KwElse arm_tokens (g.arm x t c) ∙ tokens_arm x.at t c)) (g.Arms.first _ refl b.reads);
      }
  arms_again (g.Arms.another x y {a = a} {c = c} {arms = arms} {t = t} {d = body} d h h' d') r n =
      let z = split IsReadable a (x ∷ y ∷ c) r in
      let f = arms_again d z.0 n in
      let m = behind n (choices arms) + length (fixed k.KwElse).text + 1 in
      let b = guarded_again d' z.1.1.1 (m + length (fixed k.KwIf).text + 1) in
      let tree = f.tree ++ roll-Arm (record { at = m; test = b.test; body = b.body }) ∷ [] in
      record {
        tree = tree;
        same = same.SameArms.further_arm y.at m f.same b.same_test b.same_body;
        reads = subst (λ (q : List Symbol). g.Arms q tree)
            (sym (ap (placed n) (separated_more k.KwElse arm_tokens arms (g.arm y t body) (arms_first d) ∙ ap (λ q. choices arms ++ fixed k.KwElse ∷ q) (tokens_arm y.at t body))
            ∙ placed_append n (choices arms) (fixed k.KwElse ∷ fixed k.KwIf ∷ (parenthesised (expr_tokens t) ++ braced (row body)))))
            (g.Arms.another _ _ f.reads refl refl b.reads);
      }

  body_again : {a : List Symbol} {c : List Stmt} → g.Body a c → Each IsReadable a → Anywhere g.Statements SameStmts (row c) c
  body_again (g.Body.braces x h d) r = braced_again d r.1

  pub braced_again : {a : List Symbol} {c : List Stmt} → g.Braced a c → Each IsReadable a → Anywhere g.Statements SameStmts (row c) c
  braced_again (g.Braced.closed y {a = a} d h) r = statements_again d (split IsReadable a (y ∷ []) r).0

  statements_again : {a : List Symbol} {c : List Stmt} → g.Statements a c → Each IsReadable a → Anywhere g.Statements SameStmts (row c) c
  statements_again g.Statements.none r n = record { tree = []; same = same.SameStmts.no_statement; reads = g.Statements.none }
  statements_again (g.Statements.more {a = a} {c = c} {d = d} {t = t} b e) r n =
      let z = split IsReadable a c r in
      let f = statements_again b z.0 n in
      let y = statement_again e z.1 (behind n (row d)) in
      record {
        tree = f.tree ++ y.tree ∷ [];
        same = same.SameStmts.further_statement f.same y.same;
        reads = subst (λ (q : List Symbol). g.Statements q (f.tree ++ y.tree ∷ [])) (sym (ap (placed n) (flat_more stmt_tokens d t) ∙ placed_append n (row d) (stmt_tokens t))) (g.Statements.more f.reads y.reads);
      }
