-- Each canonical token of a tree stands alone.
use Rattle.std.proofs.Common.{◌≡◌, ℕ, zero, suc, drop, List, [], ◌∷◌, ◌++◌, Option, Bool, true, false, if◌then◌else◌, refl, sym, ap, subst}
use Rattle.std.specs.List.{flat_map}
use Rattle.text_grammar.specs.declared.kind.Kind.{Kind}
use Rattle.text_grammar.specs.declared.kind.Kind.TheVariants as k
use Rattle.text_grammar.specs.declared.kind.Level.{Level}
use Rattle.text_grammar.specs.declared.tree.UnaryOp.{UnaryOp}
use Rattle.text_grammar.specs.declared.tree.UnaryOp.TheVariants as u
use Rattle.text_grammar.specs.declared.tree.BinaryOp.{BinaryOp}
use Rattle.text_grammar.specs.declared.tree.BinaryOp.TheVariants as b
use Rattle.text_grammar.specs.declared.tree.Base.{Base}
use Rattle.text_grammar.specs.declared.tree.BaseKind.{BaseKind}
use Rattle.text_grammar.specs.declared.tree.TypeName.{TypeName}
use Rattle.text_grammar.specs.declared.tree.Number.{Number}
use Rattle.text_grammar.specs.declared.tree.Expr.{Expr}
use Rattle.text_grammar.specs.declared.tree.Call.{Call}
use Rattle.text_grammar.specs.declared.tree.Simple.{Simple}
use Rattle.text_grammar.specs.declared.tree.Stmt.{Stmt}
use Rattle.text_grammar.specs.declared.tree.Arm.{Arm}
use Rattle.text_grammar.specs.declared.tree.Initialiser.{Initialiser}
use Rattle.text_grammar.specs.declared.tree.Declarator.{Declarator}
use Rattle.text_grammar.specs.declared.tree.ObjectItem.{ObjectItem}
use Rattle.text_grammar.specs.declared.tree.Members.{Members}
use Rattle.text_grammar.specs.declared.tree.Parameter.{Parameter}
use Rattle.text_grammar.specs.declared.tree.LocalItem.{LocalItem}
use Rattle.text_grammar.specs.declared.tree.Locals.{Locals}
use Rattle.text_grammar.specs.declared.tree.Linkage.{Linkage}
use Rattle.text_grammar.specs.declared.tree.Linkage.TheVariants as linkage
use Rattle.text_grammar.specs.declared.tree.Head.{Head}
use Rattle.text_grammar.specs.declared.tree.External.{External}
use Rattle.text_grammar.specs.Lexical.{number_value, is_unsigned_number, element_value, string_value}
use Rattle.text_grammar.specs.Grammar.{Symbol, is_void_alone, proper}
use Rattle.text_grammar.specs.Grammar as g
use Rattle.text_print.specs.Spelling.{prefix_kind, operator_kind, fixed, name, number, character, string}
use Rattle.text_print.specs.Canonical.{separated, parenthesised, bracketed, braced, base_kind_tokens, keyword_if, base_tokens, star_tokens, type_tokens, Printed, is_tight, is_infixed, operand, target, printed, expr_tokens, call_tokens, simple_tokens, maybe_expr_tokens, maybe_simple_tokens, stmt_tokens, arm_tokens, initialiser_tokens, length_tokens, declarator_tokens, object_tokens, member_tokens, parameter_tokens, parameters_tokens, linkage_tokens, head_tokens, local_tokens, locals_tokens, external_tokens, tokens_of}
use Rattle.text_print.specs.Cut.{StandsAlone}
use Rattle.text_print.proofs.Again.{Each, split}
use Rattle.text_print.proofs.AloneAgain.{fixed_alone}
use Rattle.text_print.proofs.ExpressionsAgain as ex
use Rattle.text_print.proofs.StatementsAgain as st
use Rattle.text_print.proofs.DeclarationsAgain as de

-- the canonical spelling of a name or a literal stands alone
pub record CanStand (x : Symbol) : Type 0 where
  pub name : x.kind ≡ k.Id → StandsAlone (name x.text)
  pub number : x.kind ≡ k.Num → StandsAlone (number (number_value x.text) (is_unsigned_number x.text))
  pub character : x.kind ≡ k.Char → StandsAlone (character (element_value (drop 1 x.text)))
  pub string : x.kind ≡ k.Str → StandsAlone (string (string_value x.text))

abbrev All_alone : List Symbol → Type 0
All_alone ts = Each StandsAlone ts

both : (a c : List Symbol) → All_alone a → All_alone c → All_alone (a ++ c)
both [] c h e = e
both (x ∷ a) c h e = (h.0, both a c h.1 e)

told : {a c : List Symbol} → c ≡ a → All_alone a → All_alone c
told e h = subst All_alone (sym e) h

parens : (ts : List Symbol) → All_alone ts → All_alone (parenthesised ts)
parens ts h = (fixed_alone k.LParen refl, both ts (fixed k.RParen ∷ []) h (fixed_alone k.RParen refl, tt))

brackets : (ts : List Symbol) → All_alone ts → All_alone (bracketed ts)
brackets ts h = (fixed_alone k.LBracket refl, both ts (fixed k.RBracket ∷ []) h (fixed_alone k.RBracket refl, tt))

braces : (ts : List Symbol) → All_alone ts → All_alone (braced ts)
braces ts h = (fixed_alone k.LBrace refl, both ts (fixed k.RBrace ∷ []) h (fixed_alone k.RBrace refl, tt))

semi : All_alone (fixed k.Semi ∷ [])
semi = (fixed_alone k.Semi refl, tt)

one_row : {A : Type 0} (kind : Kind) (f : A → List Symbol) (t : A) → All_alone (f t) → All_alone (separated kind f (t ∷ []))
one_row kind f t h = told (st.separated_one kind f t) h

more_row : {A : Type 0} (kind : Kind) (f : A → List Symbol) (ts : List A) (t : A) → st.HasFirst ts → StandsAlone (fixed kind) → All_alone (separated kind f ts) → All_alone (f t) → All_alone (separated kind f (ts ++ t ∷ []))
more_row kind f ts t w s h e = told (st.separated_more kind f ts t w) (both (separated kind f ts) (fixed kind ∷ f t) h (s, e))

more_flat : {A : Type 0} (f : A → List Symbol) (ts : List A) (t : A) → All_alone (flat_map f ts) → All_alone (f t) → All_alone (flat_map f (ts ++ t ∷ []))
more_flat f ts t h e = told (st.flat_more f ts t) (both (flat_map f ts) (f t) h e)

-- Types.

base_word : {a : List Symbol} {p : ℕ} {t : BaseKind} → g.BaseWords a p t → Each CanStand a → All_alone (base_kind_tokens t)
base_word (g.BaseWords.int x h) r = (fixed_alone k.KwInt refl, tt)
base_word (g.BaseWords.char x h) r = (fixed_alone k.KwChar refl, tt)
base_word (g.BaseWords.signed x h) r = (fixed_alone k.KwInt refl, tt)
base_word (g.BaseWords.signed_int x y h e) r = (fixed_alone k.KwInt refl, tt)
base_word (g.BaseWords.signed_char x y h e) r = (fixed_alone k.KwChar refl, tt)
base_word (g.BaseWords.unsigned x h) r = (fixed_alone k.KwUnsigned refl, (fixed_alone k.KwInt refl, tt))
base_word (g.BaseWords.unsigned_int x y h e) r = (fixed_alone k.KwUnsigned refl, (fixed_alone k.KwInt refl, tt))
base_word (g.BaseWords.unsigned_char x y h e) r = (fixed_alone k.KwUnsigned refl, (fixed_alone k.KwChar refl, tt))
base_word (g.BaseWords.void x h) r = (fixed_alone k.KwVoid refl, tt)
base_word (g.BaseWords.struct x y h e) r = (fixed_alone k.KwStruct refl, (r.1.0.name e, tt))

base_alone : {a : List Symbol} {t : Base} → g.BaseReads a t → Each CanStand a → All_alone (base_tokens t)
base_alone (g.BaseReads.plain d) r = base_word d r
base_alone (g.BaseReads.constant x h d) r = (fixed_alone k.KwConst refl, base_word d r.1)

stars_alone : (n : ℕ) → All_alone (star_tokens n)
stars_alone zero = tt
stars_alone (suc n) = (fixed_alone k.Star refl, stars_alone n)

type_alone : {a : List Symbol} {t : TypeName} → g.TypeReads a t → Each CanStand a → All_alone (type_tokens t)
type_alone (g.TypeReads.named {a = a} {s = s} {t = t} {n = n} d e) r = both (base_tokens t) (star_tokens n) (base_alone d (split CanStand a s r).0) (stars_alone n)

-- Expressions.

prefix_alone : (op : UnaryOp) → StandsAlone (fixed (prefix_kind op))
prefix_alone u.Neg = fixed_alone k.Minus refl
prefix_alone u.Flip = fixed_alone k.Tilde refl
prefix_alone u.Not = fixed_alone k.Bang refl
prefix_alone u.Deref = fixed_alone k.Star refl
prefix_alone u.Address = fixed_alone k.And refl

operator_alone : (op : BinaryOp) → StandsAlone (fixed (operator_kind op))
operator_alone b.OrOr = fixed_alone k.OrOr refl
operator_alone b.AndAnd = fixed_alone k.AndAnd refl
operator_alone b.Or = fixed_alone k.Or refl
operator_alone b.Xor = fixed_alone k.Caret refl
operator_alone b.And = fixed_alone k.And refl
operator_alone b.Eq = fixed_alone k.EqEq refl
operator_alone b.Ne = fixed_alone k.NotEq refl
operator_alone b.Lt = fixed_alone k.Less refl
operator_alone b.Gt = fixed_alone k.Greater refl
operator_alone b.Le = fixed_alone k.LessEq refl
operator_alone b.Ge = fixed_alone k.GreaterEq refl
operator_alone b.Shl = fixed_alone k.ShiftLeft refl
operator_alone b.Shr = fixed_alone k.ShiftRight refl
operator_alone b.Add = fixed_alone k.Plus refl
operator_alone b.Sub = fixed_alone k.Minus refl
operator_alone b.Mul = fixed_alone k.Star refl
operator_alone b.Div = fixed_alone k.Slash refl
operator_alone b.Rem = fixed_alone k.Percent refl

operand_of : (t : Expr) → All_alone (expr_tokens t) → All_alone (operand (printed t))
operand_of t h = go (is_tight (printed t).form)
  where
    go : (c : Bool) → All_alone (if c then (expr_tokens t) else parenthesised (expr_tokens t))
    go true = h
    go false = parens (expr_tokens t) h

target_of : (t : Expr) → All_alone (expr_tokens t) → All_alone (target (printed t))
target_of t h = go (is_infixed (printed t).form)
  where
    go : (c : Bool) → All_alone (if c then parenthesised (expr_tokens t) else (expr_tokens t))
    go true = parens (expr_tokens t) h
    go false = h

node : (t : Expr) (p : Printed) → printed t ≡ p → All_alone p.tokens → All_alone (expr_tokens t)
node t p e h = told (ap (λ (z : Printed). z.tokens) e) h

mutual
  primary_alone : {a : List Symbol} {t : Expr} → g.Primary a t → Each CanStand a → All_alone (expr_tokens t)
  primary_alone (g.name x h) r = node _ _ (ex.printed_name x.at x.text) (r.0.name h, tt)
  primary_alone (g.number x h) r = node _ _ (ex.printed_number x.at (number_value x.text) (is_unsigned_number x.text)) (r.0.number h, tt)
  primary_alone (g.character x h) r = node _ _ (ex.printed_character x.at (element_value (drop 1 x.text))) (r.0.character h, tt)
  primary_alone (g.parens x y {a = a} h d h') r = chain_alone d (split CanStand a (y ∷ []) r.1).0

  postfix_alone : {a : List Symbol} {t : Expr} → g.Postfix a t → Each CanStand a → All_alone (expr_tokens t)
  postfix_alone (g.primary d) r = primary_alone d r
  postfix_alone (g.index x y {a = a} {c = c} {t = t} {i = i} d h d' h') r =
      let s = split CanStand a (x ∷ (c ++ y ∷ [])) r in
      node _ _ (ex.printed_index x.at t i) (both (operand (printed t)) (bracketed (expr_tokens i)) (operand_of t (postfix_alone d s.0)) (brackets (expr_tokens i) (chain_alone d' (split CanStand c (y ∷ []) s.1.1).0)))
  postfix_alone (g.member x y {a = a} {t = t} d h h') r =
      let s = split CanStand a (x ∷ y ∷ []) r in
      node _ _ (ex.printed_member y.at t y.text) (both (operand (printed t)) (fixed k.Dot ∷ name y.text ∷ []) (operand_of t (postfix_alone d s.0)) (fixed_alone k.Dot refl, (s.1.1.0.name h', tt)))
  postfix_alone (g.arrow x y {a = a} {t = t} d h h') r =
      let s = split CanStand a (x ∷ y ∷ []) r in
      node _ _ (ex.printed_arrow y.at t y.text) (both (operand (printed t)) (fixed k.Arrow ∷ name y.text ∷ []) (operand_of t (postfix_alone d s.0)) (fixed_alone k.Arrow refl, (s.1.1.0.name h', tt)))

  uncast_alone : {a : List Symbol} {t : Expr} → g.Uncast a t → Each CanStand a → All_alone (expr_tokens t)
  uncast_alone (g.postfix d) r = postfix_alone d r
  uncast_alone (g.prefix x op {t = t} h d) r = node _ _ (ex.printed_unary x.at op t) (prefix_alone op, operand_of t (unary_alone d r.1))
  uncast_alone (g.sizeof_type x y z {a = a} {t = t} h h' d h'') r = node _ _ (ex.printed_sizeof_type x.at t) (fixed_alone k.KwSizeof refl, parens (type_tokens t) (type_alone d (split CanStand a (z ∷ []) r.1.1).0))
  uncast_alone (g.sizeof x {t = t} h d) r = node _ _ (ex.printed_sizeof x.at t) (fixed_alone k.KwSizeof refl, operand_of t (uncast_alone d r.1))

  unary_alone : {a : List Symbol} {t : Expr} → g.Unary a t → Each CanStand a → All_alone (expr_tokens t)
  unary_alone (g.uncast d) r = uncast_alone d r
  unary_alone (g.cast x y {a = a} {c = c} {t = to} {v = t} h d h' d') r =
      let s = split CanStand a (y ∷ c) r.1 in
      node _ _ (ex.printed_cast x.at to t) (fixed_alone k.LParen refl, both (type_tokens to) (fixed k.RParen ∷ operand (printed t)) (type_alone d s.0) (fixed_alone k.RParen refl, operand_of t (unary_alone d' s.1.1)))

  level_alone : {l : Level} {a : List Symbol} {t : Expr} → g.Operand l a t → Each CanStand a → All_alone (expr_tokens t)
  level_alone (g.of_or d) r = chain_alone d r
  level_alone (g.of_and d) r = chain_alone d r
  level_alone (g.of_bit_or d) r = chain_alone d r
  level_alone (g.of_bit_xor d) r = chain_alone d r
  level_alone (g.of_bit_and d) r = chain_alone d r
  level_alone (g.of_equality d) r = chain_alone d r
  level_alone (g.of_order d) r = chain_alone d r
  level_alone (g.of_shift d) r = chain_alone d r
  level_alone (g.of_sum d) r = chain_alone d r
  level_alone (g.of_product d) r = unary_alone d r

  chain_alone : {l : Level} {a : List Symbol} {t : Expr} → g.Chain l a t → Each CanStand a → All_alone (expr_tokens t)
  chain_alone (g.operand d) r = level_alone d r
  chain_alone (g.binary x op {a = a} {c = c} {t = t} {v = v} d h d') r =
      let s = split CanStand a (x ∷ c) r in
      node _ _ (ex.printed_binary x.at op t v) (both (operand (printed t)) (fixed (operator_kind op) ∷ operand (printed v)) (operand_of t (chain_alone d s.0)) (operator_alone op, operand_of v (level_alone d' s.1.1)))

-- Statements.

arguments_alone : {a : List Symbol} {ts : List Expr} → g.Arguments a ts → Each CanStand a → All_alone (separated k.Comma expr_tokens ts)
arguments_alone (g.Arguments.one {t = t} d) r = one_row k.Comma expr_tokens t (chain_alone d r)
arguments_alone (g.Arguments.more x {a = a} {c = c} {ts = ts} {t = t} d h d') r =
    let s = split CanStand a (x ∷ c) r in more_row k.Comma expr_tokens ts t (st.arguments_first d) (fixed_alone k.Comma refl) (arguments_alone d s.0) (chain_alone d' s.1.1)

call_alone : {a : List Symbol} {c : Call} → g.CallReads a c → Each CanStand a → All_alone (call_tokens c)
call_alone (g.CallReads.none x y z h h' h'') r = (r.0.name h, parens [] tt)
call_alone (g.CallReads.some x y z {a = a} {ts = ts} h h' d h'') r = (r.0.name h, parens (separated k.Comma expr_tokens ts) (arguments_alone d (split CanStand a (z ∷ []) r.1.1).0))

simple_alone : {a : List Symbol} {t : Simple} → g.SimpleReads a t → Each CanStand a → All_alone (simple_tokens t)
simple_alone (g.SimpleReads.call d) r = call_alone d r
simple_alone (g.SimpleReads.assign x {a = a} {c = c} {t = t} {v = v} d h d') r =
    let s = split CanStand a (x ∷ c) r in both (target (printed t)) (fixed k.Assign ∷ expr_tokens v) (target_of t (unary_alone d s.0)) (fixed_alone k.Assign refl, chain_alone d' s.1.1)
simple_alone (g.SimpleReads.assign_call x {a = a} {c = c} {t = t} {v = v} d h d') r =
    let s = split CanStand a (x ∷ c) r in both (target (printed t)) (fixed k.Assign ∷ call_tokens v) (target_of t (unary_alone d s.0)) (fixed_alone k.Assign refl, call_alone d' s.1.1)

maybe_simple_alone : {a : List Symbol} {t : Option Simple} → g.MaybeSimple a t → Each CanStand a → All_alone (maybe_simple_tokens t)
maybe_simple_alone g.MaybeSimple.none r = tt
maybe_simple_alone (g.MaybeSimple.some d) r = simple_alone d r

maybe_expr_alone : {a : List Symbol} {t : Option Expr} → g.MaybeExpr a t → Each CanStand a → All_alone (maybe_expr_tokens t)
maybe_expr_alone g.MaybeExpr.none r = tt
maybe_expr_alone (g.MaybeExpr.some d) r = chain_alone d r

abbrev row : List Stmt → List Symbol
row c = flat_map stmt_tokens c

guarded : (t : Expr) (c : List Stmt) → All_alone (expr_tokens t) → All_alone (row c) → All_alone (parenthesised (expr_tokens t) ++ braced (row c))
guarded t c h e = both (parenthesised (expr_tokens t)) (braced (row c)) (parens (expr_tokens t) h) (braces (row c) e)

mutual
  statement_alone : {a : List Symbol} {t : Stmt} → g.Statement a t → Each CanStand a → All_alone (stmt_tokens t)
  statement_alone (g.Statement.empty x h) r = told (st.tokens_empty x.at) semi
  statement_alone (g.Statement.block x {c = c} h d) r = told (st.tokens_block x.at c) (braces (row c) (braced_alone d r.1))
  statement_alone (g.Statement.simple x {a = a} {t = t} d h) r = told (st.tokens_simple t) (both (simple_tokens t) (fixed k.Semi ∷ []) (simple_alone d (split CanStand a (x ∷ []) r).0) semi)
  statement_alone (g.Statement.return x y {a = a} {t = t} h d h') r =
      told (st.tokens_return x.at t) (fixed_alone k.KwReturn refl, both (maybe_expr_tokens t) (fixed k.Semi ∷ []) (maybe_expr_alone d (split CanStand a (y ∷ []) r.1).0) semi)
  statement_alone (g.Statement.break x y h h') r = told (st.tokens_break x.at) (fixed_alone k.KwBreak refl, semi)
  statement_alone (g.Statement.continue x y h h') r = told (st.tokens_continue x.at) (fixed_alone k.KwContinue refl, semi)
  statement_alone (g.Statement.choice {arms = arms} d) r = told (st.tokens_choice arms) (arms_alone d r)
  statement_alone (g.Statement.choice_else x {a = a} {c = c} {arms = arms} {d = body} d h d') r =
      let z = split CanStand a (x ∷ c) r in
      told (st.tokens_choice_else arms body) (both (separated k.KwElse arm_tokens arms) (fixed k.KwElse ∷ braced (row body)) (arms_alone d z.0) (fixed_alone k.KwElse refl, braces (row body) (body_alone d' z.1.1)))
  statement_alone (g.Statement.while x {t = t} {c = c} h d) r = told (st.tokens_while x.at t c) (fixed_alone k.KwWhile refl, guarded_alone d r.1)
  statement_alone (g.Statement.do_while x y z w v {a = a} {c = c} {t = t} {d = body} h d h' h'' e i j) r =
      let q = split CanStand a (y ∷ z ∷ (c ++ w ∷ v ∷ [])) r.1 in
      told (st.tokens_do x.at body t) (
        fixed_alone k.KwDo refl,
        both (braced (row body)) (fixed k.KwWhile ∷ (parenthesised (expr_tokens t) ++ fixed k.Semi ∷ [])) (braces (row body) (body_alone d q.0))
            (fixed_alone k.KwWhile refl, both (parenthesised (expr_tokens t)) (fixed k.Semi ∷ []) (parens (expr_tokens t) (chain_alone e (split CanStand c (w ∷ v ∷ []) q.1.1.1).0)) semi),
      )
  statement_alone (g.Statement.for x y z w v {a = a} {c = c} {d = d} {f = f} {i = i} {p = p} {t = t} {g = body} h h' di h'' dt j dp l db) r =
      let q1 = split CanStand a (z ∷ (c ++ w ∷ (d ++ v ∷ f))) r.1.1 in
      let q2 = split CanStand c (w ∷ (d ++ v ∷ f)) q1.1.1 in
      let q3 = split CanStand d (v ∷ f) q2.1.1 in
      let is = maybe_simple_tokens i in
      let ts = maybe_expr_tokens t in
      let ps = maybe_simple_tokens p in
      let inner = both is (fixed k.Semi ∷ (ts ++ fixed k.Semi ∷ ps)) (maybe_simple_alone di q1.0) (fixed_alone k.Semi refl, both ts (fixed k.Semi ∷ ps) (maybe_expr_alone dt q2.0) (fixed_alone k.Semi refl, maybe_simple_alone dp q3.0)) in
      told (st.tokens_for x.at i t p body)
      (fixed_alone k.KwFor refl, both (parenthesised (is ++ fixed k.Semi ∷ (ts ++ fixed k.Semi ∷ ps))) (braced (row body)) (parens (is ++ fixed k.Semi ∷ (ts ++ fixed k.Semi ∷ ps)) inner) (braces (row body) (body_alone db q3.1.1)))

  guarded_alone : {a : List Symbol} {t : Expr} {c : List Stmt} → g.Guarded a t c → Each CanStand a → All_alone (parenthesised (expr_tokens t) ++ braced (row c))
  guarded_alone (g.Guarded.guarded x y {a = a} {c = c} {t = t} {d = body} h d h' d') r =
      let q = split CanStand a (y ∷ c) r.1 in guarded t body (chain_alone d q.0) (body_alone d' q.1.1)

  arms_alone : {a : List Symbol} {arms : List Arm} → g.Arms a arms → Each CanStand a → All_alone (separated k.KwElse arm_tokens arms)
  arms_alone (g.Arms.first x {t = t} {c = c} h d) r = one_row k.KwElse arm_tokens (g.arm x t c) (told (st.tokens_arm x.at t c) (fixed_alone k.KwIf refl, guarded_alone d r.1))
  arms_alone (g.Arms.another x y {a = a} {c = c} {arms = arms} {t = t} {d = body} d h h' d') r =
      let z = split CanStand a (x ∷ y ∷ c) r in
      more_row k.KwElse arm_tokens arms (g.arm y t body) (st.arms_first d) (fixed_alone k.KwElse refl) (arms_alone d z.0) (told (st.tokens_arm y.at t body) (fixed_alone k.KwIf refl, guarded_alone d' z.1.1.1))

  body_alone : {a : List Symbol} {c : List Stmt} → g.Body a c → Each CanStand a → All_alone (row c)
  body_alone (g.Body.braces x h d) r = braced_alone d r.1

  braced_alone : {a : List Symbol} {c : List Stmt} → g.Braced a c → Each CanStand a → All_alone (row c)
  braced_alone (g.Braced.closed y {a = a} d h) r = statements_alone d (split CanStand a (y ∷ []) r).0

  statements_alone : {a : List Symbol} {c : List Stmt} → g.Statements a c → Each CanStand a → All_alone (row c)
  statements_alone g.Statements.none r = tt
  statements_alone (g.Statements.more {a = a} {c = c} {d = d} {t = t} b e) r =
      let z = split CanStand a c r in more_flat stmt_tokens d t (statements_alone b z.0) (statement_alone e z.1)

-- Declarations.

lengths_alone : {a : List Symbol} {ns : List Number} → g.Lengths a ns → Each CanStand a → All_alone (flat_map length_tokens ns)
lengths_alone g.Lengths.none r = tt
lengths_alone (g.Lengths.more x v y {a = a} {ns = ns} d h h' h'') r =
    let z = split CanStand a (x ∷ v ∷ y ∷ []) r in
    more_flat length_tokens ns (g.number_at v) (lengths_alone d z.0) (fixed_alone k.LBracket refl, (z.1.1.0.number h', (fixed_alone k.RBracket refl, tt)))

field_alone : {a : List Symbol} {d : Declarator} → g.FieldReads a d → Each CanStand a → All_alone (declarator_tokens d)
field_alone (g.FieldReads.field x {a = a} {c = c} {n = count} {ns = ns} d h d') r =
    let z = split CanStand a (x ∷ c) r in both (star_tokens count) (name x.text ∷ flat_map length_tokens ns) (stars_alone count) (z.1.0.name h, lengths_alone d' z.1.1)

declarator_alone : {a : List Symbol} {d : Declarator} → g.DeclaratorReads a d → Each CanStand a → All_alone (declarator_tokens d)
declarator_alone (g.DeclaratorReads.known d) r = field_alone d r
declarator_alone (g.DeclaratorReads.open_array x y z {a = a} {c = c} {n = count} {ns = ns} d h h' h'' d') r =
    let w = split CanStand a (x ∷ y ∷ z ∷ c) r in
    both (star_tokens count) (name x.text ∷ fixed k.LBracket ∷ fixed k.RBracket ∷ flat_map length_tokens ns) (stars_alone count)
    (w.1.0.name h, (fixed_alone k.LBracket refl, (fixed_alone k.RBracket refl, lengths_alone d' w.1.1.1.1)))

mutual
  initialiser_alone : {a : List Symbol} {t : Initialiser} → g.InitialiserReads a t → Each CanStand a → All_alone (initialiser_tokens t)
  initialiser_alone (g.InitialiserReads.expr {t = t} d) r = told (de.tokens_expr t) (chain_alone d r)
  initialiser_alone (g.InitialiserReads.string x h) r = told (de.tokens_string x.at (string_value x.text)) (r.0.string h, tt)
  initialiser_alone (g.InitialiserReads.items x {ts = ts} h d) r = told (de.tokens_list x.at ts) (braces (separated k.Comma initialiser_tokens ts) (closed_alone d r.1))

  closed_alone : {a : List Symbol} {ts : List Initialiser} → g.ItemsClosed a ts → Each CanStand a → All_alone (separated k.Comma initialiser_tokens ts)
  closed_alone (g.ItemsClosed.closed y {a = a} d h) r = items_alone d (split CanStand a (y ∷ []) r).0
  closed_alone (g.ItemsClosed.comma y z {a = a} d h h') r = items_alone d (split CanStand a (y ∷ z ∷ []) r).0

  items_alone : {a : List Symbol} {ts : List Initialiser} → g.InitialiserItems a ts → Each CanStand a → All_alone (separated k.Comma initialiser_tokens ts)
  items_alone (g.InitialiserItems.one {t = t} d) r = one_row k.Comma initialiser_tokens t (initialiser_alone d r)
  items_alone (g.InitialiserItems.more x {a = a} {c = c} {ts = ts} {t = t} d h d') r =
      let z = split CanStand a (x ∷ c) r in more_row k.Comma initialiser_tokens ts t (de.items_first d) (fixed_alone k.Comma refl) (items_alone d z.0) (initialiser_alone d' z.1.1)

object_alone : {a : List Symbol} {d : ObjectItem} → g.ObjectReads a d → Each CanStand a → All_alone (object_tokens d)
object_alone (g.ObjectReads.bare {d = d} h) r = both (declarator_tokens d) [] (declarator_alone h r) tt
object_alone (g.ObjectReads.initialised x {a = a} {c = c} {d = d} {v = v} h e h') r =
    let z = split CanStand a (x ∷ c) r in both (declarator_tokens d) (fixed k.Assign ∷ initialiser_tokens v) (declarator_alone h z.0) (fixed_alone k.Assign refl, initialiser_alone h' z.1.1)

local_alone : {a : List Symbol} {d : LocalItem} → g.LocalReads a d → Each CanStand a → All_alone (local_tokens d)
local_alone (g.LocalReads.bare {d = d} h) r = both (declarator_tokens d) [] (field_alone h r) tt
local_alone (g.LocalReads.initialised x {a = a} {c = c} {d = d} {v = v} h e h') r =
    let z = split CanStand a (x ∷ c) r in both (declarator_tokens d) (fixed k.Assign ∷ expr_tokens v) (field_alone h z.0) (fixed_alone k.Assign refl, chain_alone h' z.1.1)

objects_alone : {a : List Symbol} {ts : List ObjectItem} → g.Objects a ts → Each CanStand a → All_alone (separated k.Comma object_tokens ts)
objects_alone (g.Objects.one {d = t} d) r = one_row k.Comma object_tokens t (object_alone d r)
objects_alone (g.Objects.more x {a = a} {c = c} {ds = ts} {d = t} d h d') r =
    let z = split CanStand a (x ∷ c) r in more_row k.Comma object_tokens ts t (de.objects_first d) (fixed_alone k.Comma refl) (objects_alone d z.0) (object_alone d' z.1.1)

fields_alone : {a : List Symbol} {ts : List Declarator} → g.Fields a ts → Each CanStand a → All_alone (separated k.Comma declarator_tokens ts)
fields_alone (g.Fields.one {d = t} d) r = one_row k.Comma declarator_tokens t (field_alone d r)
fields_alone (g.Fields.more x {a = a} {c = c} {ds = ts} {d = t} d h d') r =
    let z = split CanStand a (x ∷ c) r in more_row k.Comma declarator_tokens ts t (de.fields_first d) (fixed_alone k.Comma refl) (fields_alone d z.0) (field_alone d' z.1.1)

local_items_alone : {a : List Symbol} {ts : List LocalItem} → g.LocalItems a ts → Each CanStand a → All_alone (separated k.Comma local_tokens ts)
local_items_alone (g.LocalItems.one {d = t} d) r = one_row k.Comma local_tokens t (local_alone d r)
local_items_alone (g.LocalItems.more x {a = a} {c = c} {ds = ts} {d = t} d h d') r =
    let z = split CanStand a (x ∷ c) r in more_row k.Comma local_tokens ts t (de.items_row_first d) (fixed_alone k.Comma refl) (local_items_alone d z.0) (local_alone d' z.1.1)

member_alone : {a : List Symbol} {m : Members} → g.MemberReads a m → Each CanStand a → All_alone (member_tokens m)
member_alone (g.MemberReads.member x {a = a} {c = c} {t = t} {fs = fs} e d h) r =
    let z = split CanStand a (c ++ x ∷ []) r in
    both (base_tokens t) (separated k.Comma declarator_tokens fs ++ fixed k.Semi ∷ []) (base_alone e z.0) (both (separated k.Comma declarator_tokens fs) (fixed k.Semi ∷ []) (fields_alone d (split CanStand c (x ∷ []) z.1).0) semi)

members_alone : {a : List Symbol} {ms : List Members} → g.MemberLists a ms → Each CanStand a → All_alone (flat_map member_tokens ms)
members_alone (g.MemberLists.one {m = t} d) r = both (member_tokens t) [] (member_alone d r) tt
members_alone (g.MemberLists.more {a = a} {c = c} {ms = ts} {m = t} d d') r = let z = split CanStand a c r in more_flat member_tokens ts t (members_alone d z.0) (member_alone d' z.1)

keyword_alone : (b : Bool) (kind : Kind) → StandsAlone (fixed kind) → All_alone (keyword_if b kind)
keyword_alone true kind s = (s, tt)
keyword_alone false kind s = tt

locals_alone : {a : List Symbol} {l : Locals} → g.LocalsRead a l → Each CanStand a → All_alone (locals_tokens l)
locals_alone (g.LocalsRead.locals x {a = a} {c = c} {d = d} {r = is_register} {t = t} {ds = ds} w e o h) r =
    let z = split CanStand a (c ++ (d ++ x ∷ [])) r in
    let y = split CanStand c (d ++ x ∷ []) z.1 in
    let rows = separated k.Comma local_tokens ds in
    both (keyword_if is_register k.KwRegister) (base_tokens t ++ (rows ++ fixed k.Semi ∷ [])) (keyword_alone is_register k.KwRegister (fixed_alone k.KwRegister refl))
    (both (base_tokens t) (rows ++ fixed k.Semi ∷ []) (base_alone e y.0) (both rows (fixed k.Semi ∷ []) (local_items_alone o (split CanStand d (x ∷ []) y.1).0) semi))

local_lists_alone : {a : List Symbol} {ls : List Locals} → g.LocalLists a ls → Each CanStand a → All_alone (flat_map locals_tokens ls)
local_lists_alone g.LocalLists.none r = tt
local_lists_alone (g.LocalLists.more {a = a} {c = c} {ls = ts} {l = t} d d') r = let z = split CanStand a c r in more_flat locals_tokens ts t (local_lists_alone d z.0) (locals_alone d' z.1)

parameter_alone : {a : List Symbol} {p : Parameter} → g.ParameterReads a p → Each CanStand a → All_alone (parameter_tokens p)
parameter_alone (g.ParameterReads.bare {a = a} {c = c} {t = t} {n = count} e d) r =
    both (base_tokens t) (star_tokens count ++ []) (base_alone e (split CanStand a c r).0) (both (star_tokens count) [] (stars_alone count) tt)
parameter_alone (g.ParameterReads.named x {a = a} {c = c} {t = t} {n = count} e d h) r =
    let z = split CanStand a (c ++ x ∷ []) r in
    both (base_tokens t) (star_tokens count ++ name x.text ∷ []) (base_alone e z.0) (both (star_tokens count) (name x.text ∷ []) (stars_alone count) ((split CanStand c (x ∷ []) z.1).1.0.name h, tt))

parameters_alone : {a : List Symbol} {ts : List Parameter} → g.Parameters a ts → Each CanStand a → All_alone (separated k.Comma parameter_tokens ts)
parameters_alone (g.Parameters.one {p = t} d) r = one_row k.Comma parameter_tokens t (parameter_alone d r)
parameters_alone (g.Parameters.more x {a = a} {c = c} {ps = ts} {p = t} d h d') r =
    let z = split CanStand a (x ∷ c) r in more_row k.Comma parameter_tokens ts t (de.parameters_first d) (fixed_alone k.Comma refl) (parameters_alone d z.0) (parameter_alone d' z.1.1)

void_tokens : All_alone (parameters_tokens [])
void_tokens = (fixed_alone k.KwVoid refl, tt)

closed_parameters : {a : List Symbol} {ps : List Parameter} → g.ParametersClosed a ps → Each CanStand a → All_alone (parameters_tokens ps)
closed_parameters (g.ParametersClosed.empty z h) r = void_tokens
closed_parameters (g.ParametersClosed.closed z {a = a} (g.Parameters.one {p = p} d) h) r = go (is_void_alone p) refl
  where
    go : (c : Bool) → is_void_alone p ≡ c → All_alone (parameters_tokens (proper (p ∷ [])))
    go true e = subst (λ (z : List Parameter). All_alone (parameters_tokens z)) (sym (de.proper_one p true e)) void_tokens
    go false e = subst (λ (z : List Parameter). All_alone (parameters_tokens z)) (sym (de.proper_one p false e)) (one_row k.Comma parameter_tokens p (parameter_alone d (split CanStand a (z ∷ []) r).0))
closed_parameters (g.ParametersClosed.closed z (g.Parameters.more x {a = a} {c = c} {ps = ts} {p = t} d e d') h) r =
    let y = split CanStand a (x ∷ c) (split CanStand (a ++ x ∷ c) (z ∷ []) r).0 in
    subst (λ (q : List Parameter). All_alone (parameters_tokens q)) (sym (de.proper_more ts t (de.parameters_first d)))
    (told (de.some_tokens (ts ++ t ∷ []) (st.has_first ts t)) (more_row k.Comma parameter_tokens ts t (de.parameters_first d) (fixed_alone k.Comma refl) (parameters_alone d y.0) (parameter_alone d' y.1.1)))

linkage_alone : (l : Linkage) → All_alone (linkage_tokens l)
linkage_alone linkage.Plain = tt
linkage_alone linkage.Static = (fixed_alone k.KwStatic refl, tt)
linkage_alone linkage.Extern = (fixed_alone k.KwExtern refl, tt)

head_alone : {a : List Symbol} {h : Head} → g.HeadReads a h → Each CanStand a → All_alone (head_tokens h)
head_alone (g.HeadReads.head x y {a = a} {d = d} {f = f} {n = count} {ps = ps} (g.Specifiers.specified {a = la} {c = lb} {l = l} {t = t} e o) ss h h' c) r =
    let z = split CanStand a (d ++ x ∷ y ∷ f) r in
    let w = split CanStand d (x ∷ y ∷ f) z.1 in
    let tail = name x.text ∷ parenthesised (parameters_tokens ps) in
    both (linkage_tokens l) (base_tokens t ++ (star_tokens count ++ tail)) (linkage_alone l)
    (both (base_tokens t) (star_tokens count ++ tail) (base_alone o (split CanStand la lb z.0).1)
    (both (star_tokens count) tail (stars_alone count) (w.1.0.name h, parens (parameters_tokens ps) (closed_parameters c w.1.1.1))))

external_alone : {a : List Symbol} {t : External} → g.ExternalReads a t → Each CanStand a → All_alone (external_tokens t)
external_alone (g.ExternalReads.struct x v y w {ms = ms} h h' h'' (g.MembersClosed.closed z {a = a} d e) h''') r =
    (fixed_alone k.KwStruct refl, (r.1.0.name h', both (braced (flat_map member_tokens ms)) (fixed k.Semi ∷ []) (braces (flat_map member_tokens ms) (members_alone d (split CanStand a (z ∷ []) (split CanStand (a ++ z ∷ []) (w ∷ []) r.1.1.1).0).0)) semi))
external_alone (g.ExternalReads.objects x {a = a} {d = d} {ds = ds} (g.Specifiers.specified {a = la} {c = lb} {l = l} {t = t} e o) q h) r =
    let z = split CanStand a (d ++ x ∷ []) r in
    let rows = separated k.Comma object_tokens ds in
    both (linkage_tokens l) (base_tokens t ++ (rows ++ fixed k.Semi ∷ [])) (linkage_alone l)
    (both (base_tokens t) (rows ++ fixed k.Semi ∷ []) (base_alone o (split CanStand la lb z.0).1) (both rows (fixed k.Semi ∷ []) (objects_alone q (split CanStand d (x ∷ []) z.1).0) semi))
external_alone (g.ExternalReads.prototype x {a = a} {h = h} d e) r = both (head_tokens h) (fixed k.Semi ∷ []) (head_alone d (split CanStand a (x ∷ []) r).0) semi
external_alone (g.ExternalReads.function x {a = a} {c = c} {d = d} {h = h} {ls = ls} {ss = ss} e named e' w o) r =
    let y = split CanStand a (x ∷ (c ++ d)) r in
    let z = split CanStand c d y.1.1 in
    both (head_tokens h) (braced (flat_map locals_tokens ls ++ flat_map stmt_tokens ss)) (head_alone e y.0)
    (braces (flat_map locals_tokens ls ++ flat_map stmt_tokens ss) (both (flat_map locals_tokens ls) (flat_map stmt_tokens ss) (local_lists_alone w z.0) (braced_alone o z.1)))

pub tree_alone : {a : List Symbol} {ts : List External} → g.Reads a ts → Each CanStand a → Each StandsAlone (tokens_of ts)
tree_alone g.Reads.none r = tt
tree_alone (g.Reads.more {a = a} {c = c} {ts = ts} {t = t} d d') r = let z = split CanStand a c r in more_flat external_tokens ts t (tree_alone d z.0) (external_alone d' z.1)
