-- What is a declaration in the grammar is read as that declaration.
use Rattle.std.proofs.Common.{◌≡◌, ℕ, ◌+◌, ◌<◌, List, [], ◌∷◌, ◌++◌, length, Some, None, refl, sym, ap, ◌∙◌, subst, arith, append_assoc, ◌≤◌, Bool, true, false}
use Rattle.text_grammar.specs.declared.kind.Kind.{Kind}
use Rattle.text_grammar.specs.declared.kind.Kind.TheVariants as k
use Rattle.text_grammar.specs.declared.kind.Level.TheVariants as level
use Rattle.text_grammar.specs.declared.tree.Expr.{Expr}
use Rattle.text_grammar.specs.declared.tree.Simple.{Simple}
use Rattle.text_grammar.specs.declared.tree.Stmt.{Stmt}
use Rattle.text_grammar.specs.declared.tree.Number.{Number}
use Rattle.text_grammar.specs.declared.tree.Initialiser.{Initialiser}
use Rattle.text_grammar.specs.declared.tree.Initialiser.TheVariants as init
use Rattle.text_grammar.specs.declared.tree.Declarator.{Declarator}
use Rattle.text_grammar.specs.declared.tree.ObjectItem.{ObjectItem}
use Rattle.text_grammar.specs.declared.tree.Members.{Members}
use Rattle.text_grammar.specs.declared.tree.Parameter.{Parameter}
use Rattle.text_grammar.specs.declared.tree.LocalItem.{LocalItem}
use Rattle.text_grammar.specs.declared.tree.Locals.{Locals}
use Rattle.text_grammar.specs.declared.tree.Linkage.{Linkage}
use Rattle.text_grammar.specs.declared.tree.Linkage.TheVariants as linkage
use Rattle.text_grammar.specs.declared.tree.Head.{Head}
use Rattle.text_grammar.specs.declared.tree.External.{External}
use Rattle.text_grammar.specs.declared.tree.External.TheVariants as top
use Rattle.text_grammar.specs.declared.tree.Base.{Base}
use Rattle.text_grammar.specs.laws.SameKind.{same}
use Rattle.text_grammar.specs.Grammar.{name_at, arm, Symbol, prefix_of, operator_of, number_at, head_of, proper, all_named}
use Rattle.text_grammar.specs.Grammar as g
use Rattle.text_grammar.specs.laws.Programs.{head, Prog, BaseType, StarsOf, ChainOf, Ret, Fail, Peek, Call, try, expect, begins_type, walk, StatementsOf, LengthsOf, FieldOf, FieldsOf, MemberOf, MembersOf, InitialiserOf, ItemsOf, ObjectTail, ObjectOf, ObjectsOf, ParameterTail, ParameterOf, ParametersOf, ParameterList, DeclaredOf, LocalOf, LocalItemsOf, LocalListsOf, ExternalOf, UnitOf, length_number, length_at, declarator, field_named, field_from, fields_more, member_end, member_base, members_more, string_of, list_first, init_braces, init_expr, items_next, items_comma, object_done, object_value, object_init, object_open, object_length, object_bracket, object_tail, object_named, object_from, objects_more, parameter_of, parameter_named, parameter_from, parameters_more, parameters_end, parameters_given, objects_end, objects_first, function_body, function_locals, head_end, head_at, head_closed, declared_named, declared_from, local_value, local_init, locals_next, locals_end, locals_from, locals_at, local_items_more, struct_done, struct_first, struct_base, struct_named, struct_start, specified, external_extern, external_static, runs, and_then, taken, is_type_word}
use Rattle.std.proofs.lemmas.List.{append-nil}
use Rattle.text_grammar.specs.laws.Same.{same_not}
use Rattle.text_grammar.specs.laws.ProgramWalks.{runs_walk}
use Rattle.text_grammar.specs.laws.ProgramSteps.{not_taken, other, try_take, try_no, try_other, expect_take, call_ok, call_last}
use Rattle.text_grammar.specs.laws.ExpressionsRead.{true_false, value_of_pair, same_some, next_binds, closes, complete, stars_read, base_complete, base_begins, stars_no_type, unary_no_type}
use Rattle.text_grammar.specs.laws.Sound.{external_some}
use Rattle.text_grammar.specs.laws.StatementsRead.{no_starter, chain_starts, unary_starts, braced_complete, First, arms_first}

-- What ends an item of a list.
data Stop : List Symbol → Type 0 where
  comma : (x : Symbol) (q : List Symbol) → x.kind ≡ k.Comma → Stop (x ∷ q)
  semi : (x : Symbol) (q : List Symbol) → x.kind ≡ k.Semi → Stop (x ∷ q)
  brace : (x : Symbol) (q : List Symbol) → x.kind ≡ k.RBrace → Stop (x ∷ q)
  paren : (x : Symbol) (q : List Symbol) → x.kind ≡ k.RParen → Stop (x ∷ q)

stop_not : (c : Kind) {r : List Symbol} → Stop r → same c k.Comma ≡ false → same c k.Semi ≡ false → same c k.RBrace ≡ false → same c k.RParen ≡ false → taken c (head r) ≡ None
stop_not c (comma x q h) a b d e = other c k.Comma x h a
stop_not c (semi x q h) a b d e = other c k.Semi x h b
stop_not c (brace x q h) a b d e = other c k.RBrace x h d
stop_not c (paren x q h) a b d e = other c k.RParen x h e

stop_binds : {r : List Symbol} → Stop r → next_binds r < 1
stop_binds (comma x q h) = closes k.Comma x q h refl
stop_binds (semi x q h) = closes k.Semi x q h refl
stop_binds (brace x q h) = closes k.RBrace x q h refl
stop_binds (paren x q h) = closes k.RParen x q h refl

stop_no_type : {r : List Symbol} → Stop r → begins_type (head r) ≡ false
stop_no_type (comma x q h) = ap is_type_word h
stop_no_type (semi x q h) = ap is_type_word h
stop_no_type (brace x q h) = ap is_type_word h
stop_no_type (paren x q h) = ap is_type_word h

-- a word of a type is no other token
type_not : (c : Kind) (ts : List Symbol) → is_type_word c ≡ false → begins_type (head ts) ≡ true → taken c (head ts) ≡ None
type_not c [] n h = refl
type_not c (x ∷ ts) n h = not_taken c x (same_not c x.kind (λ is. true_false (sym h ∙ ap is_type_word (sym is) ∙ n)))

zero_plus : (n : ℕ) → 0 + n ≡ n
zero_plus n = omega arith

stars_from : {a : List Symbol} {n : ℕ} → g.Stars a n → (r : List Symbol) → taken k.Star (head r) ≡ None → runs (StarsOf 0) (a ++ r) ≡ (Some n, r)
stars_from {n = n} d r h = stars_read d 0 r h ∙ ap (λ j. (Some j, r)) (zero_plus n)

-- Lengths and fields.

lengths_turn : (found : List Number) (x m y : Symbol) (r : List Symbol) → x.kind ≡ k.LBracket → m.kind ≡ k.Num → y.kind ≡ k.RBracket
    → runs (LengthsOf found) (x ∷ m ∷ y ∷ r) ≡ runs (LengthsOf (found ++ number_at m ∷ [])) r
lengths_turn found x m y r ex em ey =
    runs_walk (LengthsOf found) (x ∷ m ∷ y ∷ r)
    ∙ try_take k.LBracket (length_at found) (Ret found) x (m ∷ y ∷ r) ex
    ∙ try_take k.Num (length_number found) Fail m (y ∷ r) em
    ∙ expect_take k.RBracket (Call (LengthsOf (found ++ number_at m ∷ [])) Ret) y r ey
    ∙ call_last (LengthsOf (found ++ number_at m ∷ [])) r

lengths_complete : {c : List Symbol} {ns : List Number} → g.Lengths c ns → (r : List Symbol) → runs (LengthsOf []) (c ++ r) ≡ runs (LengthsOf ns) r
lengths_complete g.Lengths.none r = refl
lengths_complete (g.Lengths.more x n y {a = a} {ns = ns} d ex en ey) r =
    ap (runs (LengthsOf [])) (append_assoc a (x ∷ n ∷ y ∷ []) r) ∙ lengths_complete d (x ∷ n ∷ y ∷ r) ∙ lengths_turn ns x n y r ex en ey

lengths_end : (ns : List Number) (r : List Symbol) → taken k.LBracket (head r) ≡ None → runs (LengthsOf ns) r ≡ (Some ns, r)
lengths_end ns r h = runs_walk (LengthsOf ns) r ∙ try_no k.LBracket (length_at ns) (Ret ns) r h

field_complete : {a : List Symbol} {d : Declarator} → g.FieldReads a d → (r : List Symbol) → taken k.LBracket (head r) ≡ None → runs FieldOf (a ++ r) ≡ (Some d, r)
field_complete (g.field x {a = a} {c = c} {n = n} {ns = ns} dn ex dl) r h =
    ap (runs FieldOf) (append_assoc a (x ∷ c) r)
    ∙ runs_walk FieldOf (a ++ x ∷ (c ++ r))
    ∙ call_ok (StarsOf 0) field_from (a ++ x ∷ (c ++ r)) n (x ∷ (c ++ r)) (stars_from dn (x ∷ (c ++ r)) (other k.Star k.Id x ex refl))
    ∙ try_take k.Id (field_named n) Fail x (c ++ r) ex
    ∙ call_ok (LengthsOf []) (λ ns. Ret (declarator n x false ns)) (c ++ r) ns r (lengths_complete dl r ∙ lengths_end ns r h)

field_no_type : {a : List Symbol} {d : Declarator} → g.FieldReads a d → (r : List Symbol) → begins_type (head (a ++ r)) ≡ false
field_no_type (g.field x {a = a} {c = c} dn ex dl) r = ap (λ z. begins_type (head z)) (append_assoc a (x ∷ c) r) ∙ stars_no_type dn (x ∷ (c ++ r)) (ap is_type_word ex)

fields_turn : (found : List Declarator) (d : Declarator) (x : Symbol) (c r : List Symbol) → x.kind ≡ k.Comma → runs FieldOf (c ++ r) ≡ (Some d, r) → runs (FieldsOf found) (x ∷ (c ++ r)) ≡ runs (FieldsOf (found ++ d ∷ [])) r
fields_turn found d x c r ex h =
    runs_walk (FieldsOf found) (x ∷ (c ++ r))
    ∙ try_take k.Comma (fields_more found) (Ret found) x (c ++ r) ex
    ∙ call_ok FieldOf (λ d. Call (FieldsOf (found ++ d ∷ [])) Ret) (c ++ r) d r h
    ∙ call_last (FieldsOf (found ++ d ∷ [])) r

fields_complete : {B : Type 0} (f : List Declarator → Prog B) {a : List Symbol} {ds : List Declarator} → g.Fields a ds → (r : List Symbol) → Stop r
    → walk runs (Call FieldOf (λ d. Call (FieldsOf (d ∷ [])) f)) (a ++ r) ≡ walk runs (Call (FieldsOf ds) f) r
fields_complete f (g.Fields.one {a = a} {d = d} dd) r h = call_ok FieldOf (λ d. Call (FieldsOf (d ∷ [])) f) (a ++ r) d r (field_complete dd r (stop_not k.LBracket h refl refl refl refl))
fields_complete f (g.Fields.more x {a = a} {c = c} {ds = ds} {d = d} dd ex dd') r h =
    ap (walk runs (Call FieldOf (λ d. Call (FieldsOf (d ∷ [])) f))) (append_assoc a (x ∷ c) r)
    ∙ fields_complete f dd (x ∷ (c ++ r)) (comma x (c ++ r) ex)
    ∙ ap (λ o. and_then o (λ v q. walk runs (f v) q)) (fields_turn ds d x c r ex (field_complete dd' r (stop_not k.LBracket h refl refl refl refl)))

fields_end : (ds : List Declarator) (r : List Symbol) → taken k.Comma (head r) ≡ None → runs (FieldsOf ds) r ≡ (Some ds, r)
fields_end ds r h = runs_walk (FieldsOf ds) r ∙ try_no k.Comma (fields_more ds) (Ret ds) r h

fields_no_type : {a : List Symbol} {ds : List Declarator} → g.Fields a ds → (r : List Symbol) → begins_type (head (a ++ r)) ≡ false
fields_no_type (g.Fields.one d) r = field_no_type d r
fields_no_type (g.Fields.more x {a = a} {c = c} d ex d') r = ap (λ z. begins_type (head z)) (append_assoc a (x ∷ c) r) ∙ fields_no_type d ((x ∷ c) ++ r)

member_complete : {a : List Symbol} {m : Members} → g.MemberReads a m → (r : List Symbol) → runs MemberOf (a ++ r) ≡ (Some m, r)
member_complete (g.member x {a = a} {c = c} {t = t} {fs = fs} dt df ex) r =
    let e1 : (a ++ (c ++ x ∷ [])) ++ r ≡ a ++ (c ++ x ∷ r) = simp append_assoc in
    ap (runs MemberOf) e1
    ∙ runs_walk MemberOf (a ++ (c ++ x ∷ r))
    ∙ call_ok BaseType member_base (a ++ (c ++ x ∷ r)) t (c ++ x ∷ r) (base_complete dt (c ++ x ∷ r) (fields_no_type df (x ∷ r)))
    ∙ fields_complete (member_end t) df (x ∷ r) (semi x r ex)
    ∙ call_ok (FieldsOf fs) (member_end t) (x ∷ r) fs (x ∷ r) (fields_end fs (x ∷ r) (other k.Comma k.Semi x ex refl))
    ∙ expect_take k.Semi (Ret (record { base = t; fields = fs })) x r ex

member_begins : {a : List Symbol} {m : Members} → g.MemberReads a m → (r : List Symbol) → begins_type (head (a ++ r)) ≡ true
member_begins (g.member x {a = a} {c = c} dt df ex) r = ap (λ z. begins_type (head z)) (append_assoc a (c ++ x ∷ []) r) ∙ base_begins dt ((c ++ x ∷ []) ++ r)

members_complete : {B : Type 0} (f : List Members → Prog B) {a : List Symbol} {ms : List Members} → g.MemberLists a ms → (r : List Symbol)
    → walk runs (Call MemberOf (λ m. Call (MembersOf (m ∷ [])) f)) (a ++ r) ≡ walk runs (Call (MembersOf ms) f) r
members_complete f (g.MemberLists.one {a = a} {m = m} d) r = call_ok MemberOf (λ m. Call (MembersOf (m ∷ [])) f) (a ++ r) m r (member_complete d r)
members_complete f (g.MemberLists.more {a = a} {c = c} {ms = ms} {m = m} d d') r =
    ap (walk runs (Call MemberOf (λ m. Call (MembersOf (m ∷ [])) f))) (append_assoc a c r)
    ∙ members_complete f d (c ++ r)
    ∙ ap (λ o. and_then o (λ v q. walk runs (f v) q))
    (runs_walk (MembersOf ms) (c ++ r)
    ∙ try_no k.RBrace (λ y. Ret ms) (members_more ms) (c ++ r) (type_not k.RBrace (c ++ r) refl (member_begins d' r))
    ∙ call_ok MemberOf (λ m. Call (MembersOf (ms ++ m ∷ [])) Ret) (c ++ r) m r (member_complete d' r)
    ∙ call_last (MembersOf (ms ++ m ∷ [])) r)

-- Initialisers.

init_no_brace : {a : List Symbol} {v : Initialiser} → g.InitialiserReads a v → (r : List Symbol) → taken k.RBrace (head (a ++ r)) ≡ None
init_no_brace (g.InitialiserReads.expr {a = a} d) r = no_starter k.RBrace (a ++ r) refl (chain_starts d r)
init_no_brace (g.InitialiserReads.string x h) r = other k.RBrace k.Str x h refl
init_no_brace (g.InitialiserReads.items x h d) r = other k.RBrace k.LBrace x h refl

mutual
  init_complete : {a : List Symbol} {v : Initialiser} → g.InitialiserReads a v → (r : List Symbol) → Stop r → runs InitialiserOf (a ++ r) ≡ (Some v, r)
  init_complete (g.InitialiserReads.expr {a = a} {t = t} d) r h =
      runs_walk InitialiserOf (a ++ r)
      ∙ try_no k.Str (λ x. Ret (string_of x)) init_braces (a ++ r) (no_starter k.Str (a ++ r) refl (chain_starts d r))
      ∙ try_no k.LBrace list_first init_expr (a ++ r) (no_starter k.LBrace (a ++ r) refl (chain_starts d r))
      ∙ call_ok (ChainOf level.Or) (λ t. Ret (init.Expr t)) (a ++ r) t r (complete a t d r (stop_binds h))
  init_complete (g.InitialiserReads.string x ex) r h = runs_walk InitialiserOf (x ∷ r) ∙ try_take k.Str (λ x. Ret (string_of x)) init_braces x r ex
  init_complete (g.InitialiserReads.items x {a = a} {ts = ts} ex d) r h =
      runs_walk InitialiserOf (x ∷ (a ++ r))
      ∙ try_other k.Str (λ x. Ret (string_of x)) init_braces k.LBrace x (a ++ r) ex refl
      ∙ try_take k.LBrace list_first init_expr x (a ++ r) ex
      ∙ items_closed x d r

  items_closed : (x : Symbol) {a : List Symbol} {ts : List Initialiser} → g.ItemsClosed a ts → (r : List Symbol) → walk runs (list_first x) (a ++ r) ≡ (Some (init.List x.at ts), r)
  items_closed x (g.ItemsClosed.closed y {a = a} {ts = ts} d ey) r =
      ap (walk runs (list_first x)) (append_assoc a (y ∷ []) r)
      ∙ items_complete (λ vs. Ret (init.List x.at vs)) d (y ∷ r) (brace y r ey)
      ∙ call_ok (ItemsOf ts) (λ vs. Ret (init.List x.at vs)) (y ∷ r) ts r
      (runs_walk (ItemsOf ts) (y ∷ r) ∙ try_other k.Comma (items_comma ts) (expect k.RBrace (Ret ts)) k.RBrace y r ey refl ∙ expect_take k.RBrace (Ret ts) y r ey)
  items_closed x (g.ItemsClosed.comma y z {a = a} {ts = ts} d ey ez) r =
      ap (walk runs (list_first x)) (append_assoc a (y ∷ z ∷ []) r)
      ∙ items_complete (λ vs. Ret (init.List x.at vs)) d (y ∷ z ∷ r) (comma y (z ∷ r) ey)
      ∙ call_ok (ItemsOf ts) (λ vs. Ret (init.List x.at vs)) (y ∷ z ∷ r) ts r
      (runs_walk (ItemsOf ts) (y ∷ z ∷ r) ∙ try_take k.Comma (items_comma ts) (expect k.RBrace (Ret ts)) y (z ∷ r) ey ∙ try_take k.RBrace (λ y. Ret ts) (items_next ts) z r ez)

  items_complete : (f : List Initialiser → Prog Initialiser) {a : List Symbol} {ts : List Initialiser} → g.InitialiserItems a ts → (r : List Symbol) → Stop r
      → walk runs (Call InitialiserOf (λ v. Call (ItemsOf (v ∷ [])) f)) (a ++ r) ≡ walk runs (Call (ItemsOf ts) f) r
  items_complete f (g.InitialiserItems.one {a = a} {t = t} d) r h = call_ok InitialiserOf (λ v. Call (ItemsOf (v ∷ [])) f) (a ++ r) t r (init_complete d r h)
  items_complete f (g.InitialiserItems.more x {a = a} {c = c} {ts = ts} {t = t} d ex d') r h =
      ap (walk runs (Call InitialiserOf (λ v. Call (ItemsOf (v ∷ [])) f))) (append_assoc a (x ∷ c) r)
      ∙ items_complete f d (x ∷ (c ++ r)) (comma x (c ++ r) ex)
      ∙ ap (λ o. and_then o (λ v q. walk runs (f v) q))
      (runs_walk (ItemsOf ts) (x ∷ (c ++ r))
      ∙ try_take k.Comma (items_comma ts) (expect k.RBrace (Ret ts)) x (c ++ r) ex
      ∙ try_no k.RBrace (λ y. Ret ts) (items_next ts) (c ++ r) (init_no_brace d' r)
      ∙ call_ok InitialiserOf (λ v. Call (ItemsOf (ts ++ v ∷ [])) Ret) (c ++ r) t r (init_complete d' r h)
      ∙ call_last (ItemsOf (ts ++ t ∷ [])) r)

-- Objects.

-- lengths that are some begin with one
record FirstLength (c : List Symbol) (ns : List Number) : Type 0 where
  x : Symbol
  m : Symbol
  y : Symbol
  rest : List Symbol
  is : c ≡ x ∷ m ∷ y ∷ rest
  opened : x.kind ≡ k.LBracket
  number : m.kind ≡ k.Num
  shut : y.kind ≡ k.RBracket

data LengthsShape (c : List Symbol) (ns : List Number) : Type 0 where
  none : c ≡ [] → ns ≡ [] → LengthsShape c ns
  some : FirstLength c ns → LengthsShape c ns

lengths_shape : {c : List Symbol} {ns : List Number} → g.Lengths c ns → LengthsShape c ns
lengths_shape g.Lengths.none = none refl refl
lengths_shape (g.Lengths.more x n y {a = a} {ns = ns} d ex en ey) = go (lengths_shape d)
  where
    go : LengthsShape a ns → LengthsShape (a ++ x ∷ n ∷ y ∷ []) (ns ++ number_at n ∷ [])
    go (none p q) = some (record { x = x; m = n; y = y; rest = []; is = ap (λ z. z ++ x ∷ n ∷ y ∷ []) p; opened = ex; number = en; shut = ey })
    go (some f) = some (record { x = f.x; m = f.m; y = f.y; rest = f.rest ++ x ∷ n ∷ y ∷ []; is = ap (λ z. z ++ x ∷ n ∷ y ∷ []) f.is; opened = f.opened; number = f.number; shut = f.shut })

-- what an object's name may be followed by
record NoParen (q : List Symbol) : Type 0 where
  bracket : taken k.LBracket (head q) ≡ None
  paren : taken k.LParen (head q) ≡ None

record Tail (a : List Symbol) (d : Declarator) (q : List Symbol) : Type 0 where
  front : List Symbol
  n : ℕ
  x : Symbol
  rest : List Symbol
  is : a ++ q ≡ front ++ x ∷ rest
  stars : g.Stars front n
  named : x.kind ≡ k.Id
  goes : walk runs (object_tail n x) rest ≡ walk runs (object_init d) q
  no_call : taken k.LParen (head rest) ≡ None

tail_of : {a : List Symbol} {d : Declarator} → g.DeclaratorReads a d → (q : List Symbol) → NoParen q → Tail a d q
tail_of (g.known (g.field x {a = a} {c = c} {n = n} {ns = ns} dn ex dl)) q h = go (lengths_shape dl)
  where
    go : LengthsShape c ns → Tail (a ++ x ∷ c) (declarator n x false ns) q
    go (none p r) = record {
      front = a;
      n = n;
      x = x;
      rest = q;
      is = append_assoc a (x ∷ c) q ∙ ap (λ z. a ++ x ∷ (z ++ q)) p;
      stars = dn;
      named = ex;
      goes = try_no k.LBracket (object_bracket n x) (object_init (declarator n x false [])) q h.bracket ∙ ap (λ z. walk runs (object_init (declarator n x false z)) q) (sym r);
      no_call = h.paren;
    }
    go (some f) =
        let e1 : c ++ q ≡ f.x ∷ f.m ∷ f.y ∷ (f.rest ++ q) = ap (λ z. z ++ q) f.is in
        let here : runs (LengthsOf (number_at f.m ∷ [])) (f.rest ++ q) ≡ (Some ns, q) =
        sym (lengths_turn [] f.x f.m f.y (f.rest ++ q) f.opened f.number f.shut) ∙ ap (runs (LengthsOf [])) (sym e1) ∙ lengths_complete dl q ∙ lengths_end ns q h.bracket in
        record {
          front = a;
          n = n;
          x = x;
          rest = f.x ∷ f.m ∷ f.y ∷ (f.rest ++ q);
          is = append_assoc a (x ∷ c) q ∙ ap (λ z. a ++ x ∷ z) e1;
          stars = dn;
          named = ex;
          goes =
              try_take k.LBracket (object_bracket n x) (object_init (declarator n x false [])) f.x (f.m ∷ f.y ∷ (f.rest ++ q)) f.opened
              ∙ try_other k.RBracket (object_open n x) (try k.Num (object_length n x) Fail) k.Num f.m (f.y ∷ (f.rest ++ q)) f.number refl
              ∙ try_take k.Num (object_length n x) Fail f.m (f.y ∷ (f.rest ++ q)) f.number
              ∙ expect_take k.RBracket (Call (LengthsOf (number_at f.m ∷ [])) (λ ns. object_init (declarator n x false ns))) f.y (f.rest ++ q) f.shut
              ∙ call_ok (LengthsOf (number_at f.m ∷ [])) (λ ns. object_init (declarator n x false ns)) (f.rest ++ q) ns q here;
          no_call = other k.LParen k.LBracket f.x f.opened refl;
        }
tail_of (g.open_array x y z {a = a} {c = c} {n = n} {ns = ns} dn ex ey ez dl) q h = record {
  front = a;
  n = n;
  x = x;
  rest = y ∷ z ∷ (c ++ q);
  is = append_assoc a (x ∷ y ∷ z ∷ c) q;
  stars = dn;
  named = ex;
  goes =
      try_take k.LBracket (object_bracket n x) (object_init (declarator n x false [])) y (z ∷ (c ++ q)) ey
      ∙ try_take k.RBracket (object_open n x) (try k.Num (object_length n x) Fail) z (c ++ q) ez
      ∙ call_ok (LengthsOf []) (λ ns. object_init (declarator n x true ns)) (c ++ q) ns q (lengths_complete dl q ∙ lengths_end ns q h.bracket);
  no_call = other k.LParen k.LBracket y ey refl;
}

record ObjectShape (a : List Symbol) (o : ObjectItem) (r : List Symbol) : Type 0 where
  front : List Symbol
  n : ℕ
  x : Symbol
  rest : List Symbol
  is : a ++ r ≡ front ++ x ∷ rest
  stars : g.Stars front n
  named : x.kind ≡ k.Id
  reads : runs (ObjectTail n x) rest ≡ (Some o, r)
  no_call : taken k.LParen (head rest) ≡ None

object_shape : {a : List Symbol} {o : ObjectItem} → g.ObjectReads a o → (r : List Symbol) → Stop r → ObjectShape a o r
object_shape (g.ObjectReads.bare {a = a} {d = d} dd) r h =
    let t = tail_of dd r (record { bracket = stop_not k.LBracket h refl refl refl refl; paren = stop_not k.LParen h refl refl refl refl }) in
    record {
      front = t.front;
      n = t.n;
      x = t.x;
      rest = t.rest;
      is = t.is;
      stars = t.stars;
      named = t.named;
      reads = runs_walk (ObjectTail t.n t.x) t.rest ∙ t.goes ∙ try_no k.Assign (object_value d) (Ret (record { declarator = d; initialised = None })) r (stop_not k.Assign h refl refl refl refl);
      no_call = t.no_call;
    }
object_shape (g.ObjectReads.initialised x {a = a} {c = c} {d = d} {v = v} dd ex dv) r h =
    let t = tail_of dd (x ∷ (c ++ r)) (record { bracket = other k.LBracket k.Assign x ex refl; paren = other k.LParen k.Assign x ex refl }) in
    record {
      front = t.front;
      n = t.n;
      x = t.x;
      rest = t.rest;
      is = append_assoc a (x ∷ c) r ∙ t.is;
      stars = t.stars;
      named = t.named;
      reads =
          runs_walk (ObjectTail t.n t.x) t.rest
          ∙ t.goes
          ∙ try_take k.Assign (object_value d) (Ret (record { declarator = d; initialised = None })) x (c ++ r) ex
          ∙ call_ok InitialiserOf (λ v. Ret (object_done d x v)) (c ++ r) v r (init_complete dv r h);
      no_call = t.no_call;
    }

object_complete : {a : List Symbol} {o : ObjectItem} → g.ObjectReads a o → (r : List Symbol) → Stop r → runs ObjectOf (a ++ r) ≡ (Some o, r)
object_complete d r h =
    let s = object_shape d r h in
    ap (runs ObjectOf) s.is
    ∙ runs_walk ObjectOf (s.front ++ s.x ∷ s.rest)
    ∙ call_ok (StarsOf 0) object_from (s.front ++ s.x ∷ s.rest) s.n (s.x ∷ s.rest) (stars_from s.stars (s.x ∷ s.rest) (other k.Star k.Id s.x s.named refl))
    ∙ try_take k.Id (object_named s.n) Fail s.x s.rest s.named
    ∙ call_last (ObjectTail s.n s.x) s.rest
    ∙ s.reads

objects_turn : (found : List ObjectItem) (d : ObjectItem) (x : Symbol) (c r : List Symbol) → x.kind ≡ k.Comma → runs ObjectOf (c ++ r) ≡ (Some d, r) → runs (ObjectsOf found) (x ∷ (c ++ r)) ≡ runs (ObjectsOf (found ++ d ∷ [])) r
objects_turn found d x c r ex h =
    runs_walk (ObjectsOf found) (x ∷ (c ++ r))
    ∙ try_take k.Comma (objects_more found) (Ret found) x (c ++ r) ex
    ∙ call_ok ObjectOf (λ d. Call (ObjectsOf (found ++ d ∷ [])) Ret) (c ++ r) d r h
    ∙ call_last (ObjectsOf (found ++ d ∷ [])) r

objects_complete : {B : Type 0} (f : List ObjectItem → Prog B) {a : List Symbol} {ds : List ObjectItem} → g.Objects a ds → (r : List Symbol) → Stop r
    → walk runs (Call ObjectOf (λ d. Call (ObjectsOf (d ∷ [])) f)) (a ++ r) ≡ walk runs (Call (ObjectsOf ds) f) r
objects_complete f (g.Objects.one {a = a} {d = d} dd) r h = call_ok ObjectOf (λ d. Call (ObjectsOf (d ∷ [])) f) (a ++ r) d r (object_complete dd r h)
objects_complete f (g.Objects.more x {a = a} {c = c} {ds = ds} {d = d} dd ex dd') r h =
    ap (walk runs (Call ObjectOf (λ d. Call (ObjectsOf (d ∷ [])) f))) (append_assoc a (x ∷ c) r)
    ∙ objects_complete f dd (x ∷ (c ++ r)) (comma x (c ++ r) ex)
    ∙ ap (λ o. and_then o (λ v q. walk runs (f v) q)) (objects_turn ds d x c r ex (object_complete dd' r h))

objects_end' : (ds : List ObjectItem) (r : List Symbol) → taken k.Comma (head r) ≡ None → runs (ObjectsOf ds) r ≡ (Some ds, r)
objects_end' ds r h = runs_walk (ObjectsOf ds) r ∙ try_no k.Comma (objects_more ds) (Ret ds) r h

object_no_type : {a : List Symbol} {o : ObjectItem} → g.ObjectReads a o → (r : List Symbol) → Stop r → begins_type (head (a ++ r)) ≡ false
object_no_type d r h = let s = object_shape d r h in ap (λ z. begins_type (head z)) s.is ∙ stars_no_type s.stars (s.x ∷ s.rest) (ap is_type_word s.named)

-- Parameters.

parameter_complete : {a : List Symbol} {p : Parameter} → g.ParameterReads a p → (r : List Symbol) → Stop r → runs ParameterOf (a ++ r) ≡ (Some p, r)
parameter_complete (g.ParameterReads.bare {a = a} {c = c} {t = t} {n = n} dt dn) r h =
    ap (runs ParameterOf) (append_assoc a c r)
    ∙ runs_walk ParameterOf (a ++ (c ++ r))
    ∙ call_ok BaseType (λ t. Call (ParameterTail t) Ret) (a ++ (c ++ r)) t (c ++ r) (base_complete dt (c ++ r) (stars_no_type dn r (stop_no_type h)))
    ∙ call_last (ParameterTail t) (c ++ r)
    ∙ runs_walk (ParameterTail t) (c ++ r)
    ∙ call_ok (StarsOf 0) (parameter_from t) (c ++ r) n r (stars_from dn r (stop_not k.Star h refl refl refl refl))
    ∙ try_no k.Id (parameter_named t n) (Ret (parameter_of t n None)) r (stop_not k.Id h refl refl refl refl)
parameter_complete (g.ParameterReads.named x {a = a} {c = c} {t = t} {n = n} dt dn ex) r h =
    let e1 : (a ++ (c ++ x ∷ [])) ++ r ≡ a ++ (c ++ x ∷ r) = simp append_assoc in
    ap (runs ParameterOf) e1
    ∙ runs_walk ParameterOf (a ++ (c ++ x ∷ r))
    ∙ call_ok BaseType (λ t. Call (ParameterTail t) Ret) (a ++ (c ++ x ∷ r)) t (c ++ x ∷ r) (base_complete dt (c ++ x ∷ r) (stars_no_type dn (x ∷ r) (ap is_type_word ex)))
    ∙ call_last (ParameterTail t) (c ++ x ∷ r)
    ∙ runs_walk (ParameterTail t) (c ++ x ∷ r)
    ∙ call_ok (StarsOf 0) (parameter_from t) (c ++ x ∷ r) n (x ∷ r) (stars_from dn (x ∷ r) (other k.Star k.Id x ex refl))
    ∙ try_take k.Id (parameter_named t n) (Ret (parameter_of t n None)) x r ex

parameters_turn : (found : List Parameter) (d : Parameter) (x : Symbol) (c r : List Symbol) → x.kind ≡ k.Comma → runs ParameterOf (c ++ r) ≡ (Some d, r) → runs (ParametersOf found) (x ∷ (c ++ r)) ≡ runs (ParametersOf (found ++ d ∷ [])) r
parameters_turn found d x c r ex h =
    runs_walk (ParametersOf found) (x ∷ (c ++ r))
    ∙ try_take k.Comma (parameters_more found) (Ret found) x (c ++ r) ex
    ∙ call_ok ParameterOf (λ d. Call (ParametersOf (found ++ d ∷ [])) Ret) (c ++ r) d r h
    ∙ call_last (ParametersOf (found ++ d ∷ [])) r

parameters_complete : {B : Type 0} (f : List Parameter → Prog B) {a : List Symbol} {ds : List Parameter} → g.Parameters a ds → (r : List Symbol) → Stop r
    → walk runs (Call ParameterOf (λ d. Call (ParametersOf (d ∷ [])) f)) (a ++ r) ≡ walk runs (Call (ParametersOf ds) f) r
parameters_complete f (g.Parameters.one {a = a} {p = d} dd) r h = call_ok ParameterOf (λ d. Call (ParametersOf (d ∷ [])) f) (a ++ r) d r (parameter_complete dd r h)
parameters_complete f (g.Parameters.more x {a = a} {c = c} {ps = ds} {p = d} dd ex dd') r h =
    ap (walk runs (Call ParameterOf (λ d. Call (ParametersOf (d ∷ [])) f))) (append_assoc a (x ∷ c) r)
    ∙ parameters_complete f dd (x ∷ (c ++ r)) (comma x (c ++ r) ex)
    ∙ ap (λ o. and_then o (λ v q. walk runs (f v) q)) (parameters_turn ds d x c r ex (parameter_complete dd' r h))

parameters_end' : (ds : List Parameter) (r : List Symbol) → taken k.Comma (head r) ≡ None → runs (ParametersOf ds) r ≡ (Some ds, r)
parameters_end' ds r h = runs_walk (ParametersOf ds) r ∙ try_no k.Comma (parameters_more ds) (Ret ds) r h

parameter_begins : {a : List Symbol} {p : Parameter} → g.ParameterReads a p → (r : List Symbol) → begins_type (head (a ++ r)) ≡ true
parameter_begins (g.ParameterReads.bare {a = a} {c = c} dt dn) r = ap (λ z. begins_type (head z)) (append_assoc a c r) ∙ base_begins dt (c ++ r)
parameter_begins (g.ParameterReads.named x {a = a} {c = c} dt dn ex) r = ap (λ z. begins_type (head z)) (append_assoc a (c ++ x ∷ []) r) ∙ base_begins dt ((c ++ x ∷ []) ++ r)

parameters_begin : {a : List Symbol} {ps : List Parameter} → g.Parameters a ps → (r : List Symbol) → begins_type (head (a ++ r)) ≡ true
parameters_begin (g.Parameters.one d) r = parameter_begins d r
parameters_begin (g.Parameters.more x {a = a} {c = c} d ex d') r = ap (λ z. begins_type (head z)) (append_assoc a (x ∷ c) r) ∙ parameters_begin d ((x ∷ c) ++ r)

parameter_list_complete : {a : List Symbol} {ps : List Parameter} → g.ParametersClosed a ps → (r : List Symbol) → runs ParameterList (a ++ r) ≡ (Some ps, r)
parameter_list_complete (g.ParametersClosed.empty z ez) r = runs_walk ParameterList (z ∷ r) ∙ try_take k.RParen (λ y. Ret []) parameters_given z r ez
parameter_list_complete (g.ParametersClosed.closed z {a = a} {ps = ps} d ez) r =
    ap (runs ParameterList) (append_assoc a (z ∷ []) r)
    ∙ runs_walk ParameterList (a ++ z ∷ r)
    ∙ try_no k.RParen (λ y. Ret []) parameters_given (a ++ z ∷ r) (type_not k.RParen (a ++ z ∷ r) refl (parameters_begin d (z ∷ r)))
    ∙ parameters_complete parameters_end d (z ∷ r) (paren z r ez)
    ∙ call_ok (ParametersOf ps) parameters_end (z ∷ r) ps (z ∷ r) (parameters_end' ps (z ∷ r) (other k.Comma k.RParen z ez refl))
    ∙ expect_take k.RParen (Ret (proper ps)) z r ez

-- Locals.

local_complete : {a : List Symbol} {d : LocalItem} → g.LocalReads a d → (r : List Symbol) → Stop r → runs LocalOf (a ++ r) ≡ (Some d, r)
local_complete (g.LocalReads.bare {a = a} {d = d} dd) r h =
    runs_walk LocalOf (a ++ r)
    ∙ call_ok FieldOf local_init (a ++ r) d r (field_complete dd r (stop_not k.LBracket h refl refl refl refl))
    ∙ try_no k.Assign (λ x. Call (ChainOf level.Or) (λ v. Ret (local_value d x v))) (Ret (record { declarator = d; value = None })) r (stop_not k.Assign h refl refl refl refl)
local_complete (g.LocalReads.initialised x {a = a} {c = c} {d = d} {v = v} dd ex dv) r h =
    ap (runs LocalOf) (append_assoc a (x ∷ c) r)
    ∙ runs_walk LocalOf (a ++ x ∷ (c ++ r))
    ∙ call_ok FieldOf local_init (a ++ x ∷ (c ++ r)) d (x ∷ (c ++ r)) (field_complete dd (x ∷ (c ++ r)) (other k.LBracket k.Assign x ex refl))
    ∙ try_take k.Assign (λ x. Call (ChainOf level.Or) (λ v. Ret (local_value d x v))) (Ret (record { declarator = d; value = None })) x (c ++ r) ex
    ∙ call_ok (ChainOf level.Or) (λ v. Ret (local_value d x v)) (c ++ r) v r (complete c v dv r (stop_binds h))

local_items_turn : (found : List LocalItem) (d : LocalItem) (x : Symbol) (c r : List Symbol) → x.kind ≡ k.Comma → runs LocalOf (c ++ r) ≡ (Some d, r) → runs (LocalItemsOf found) (x ∷ (c ++ r)) ≡ runs (LocalItemsOf (found ++ d ∷ [])) r
local_items_turn found d x c r ex h =
    runs_walk (LocalItemsOf found) (x ∷ (c ++ r))
    ∙ try_take k.Comma (local_items_more found) (Ret found) x (c ++ r) ex
    ∙ call_ok LocalOf (λ d. Call (LocalItemsOf (found ++ d ∷ [])) Ret) (c ++ r) d r h
    ∙ call_last (LocalItemsOf (found ++ d ∷ [])) r

local_items_complete : {B : Type 0} (f : List LocalItem → Prog B) {a : List Symbol} {ds : List LocalItem} → g.LocalItems a ds → (r : List Symbol) → Stop r
    → walk runs (Call LocalOf (λ d. Call (LocalItemsOf (d ∷ [])) f)) (a ++ r) ≡ walk runs (Call (LocalItemsOf ds) f) r
local_items_complete f (g.LocalItems.one {a = a} {d = d} dd) r h = call_ok LocalOf (λ d. Call (LocalItemsOf (d ∷ [])) f) (a ++ r) d r (local_complete dd r h)
local_items_complete f (g.LocalItems.more x {a = a} {c = c} {ds = ds} {d = d} dd ex dd') r h =
    ap (walk runs (Call LocalOf (λ d. Call (LocalItemsOf (d ∷ [])) f))) (append_assoc a (x ∷ c) r)
    ∙ local_items_complete f dd (x ∷ (c ++ r)) (comma x (c ++ r) ex)
    ∙ ap (λ o. and_then o (λ v q. walk runs (f v) q)) (local_items_turn ds d x c r ex (local_complete dd' r h))

local_items_end : (ds : List LocalItem) (r : List Symbol) → taken k.Comma (head r) ≡ None → runs (LocalItemsOf ds) r ≡ (Some ds, r)
local_items_end ds r h = runs_walk (LocalItemsOf ds) r ∙ try_no k.Comma (local_items_more ds) (Ret ds) r h

local_no_type : {a : List Symbol} {d : LocalItem} → g.LocalReads a d → (r : List Symbol) → begins_type (head (a ++ r)) ≡ false
local_no_type (g.LocalReads.bare dd) r = field_no_type dd r
local_no_type (g.LocalReads.initialised x {a = a} {c = c} dd ex dv) r = ap (λ z. begins_type (head z)) (append_assoc a (x ∷ c) r) ∙ field_no_type dd ((x ∷ c) ++ r)

local_items_no_type : {a : List Symbol} {ds : List LocalItem} → g.LocalItems a ds → (r : List Symbol) → begins_type (head (a ++ r)) ≡ false
local_items_no_type (g.LocalItems.one d) r = local_no_type d r
local_items_no_type (g.LocalItems.more x {a = a} {c = c} d ex d') r = ap (λ z. begins_type (head z)) (append_assoc a (x ∷ c) r) ∙ local_items_no_type d ((x ∷ c) ++ r)

locals_rest_complete : (found : List Locals) (b : Bool) (x : Symbol) {c d : List Symbol} {t : Base} {ds : List LocalItem} → g.BaseReads c t → g.LocalItems d ds → x.kind ≡ k.Semi → (r : List Symbol)
    → walk runs (Call BaseType (locals_from found b)) (c ++ (d ++ x ∷ r)) ≡ runs (LocalListsOf (found ++ record { is_register = b; base = t; items = ds } ∷ [])) r
locals_rest_complete found b x {c = c} {d = d} {t = t} {ds = ds} dt dd ex r =
    call_ok BaseType (locals_from found b) (c ++ (d ++ x ∷ r)) t (d ++ x ∷ r) (base_complete dt (d ++ x ∷ r) (local_items_no_type dd (x ∷ r)))
    ∙ local_items_complete (locals_end found b t) dd (x ∷ r) (semi x r ex)
    ∙ call_ok (LocalItemsOf ds) (locals_end found b t) (x ∷ r) ds (x ∷ r) (local_items_end ds (x ∷ r) (other k.Comma k.Semi x ex refl))
    ∙ expect_take k.Semi (locals_next found b t ds) x r ex
    ∙ call_last (LocalListsOf (found ++ record { is_register = b; base = t; items = ds } ∷ [])) r

locals_turn : (found : List Locals) {a : List Symbol} {l : Locals} → g.LocalsRead a l → (r : List Symbol) → runs (LocalListsOf found) (a ++ r) ≡ runs (LocalListsOf (found ++ l ∷ [])) r
locals_turn found (g.locals x {c = c} {d = d} g.RegisterReads.no dt dd ex) r =
    let e1 : (c ++ (d ++ x ∷ [])) ++ r ≡ c ++ (d ++ x ∷ r) = simp append_assoc in
    ap (runs (LocalListsOf found)) e1
    ∙ runs_walk (LocalListsOf found) (c ++ (d ++ x ∷ r))
    ∙ try_no k.KwRegister (λ x. Call BaseType (locals_from found true)) (Peek (λ h. locals_at found (begins_type h))) (c ++ (d ++ x ∷ r)) (type_not k.KwRegister (c ++ (d ++ x ∷ r)) refl (base_begins dt (d ++ x ∷ r)))
    ∙ ap (λ b. walk runs (locals_at found b) (c ++ (d ++ x ∷ r))) (base_begins dt (d ++ x ∷ r))
    ∙ locals_rest_complete found false x dt dd ex r
locals_turn found (g.locals x {c = c} {d = d} (g.RegisterReads.yes y ey) dt dd ex) r =
    let e1 : (y ∷ (c ++ (d ++ x ∷ []))) ++ r ≡ y ∷ (c ++ (d ++ x ∷ r)) = simp append_assoc in
    ap (runs (LocalListsOf found)) e1
    ∙ runs_walk (LocalListsOf found) (y ∷ (c ++ (d ++ x ∷ r)))
    ∙ try_take k.KwRegister (λ x. Call BaseType (locals_from found true)) (Peek (λ h. locals_at found (begins_type h))) y (c ++ (d ++ x ∷ r)) ey
    ∙ locals_rest_complete found true x dt dd ex r

locals_complete : {a : List Symbol} {ls : List Locals} → g.LocalLists a ls → (r : List Symbol) → runs (LocalListsOf []) (a ++ r) ≡ runs (LocalListsOf ls) r
locals_complete g.LocalLists.none r = refl
locals_complete (g.LocalLists.more {a = a} {c = c} {ls = ls} d d') r = ap (runs (LocalListsOf [])) (append_assoc a c r) ∙ locals_complete d (c ++ r) ∙ locals_turn ls d' r

-- a statement or a closing brace begins no local
record NoLocal (q : List Symbol) : Type 0 where
  register : taken k.KwRegister (head q) ≡ None
  type : begins_type (head q) ≡ false

no_local_at : (kind : Kind) (x : Symbol) (q : List Symbol) → x.kind ≡ kind → same k.KwRegister kind ≡ false → is_type_word kind ≡ false → NoLocal (x ∷ q)
no_local_at kind x q h a b = record { register = other k.KwRegister kind x h a; type = ap is_type_word h ∙ b }

no_local_first : (kind : Kind) (q : List Symbol) → First kind q → same k.KwRegister kind ≡ false → is_type_word kind ≡ false → NoLocal q
no_local_first kind q f a b = subst (λ (z : List Symbol). NoLocal z) (sym f.is) (no_local_at kind f.token f.rest f.its a b)

unary_no_local : {a : List Symbol} {t : Expr} → g.Unary a t → (c r : List Symbol) → NoLocal ((a ++ c) ++ r)
unary_no_local {a = a} d c r = subst (λ (z : List Symbol). NoLocal z) (sym (append_assoc a c r))
    (record { register = no_starter k.KwRegister (a ++ (c ++ r)) refl (unary_starts d (c ++ r)); type = unary_no_type d (c ++ r) })

simple_no_local : {a : List Symbol} {t : Simple} → g.SimpleReads a t → (r : List Symbol) → NoLocal (a ++ r)
simple_no_local (g.SimpleReads.call (g.CallReads.none n x y en ex ey)) r = no_local_at k.Id n (x ∷ y ∷ r) en refl refl
simple_no_local (g.SimpleReads.call (g.CallReads.some n x y {a = a} en ex d ey)) r = no_local_at k.Id n ((x ∷ (a ++ y ∷ [])) ++ r) en refl refl
simple_no_local (g.assign x {a = a} {c = c} d ex d') r = unary_no_local d (x ∷ c) r
simple_no_local (g.assign_call x {a = a} {c = c} d ex d') r = unary_no_local d (x ∷ c) r

statement_no_local : {a : List Symbol} {t : Stmt} → g.Statement a t → (r : List Symbol) → NoLocal (a ++ r)
statement_no_local (g.empty x h) r = no_local_at k.Semi x r h refl refl
statement_no_local (g.block x {a = a} h d) r = no_local_at k.LBrace x (a ++ r) h refl refl
statement_no_local (g.simple x {a = a} d h) r = subst (λ (z : List Symbol). NoLocal z) (sym (append_assoc a (x ∷ []) r)) (simple_no_local d (x ∷ r))
statement_no_local (g.return x y {a = a} h d h') r = no_local_at k.KwReturn x ((a ++ y ∷ []) ++ r) h refl refl
statement_no_local (g.break x y h h') r = no_local_at k.KwBreak x (y ∷ r) h refl refl
statement_no_local (g.continue x y h h') r = no_local_at k.KwContinue x (y ∷ r) h refl refl
statement_no_local (g.choice {a = a} d) r = no_local_first k.KwIf (a ++ r) (arms_first d r) refl refl
statement_no_local (g.choice_else x {a = a} {c = c} d h d') r =
    subst (λ (z : List Symbol). NoLocal z) (sym (append_assoc a (x ∷ c) r)) (no_local_first k.KwIf (a ++ x ∷ (c ++ r)) (arms_first d (x ∷ (c ++ r))) refl refl)
statement_no_local (g.while x {a = a} h d) r = no_local_at k.KwWhile x (a ++ r) h refl refl
statement_no_local (g.do_while x y z w v {a = a} {c = c} h d h' h'' d' i j) r = no_local_at k.KwDo x ((a ++ y ∷ z ∷ (c ++ w ∷ v ∷ [])) ++ r) h refl refl
statement_no_local (g.for x y z w v {a = a} {c = c} {d = d} {f = f} h h' di ez dt ew dp ev db) r = no_local_at k.KwFor x (y ∷ ((a ++ z ∷ (c ++ w ∷ (d ++ v ∷ f))) ++ r)) h refl refl

statements_no_local : {a : List Symbol} {c : List Stmt} → g.Statements a c → (r : List Symbol) → NoLocal r → NoLocal (a ++ r)
statements_no_local g.Statements.none r h = h
statements_no_local (g.Statements.more {a = a} {c = c} d d') r h = subst (λ (z : List Symbol). NoLocal z) (sym (append_assoc a c r)) (statements_no_local d (c ++ r) (statement_no_local d' r))

braced_no_local : {a : List Symbol} {c : List Stmt} → g.Braced a c → (r : List Symbol) → NoLocal (a ++ r)
braced_no_local (g.Braced.closed y {a = a} d ey) r = subst (λ (z : List Symbol). NoLocal z) (sym (append_assoc a (y ∷ []) r)) (statements_no_local d (y ∷ r) (no_local_at k.RBrace y r ey refl refl))

locals_stop : (ls : List Locals) (r : List Symbol) → NoLocal r → runs (LocalListsOf ls) r ≡ (Some ls, r)
locals_stop ls r h =
    runs_walk (LocalListsOf ls) r
    ∙ try_no k.KwRegister (λ x. Call BaseType (locals_from ls true)) (Peek (λ h. locals_at ls (begins_type h))) r h.register
    ∙ ap (λ b. walk runs (locals_at ls b) r) h.type

-- Declarations at file scope.

objects_no_type : {a : List Symbol} {ds : List ObjectItem} → g.Objects a ds → (r : List Symbol) → Stop r → begins_type (head (a ++ r)) ≡ false
objects_no_type (g.Objects.one d) r h = object_no_type d r h
objects_no_type (g.Objects.more x {a = a} {c = c} d ex d') r h = ap (λ z. begins_type (head z)) (append_assoc a (x ∷ c) r) ∙ objects_no_type d (x ∷ (c ++ r)) (comma x (c ++ r) ex)

-- the first object of a list stands behind stars and its name
declared_objects : (l : Linkage) (t : Base) {a : List Symbol} {ds : List ObjectItem} → g.Objects a ds → (f : List ObjectItem → Prog External) → (r : List Symbol) → Stop r
    → walk runs (Call (StarsOf 0) (λ n. try k.Id (λ x. try k.LParen (λ y. Call ParameterList (head_closed l t n x)) (Call (ObjectTail n x) (λ d. Call (ObjectsOf (d ∷ [])) f))) Fail)) (a ++ r)
    ≡ walk runs (Call (ObjectsOf ds) f) r
declared_objects l t (g.Objects.one {a = a} {d = d} dd) f r h =
    let s = object_shape dd r h in
    ap (walk runs (Call (StarsOf 0) (λ n. try k.Id (λ x. try k.LParen (λ y. Call ParameterList (head_closed l t n x)) (Call (ObjectTail n x) (λ d. Call (ObjectsOf (d ∷ [])) f))) Fail))) s.is
    ∙ call_ok (StarsOf 0) (λ n. try k.Id (λ x. try k.LParen (λ y. Call ParameterList (head_closed l t n x)) (Call (ObjectTail n x) (λ d. Call (ObjectsOf (d ∷ [])) f))) Fail) (s.front ++ s.x ∷ s.rest) s.n (s.x ∷ s.rest)
    (stars_from s.stars (s.x ∷ s.rest) (other k.Star k.Id s.x s.named refl))
    ∙ try_take k.Id (λ x. try k.LParen (λ y. Call ParameterList (head_closed l t s.n x)) (Call (ObjectTail s.n x) (λ d. Call (ObjectsOf (d ∷ [])) f))) Fail s.x s.rest s.named
    ∙ try_no k.LParen (λ y. Call ParameterList (head_closed l t s.n s.x)) (Call (ObjectTail s.n s.x) (λ d. Call (ObjectsOf (d ∷ [])) f)) s.rest s.no_call
    ∙ call_ok (ObjectTail s.n s.x) (λ d. Call (ObjectsOf (d ∷ [])) f) s.rest d r s.reads
declared_objects l t (g.Objects.more x {a = a} {c = c} {ds = ds} {d = d} dd ex dd') f r h =
    ap (walk runs (Call (StarsOf 0) (λ n. try k.Id (λ x. try k.LParen (λ y. Call ParameterList (head_closed l t n x)) (Call (ObjectTail n x) (λ d. Call (ObjectsOf (d ∷ [])) f))) Fail))) (append_assoc a (x ∷ c) r)
    ∙ declared_objects l t dd f (x ∷ (c ++ r)) (comma x (c ++ r) ex)
    ∙ ap (λ o. and_then o (λ v q. walk runs (f v) q)) (objects_turn ds d x c r ex (object_complete dd' r h))

objects_declared : (l : Linkage) (t : Base) (x : Symbol) {d : List Symbol} {ds : List ObjectItem} → g.Objects d ds → x.kind ≡ k.Semi → (r : List Symbol)
    → runs (DeclaredOf l t) (d ++ x ∷ r) ≡ (Some (top.Objects l t ds), r)
objects_declared l t x {d = d} {ds = ds} dd ex r =
    runs_walk (DeclaredOf l t) (d ++ x ∷ r)
    ∙ declared_objects l t dd (objects_end l t) (x ∷ r) (semi x r ex)
    ∙ call_ok (ObjectsOf ds) (objects_end l t) (x ∷ r) ds (x ∷ r) (objects_end' ds (x ∷ r) (other k.Comma k.Semi x ex refl))
    ∙ expect_take k.Semi (Ret (top.Objects l t ds)) x r ex

head_declared : (l : Linkage) (t : Base) (n : ℕ) (x y : Symbol) {d f : List Symbol} {ps : List Parameter} → g.Stars d n → x.kind ≡ k.Id → y.kind ≡ k.LParen → g.ParametersClosed f ps → (r : List Symbol)
    → runs (DeclaredOf l t) (d ++ x ∷ y ∷ (f ++ r)) ≡ walk runs (head_closed l t n x ps) r
head_declared l t n x y {d = d} {f = f} {ps = ps} dn ex ey dp r =
    runs_walk (DeclaredOf l t) (d ++ x ∷ y ∷ (f ++ r))
    ∙ call_ok (StarsOf 0) (declared_from l t) (d ++ x ∷ y ∷ (f ++ r)) n (x ∷ y ∷ (f ++ r)) (stars_from dn (x ∷ y ∷ (f ++ r)) (other k.Star k.Id x ex refl))
    ∙ try_take k.Id (declared_named l t n) Fail x (y ∷ (f ++ r)) ex
    ∙ try_take k.LParen (λ y. Call ParameterList (head_closed l t n x)) (Call (ObjectTail n x) (objects_first l t)) y (f ++ r) ey
    ∙ call_ok ParameterList (head_closed l t n x) (f ++ r) ps r (parameter_list_complete dp r)

-- behind a head
prototype_at : (h : Head) (b : Bool) (x : Symbol) (r : List Symbol) → x.kind ≡ k.Semi → walk runs (head_at h b) (x ∷ r) ≡ (Some (top.Prototype h), r)
prototype_at h true x r ex = try_other k.LBrace (function_locals h) (head_end h) k.Semi x r ex refl ∙ expect_take k.Semi (Ret (top.Prototype h)) x r ex
prototype_at h false x r ex = expect_take k.Semi (Ret (top.Prototype h)) x r ex

function_at : (h : Head) (x : Symbol) {c d : List Symbol} {ls : List Locals} {ss : List Stmt} → all_named h.parameters ≡ true → x.kind ≡ k.LBrace → g.LocalLists c ls → g.Braced d ss → (r : List Symbol)
    → walk runs (head_at h (all_named h.parameters)) (x ∷ (c ++ (d ++ r))) ≡ (Some (top.Function h ls ss), r)
function_at h x {c = c} {d = d} {ls = ls} {ss = ss} an ex dl ds r =
    ap (λ b. walk runs (head_at h b) (x ∷ (c ++ (d ++ r)))) an
    ∙ try_take k.LBrace (function_locals h) (head_end h) x (c ++ (d ++ r)) ex
    ∙ call_ok (LocalListsOf []) (function_body h) (c ++ (d ++ r)) ls (d ++ r) (locals_complete dl (d ++ r) ∙ locals_stop ls (d ++ r) (braced_no_local ds r))
    ∙ call_ok (StatementsOf []) (λ ss. Ret (top.Function h ls ss)) (d ++ r) ss r (braced_complete ds r)

-- what is read behind specifiers is read as an external
specified_complete : (l : Linkage) {c : List Symbol} {t : Base} → g.BaseReads c t → (q : List Symbol) → begins_type (head q) ≡ false → walk runs (specified l) (c ++ q) ≡ runs (DeclaredOf l t) q
specified_complete l {c = c} {t = t} dt q n = call_ok BaseType (λ t. Call (DeclaredOf l t) Ret) (c ++ q) t q (base_complete dt q n) ∙ call_last (DeclaredOf l t) q

record NotBrace (q : List Symbol) : Type 0 where
  type : begins_type (head q) ≡ false
  brace : taken k.LBrace (head q) ≡ None

plain_other : {c : List Symbol} {t : Base} → g.BaseReads c t → (q : List Symbol) → NotBrace q → taken k.KwStruct (head (c ++ q)) ≡ None → runs ExternalOf (c ++ q) ≡ runs (DeclaredOf linkage.Plain t) q
plain_other {c = c} dt q n h =
    runs_walk ExternalOf (c ++ q)
    ∙ try_no k.KwStruct struct_start external_static (c ++ q) h
    ∙ try_no k.KwStatic (λ x. specified linkage.Static) external_extern (c ++ q) (type_not k.KwStatic (c ++ q) refl (base_begins dt q))
    ∙ try_no k.KwExtern (λ x. specified linkage.Extern) (specified linkage.Plain) (c ++ q) (type_not k.KwExtern (c ++ q) refl (base_begins dt q))
    ∙ specified_complete linkage.Plain dt q n.type

plain_complete : {c : List Symbol} {t : Base} → g.BaseReads c t → (q : List Symbol) → NotBrace q → runs ExternalOf (c ++ q) ≡ runs (DeclaredOf linkage.Plain t) q
plain_complete (g.BaseReads.constant x h d) q n = plain_other (g.BaseReads.constant x h d) q n (other k.KwStruct k.KwConst x h refl)
plain_complete (g.BaseReads.plain (g.int x h)) q n = plain_other (g.BaseReads.plain (g.int x h)) q n (other k.KwStruct k.KwInt x h refl)
plain_complete (g.BaseReads.plain (g.char x h)) q n = plain_other (g.BaseReads.plain (g.char x h)) q n (other k.KwStruct k.KwChar x h refl)
plain_complete (g.BaseReads.plain (g.void x h)) q n = plain_other (g.BaseReads.plain (g.void x h)) q n (other k.KwStruct k.KwVoid x h refl)
plain_complete (g.BaseReads.plain (g.signed x h)) q n = plain_other (g.BaseReads.plain (g.signed x h)) q n (other k.KwStruct k.KwSigned x h refl)
plain_complete (g.BaseReads.plain (g.signed_int x y h h')) q n = plain_other (g.BaseReads.plain (g.signed_int x y h h')) q n (other k.KwStruct k.KwSigned x h refl)
plain_complete (g.BaseReads.plain (g.signed_char x y h h')) q n = plain_other (g.BaseReads.plain (g.signed_char x y h h')) q n (other k.KwStruct k.KwSigned x h refl)
plain_complete (g.BaseReads.plain (g.unsigned x h)) q n = plain_other (g.BaseReads.plain (g.unsigned x h)) q n (other k.KwStruct k.KwUnsigned x h refl)
plain_complete (g.BaseReads.plain (g.unsigned_int x y h h')) q n = plain_other (g.BaseReads.plain (g.unsigned_int x y h h')) q n (other k.KwStruct k.KwUnsigned x h refl)
plain_complete (g.BaseReads.plain (g.unsigned_char x y h h')) q n = plain_other (g.BaseReads.plain (g.unsigned_char x y h h')) q n (other k.KwStruct k.KwUnsigned x h refl)
plain_complete (g.BaseReads.plain (g.BaseWords.struct x y h h')) q n =
    runs_walk ExternalOf (x ∷ y ∷ q)
    ∙ try_take k.KwStruct struct_start external_static x (y ∷ q) h
    ∙ try_take k.Id struct_named Fail y q h'
    ∙ try_no k.LBrace (struct_first y) (Call (DeclaredOf linkage.Plain (struct_base y)) Ret) q n.brace
    ∙ call_last (DeclaredOf linkage.Plain (struct_base y)) q

specifiers_complete : {a : List Symbol} {l : Linkage} {t : Base} → g.Specifiers a l t → (q : List Symbol) → NotBrace q → runs ExternalOf (a ++ q) ≡ runs (DeclaredOf l t) q
specifiers_complete (g.specified {c = c} g.LinkageReads.plain dt) q n = plain_complete dt q n
specifiers_complete (g.specified {c = c} (g.LinkageReads.internal x ex) dt) q n =
    runs_walk ExternalOf (x ∷ (c ++ q))
    ∙ try_other k.KwStruct struct_start external_static k.KwStatic x (c ++ q) ex refl
    ∙ try_take k.KwStatic (λ x. specified linkage.Static) external_extern x (c ++ q) ex
    ∙ specified_complete linkage.Static dt q n.type
specifiers_complete (g.specified {c = c} (g.LinkageReads.external x ex) dt) q n =
    runs_walk ExternalOf (x ∷ (c ++ q))
    ∙ try_other k.KwStruct struct_start external_static k.KwExtern x (c ++ q) ex refl
    ∙ try_other k.KwStatic (λ x. specified linkage.Static) external_extern k.KwExtern x (c ++ q) ex refl
    ∙ try_take k.KwExtern (λ x. specified linkage.Extern) (specified linkage.Plain) x (c ++ q) ex
    ∙ specified_complete linkage.Extern dt q n.type

stars_not_brace : {a : List Symbol} {n : ℕ} → g.Stars a n → (x : Symbol) (q : List Symbol) → x.kind ≡ k.Id → NotBrace (a ++ x ∷ q)
stars_not_brace g.Stars.none x q h = record { type = ap is_type_word h; brace = other k.LBrace k.Id x h refl }
stars_not_brace (g.Stars.one y ey d) x q h = record { type = ap is_type_word ey; brace = other k.LBrace k.Star y ey refl }

objects_not_brace : {a : List Symbol} {ds : List ObjectItem} → g.Objects a ds → (r : List Symbol) → Stop r → NotBrace (a ++ r)
objects_not_brace (g.Objects.one d) r h = let s = object_shape d r h in subst (λ (z : List Symbol). NotBrace z) (sym s.is) (stars_not_brace s.stars s.x s.rest s.named)
objects_not_brace (g.Objects.more x {a = a} {c = c} d ex d') r h = subst (λ (z : List Symbol). NotBrace z) (sym (append_assoc a (x ∷ c) r)) (objects_not_brace d (x ∷ (c ++ r)) (comma x (c ++ r) ex))

struct_closed : (n y w : Symbol) {a : List Symbol} {ms : List Members} → g.MembersClosed a ms → w.kind ≡ k.Semi → (r : List Symbol) → walk runs (struct_first n y) (a ++ w ∷ r) ≡ (Some (top.Struct (name_at n) ms), r)
struct_closed n y w (g.MembersClosed.closed z {a = a} {ms = ms} d ez) ew r =
    ap (walk runs (struct_first n y)) (append_assoc a (z ∷ []) (w ∷ r))
    ∙ members_complete (struct_done n) d (z ∷ w ∷ r)
    ∙ call_ok (MembersOf ms) (struct_done n) (z ∷ w ∷ r) ms (w ∷ r) (runs_walk (MembersOf ms) (z ∷ w ∷ r) ∙ try_take k.RBrace (λ y. Ret ms) (members_more ms) z (w ∷ r) ez)
    ∙ expect_take k.Semi (Ret (top.Struct (name_at n) ms)) w r ew

head_complete : {a : List Symbol} {h : Head} → g.HeadReads a h → (q : List Symbol) → runs ExternalOf (a ++ q) ≡ walk runs (head_at h (all_named h.parameters)) q
head_complete (g.head x y {a = a} {d = d} {f = f} {l = l} {t = t} {n = n} {ps = ps} dl dn ex ey dp) q =
    let e1 : (a ++ (d ++ x ∷ y ∷ f)) ++ q ≡ a ++ (d ++ x ∷ y ∷ (f ++ q)) = simp append_assoc in
    ap (runs ExternalOf) e1
    ∙ specifiers_complete dl (d ++ x ∷ y ∷ (f ++ q)) (stars_not_brace dn x (y ∷ (f ++ q)) ex)
    ∙ head_declared l t n x y dn ex ey dp q

pub external_complete : {a : List Symbol} {t : External} → g.ExternalReads a t → (r : List Symbol) → runs ExternalOf (a ++ r) ≡ (Some t, r)
external_complete (g.ExternalReads.struct x n y w {a = a} ex en ey d ew) r =
    ap (λ q. runs ExternalOf (x ∷ n ∷ y ∷ q)) (append_assoc a (w ∷ []) r)
    ∙ runs_walk ExternalOf (x ∷ n ∷ y ∷ (a ++ w ∷ r))
    ∙ try_take k.KwStruct struct_start external_static x (n ∷ y ∷ (a ++ w ∷ r)) ex
    ∙ try_take k.Id struct_named Fail n (y ∷ (a ++ w ∷ r)) en
    ∙ try_take k.LBrace (struct_first n) (Call (DeclaredOf linkage.Plain (struct_base n)) Ret) y (a ++ w ∷ r) ey
    ∙ struct_closed n y w d ew r
external_complete (g.objects x {a = a} {d = d} {l = l} {t = t} dl dd ex) r =
    let e1 : (a ++ (d ++ x ∷ [])) ++ r ≡ a ++ (d ++ x ∷ r) = simp append_assoc in
    ap (runs ExternalOf) e1
    ∙ specifiers_complete dl (d ++ x ∷ r) (objects_not_brace dd (x ∷ r) (semi x r ex))
    ∙ objects_declared l t x dd ex r
external_complete (g.prototype x {a = a} {h = h} dh ex) r =
    ap (runs ExternalOf) (append_assoc a (x ∷ []) r) ∙ head_complete dh (x ∷ r) ∙ prototype_at h (all_named h.parameters) x r ex
external_complete (g.function x {a = a} {c = c} {d = d} {h = h} dh an ex dl ds) r =
    let e1 : (a ++ x ∷ (c ++ d)) ++ r ≡ a ++ x ∷ (c ++ (d ++ r)) = simp append_assoc in
    ap (runs ExternalOf) e1 ∙ head_complete dh (x ∷ (c ++ (d ++ r))) ∙ function_at h x an ex dl ds r

-- The whole unit.

unit_turn : (found : List External) (c : List Symbol) (t : External) (r : List Symbol) → 1 ≤ length c → runs ExternalOf (c ++ r) ≡ (Some t, r) → runs (UnitOf found) (c ++ r) ≡ runs (UnitOf (found ++ t ∷ [])) r
unit_turn found [] t r l h = absurd (omega arith)
unit_turn found (x ∷ c) t r l h =
    runs_walk (UnitOf found) (x ∷ (c ++ r))
    ∙ call_ok ExternalOf (λ t. Call (UnitOf (found ++ t ∷ [])) Ret) (x ∷ (c ++ r)) t r h
    ∙ call_last (UnitOf (found ++ t ∷ [])) r

unit_complete : {a : List Symbol} {ts : List External} → g.Reads a ts → (r : List Symbol) → runs (UnitOf []) (a ++ r) ≡ runs (UnitOf ts) r
unit_complete g.Reads.none r = refl
unit_complete (g.Reads.more {a = a} {c = c} {ts = ts} {t = t} d d') r =
    ap (runs (UnitOf [])) (append_assoc a c r) ∙ unit_complete d (c ++ r) ∙ unit_turn ts c t r (external_some d') (external_complete d' r)

pub whole_unit : (tokens : List Symbol) (ts : List External) → g.Reads tokens ts → runs (UnitOf []) tokens ≡ (Some ts, [])
whole_unit tokens ts d = ap (runs (UnitOf [])) (sym (append-nil tokens)) ∙ unit_complete d [] ∙ runs_walk (UnitOf ts) []

-- Tokens are one unit at most.
pub one_unit : (tokens : List Symbol) (ts us : List External) → g.Reads tokens ts → g.Reads tokens us → us ≡ ts
one_unit tokens ts us d d' = same_some (value_of_pair (sym (whole_unit tokens us d') ∙ whole_unit tokens ts d))
