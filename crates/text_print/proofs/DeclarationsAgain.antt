-- The canonical tokens of a declaration read as the same declaration.
use Rattle.std.proofs.Common.{◌≡◌, ℕ, ◌+◌, List, [], ◌∷◌, ◌++◌, length, Option, Some, None, is_some, Bool, true, false, not, ◌&&◌, eqb, if◌then◌else◌, refl, sym, ap, ◌∙◌, subst, append_assoc}
use Rattle.std.proofs.lemmas.List.{append-nil}
use Rattle.std.specs.List.{flat_map}
use Rattle.text_grammar.specs.declared.kind.Kind.TheVariants as k
use Rattle.text_grammar.specs.declared.tree.NameAt.{NameAt}
use Rattle.text_grammar.specs.declared.tree.Number.{Number}
use Rattle.text_grammar.specs.declared.tree.Expr.{Expr}
use Rattle.text_grammar.specs.declared.tree.Initialiser.{Initialiser}
use Rattle.text_grammar.specs.declared.tree.Initialiser.TheVariants as i
use Rattle.text_grammar.specs.declared.tree.Initialiser.TheOpen.{Initialiser-F}
use Rattle.text_grammar.specs.declared.tree.Initialiser.TheViews.{roll-Initialiser}
use Rattle.text_grammar.specs.declared.tree.Initialiser.TheFolds.{map-Initialiser, fold-roll-Initialiser}
use Rattle.text_grammar.specs.declared.tree.Declarator.{Declarator}
use Rattle.text_grammar.specs.declared.tree.ObjectItem.{ObjectItem}
use Rattle.text_grammar.specs.declared.tree.Members.{Members}
use Rattle.text_grammar.specs.declared.tree.Parameter.{Parameter}
use Rattle.text_grammar.specs.declared.tree.LocalItem.{LocalItem}
use Rattle.text_grammar.specs.declared.tree.Locals.{Locals}
use Rattle.text_grammar.specs.declared.tree.Linkage.{Linkage}
use Rattle.text_grammar.specs.declared.tree.Linkage.TheVariants as linkage
use Rattle.text_grammar.specs.declared.tree.Head.{Head}
use Rattle.text_grammar.specs.declared.tree.External.{External}
use Rattle.text_grammar.specs.declared.tree.External.TheVariants as top
use Rattle.text_grammar.specs.Lexical.{string_value}
use Rattle.text_grammar.specs.Grammar.{Symbol, is_void_word, is_void_alone, proper, all_named}
use Rattle.text_grammar.specs.Grammar as g
use Rattle.text_print.specs.Spelling.{fixed, name, number, string}
use Rattle.text_print.specs.Canonical.{separated, braced, base_tokens, star_tokens, keyword_if, expr_tokens, stmt_tokens, initialiser_step, initialiser_tokens, length_tokens, declarator_tokens, object_tokens, member_tokens, parameter_tokens, parameters_tokens, linkage_tokens, head_tokens, local_tokens, locals_tokens, external_tokens, tokens_of}
use Rattle.text_print.specs.SameTree.{SameName, SameNumber, SameBase, SameMaybe, SameInitialiser, SameInitialisers, SameAll, SameDeclarator, SameObject, SameMembers, SameParameter, SameLocal, SameLocals, SameHead, SameExternal, SameTree}
use Rattle.text_print.specs.SameTree as same
use Rattle.text_print.specs.Placed.{placed}
use Rattle.text_print.proofs.Rows.{separated_map}
use Rattle.text_print.proofs.Again.{IsReadable, Again, Anywhere, Each, behind, placed_append, split, base_again, stars_again}
use Rattle.text_print.proofs.ExpressionsAgain.{chain_again}
use Rattle.text_print.proofs.StatementsAgain.{flat_more, separated_one, separated_more, HasFirst, first, has_first, braced_again}

-- Rows of any kind: R reads one item, and L a row of them.

one_again : {T : Type 0} (R : List Symbol → T → Type 0) (L : List Symbol → List T → Type 0) (S : T → T → Type 0) (f : T → List Symbol) (t : T)
    → ((a : List Symbol) (u : T) → R a u → L a (u ∷ [])) → Anywhere R S (f t) t → Anywhere L (SameAll S) (separated k.Comma f (t ∷ [])) (t ∷ [])
one_again R L S f t one h n =
    let x = h n in
    record {
      tree = x.tree ∷ [];
      same = same.SameAll.more {ts = []} {us = []} same.SameAll.none x.same;
      reads = subst (λ (q : List Symbol). L (placed n q) (x.tree ∷ [])) (sym (separated_one k.Comma f t)) (one _ x.tree x.reads);
    }

further_again : {T : Type 0} (R : List Symbol → T → Type 0) (L : List Symbol → List T → Type 0) (S : T → T → Type 0) (f : T → List Symbol) (ts : List T) (t : T)
    → ((x : Symbol) (a c : List Symbol) (us : List T) (u : T) → L a us → x.kind ≡ k.Comma → R c u → L (a ++ x ∷ c) (us ++ u ∷ []))
    → HasFirst ts → Anywhere L (SameAll S) (separated k.Comma f ts) ts → Anywhere R S (f t) t → Anywhere L (SameAll S) (separated k.Comma f (ts ++ t ∷ [])) (ts ++ t ∷ [])
further_again R L S f ts t more w h h' n =
    let m = behind n (separated k.Comma f ts) in
    let x = h n in
    let y = h' (m + length (fixed k.Comma).text + 1) in
    record {
      tree = x.tree ++ y.tree ∷ [];
      same = same.SameAll.more x.same y.same;
      reads = subst (λ (q : List Symbol). L q (x.tree ++ y.tree ∷ []))
          (sym (ap (placed n) (separated_more k.Comma f ts t w) ∙ placed_append n (separated k.Comma f ts) (fixed k.Comma ∷ f t)))
          (more (record { kind = k.Comma; at = m; text = (fixed k.Comma).text }) _ _ x.tree y.tree x.reads refl y.reads);
    }

-- without commas
next_again : {T : Type 0} (R : List Symbol → T → Type 0) (L : List Symbol → List T → Type 0) (S : T → T → Type 0) (f : T → List Symbol) (ts : List T) (t : T)
    → ((a c : List Symbol) (us : List T) (u : T) → L a us → R c u → L (a ++ c) (us ++ u ∷ []))
    → Anywhere L (SameAll S) (flat_map f ts) ts → Anywhere R S (f t) t → Anywhere L (SameAll S) (flat_map f (ts ++ t ∷ [])) (ts ++ t ∷ [])
next_again R L S f ts t more h h' n =
    let x = h n in
    let y = h' (behind n (flat_map f ts)) in
    record {
      tree = x.tree ++ y.tree ∷ [];
      same = same.SameAll.more x.same y.same;
      reads = subst (λ (q : List Symbol). L q (x.tree ++ y.tree ∷ [])) (sym (ap (placed n) (flat_more f ts t) ∙ placed_append n (flat_map f ts) (f t))) (more _ _ x.tree y.tree x.reads y.reads);
    }

-- Declarators.

lengths_again : {a : List Symbol} {ns : List Number} → g.Lengths a ns → Each IsReadable a → Anywhere g.Lengths (SameAll SameNumber) (flat_map length_tokens ns) ns
lengths_again g.Lengths.none r n = record { tree = []; same = same.SameAll.none; reads = g.Lengths.none }
lengths_again (g.Lengths.more x v y {a = a} {ns = ns} d h h' h'') r n =
    let z = split IsReadable a (x ∷ v ∷ y ∷ []) r in
    let f = lengths_again d z.0 n in
    let old = g.number_at v in
    let m = behind n (flat_map length_tokens ns) in
    let new : Symbol = record { kind = k.Num; at = m + length (fixed k.LBracket).text + 1; text = (number old.value old.is_unsigned).text } in
    record {
      tree = f.tree ++ g.number_at new ∷ [];
      same = same.SameAll.more f.same (record { value = sym (z.1.1.0.number h'); sign = sym (z.1.1.0.sign h') });
      reads = subst (λ (q : List Symbol). g.Lengths q (f.tree ++ g.number_at new ∷ [])) (sym (ap (placed n) (flat_more length_tokens ns old) ∙ placed_append n (flat_map length_tokens ns) (length_tokens old))) (g.Lengths.more _ new _ f.reads refl refl refl);
    }

field_again : {a : List Symbol} {d : Declarator} → g.FieldReads a d → Each IsReadable a → Anywhere g.FieldReads SameDeclarator (declarator_tokens d) d
field_again (g.FieldReads.field x {a = a} {c = c} {n = count} {ns = ns} d h d') r n =
    let m = behind n (star_tokens count) in
    let f = lengths_again d' (split IsReadable a (x ∷ c) r).1.1 (m + length x.text + 1) in
    let tree : Declarator = record { stars = count; name = record { at = m; bytes = x.text }; is_open = false; lengths = f.tree } in
    record {
      tree = tree;
      same = record { stars = refl; name = refl; is_open = refl; lengths = f.same };
      reads = subst (λ (q : List Symbol). g.FieldReads q tree) (sym (placed_append n (star_tokens count) (name x.text ∷ flat_map length_tokens ns))) (g.FieldReads.field _ (stars_again count n) refl f.reads);
    }

declarator_again : {a : List Symbol} {d : Declarator} → g.DeclaratorReads a d → Each IsReadable a → Anywhere g.DeclaratorReads SameDeclarator (declarator_tokens d) d
declarator_again (g.DeclaratorReads.known d) r n = let x = field_again d r n in record { tree = x.tree; same = x.same; reads = g.DeclaratorReads.known x.reads }
declarator_again (g.DeclaratorReads.open_array x y z {a = a} {c = c} {n = count} {ns = ns} d h h' h'' d') r n =
    let m = behind n (star_tokens count) in
    let f = lengths_again d' (split IsReadable a (x ∷ y ∷ z ∷ c) r).1.1.1.1 (m + length x.text + 1 + length (fixed k.LBracket).text + 1 + length (fixed k.RBracket).text + 1) in
    let tree : Declarator = record { stars = count; name = record { at = m; bytes = x.text }; is_open = true; lengths = f.tree } in
    record {
      tree = tree;
      same = record { stars = refl; name = refl; is_open = refl; lengths = f.same };
      reads = subst (λ (q : List Symbol). g.DeclaratorReads q tree) (sym (placed_append n (star_tokens count) (name x.text ∷ fixed k.LBracket ∷ fixed k.RBracket ∷ flat_map length_tokens ns)))
          (g.DeclaratorReads.open_array _ _ _ (stars_again count n) refl refl refl f.reads);
    }

-- Initialisers.

rolled : (x : Initialiser-F Initialiser) → initialiser_tokens (roll-Initialiser x) ≡ initialiser_step (map-Initialiser Initialiser (List Symbol) initialiser_tokens x)
rolled x = fold-roll-Initialiser (List Symbol) initialiser_step x

pub tokens_expr : (t : Expr) → initialiser_tokens (i.Expr t) ≡ expr_tokens t
tokens_expr t = ap initialiser_tokens (sym (i.rolls-Expr t)) ∙ rolled (Initialiser-F.Expr t)

pub tokens_string : (at : ℕ) (bytes : List ℕ) → initialiser_tokens (i.String at bytes) ≡ string bytes ∷ []
tokens_string at bytes = ap initialiser_tokens (sym (i.rolls-String at bytes)) ∙ rolled (Initialiser-F.String at bytes)

pub tokens_list : (at : ℕ) (ts : List Initialiser) → initialiser_tokens (i.List at ts) ≡ braced (separated k.Comma initialiser_tokens ts)
tokens_list at ts = ap initialiser_tokens (sym (i.rolls-List at ts)) ∙ rolled (Initialiser-F.List at ts) ∙ ap braced (separated_map k.Comma initialiser_tokens ts)

retold : (t : Initialiser) (ts : List Symbol) (n : ℕ) → initialiser_tokens t ≡ ts → Again g.InitialiserReads SameInitialiser (placed n ts) t → Again g.InitialiserReads SameInitialiser (placed n (initialiser_tokens t)) t
retold t ts n is r = subst (λ (q : List Symbol). Again g.InitialiserReads SameInitialiser (placed n q) t) (sym is) r

pub items_first : {a : List Symbol} {ts : List Initialiser} → g.InitialiserItems a ts → HasFirst ts
items_first (g.InitialiserItems.one {t = t} d) = first t []
items_first (g.InitialiserItems.more x {ts = ts} {t = t} d h d') = has_first ts t

mutual
  initialiser_again : {a : List Symbol} {t : Initialiser} → g.InitialiserReads a t → Each IsReadable a → Anywhere g.InitialiserReads SameInitialiser (initialiser_tokens t) t
  initialiser_again (g.InitialiserReads.expr {t = t} d) r n =
      let x = (chain_again d r).whole n in
      retold (i.Expr t) _ n (tokens_expr t) (record { tree = i.Expr x.tree; same = same.SameInitialiser.expr x.same; reads = g.InitialiserReads.expr x.reads })
  initialiser_again (g.InitialiserReads.string x h) r n =
      let bytes = string_value x.text in
      retold (i.String x.at bytes) _ n (tokens_string x.at bytes)
      (record {
        tree = i.String n bytes;
        same = same.SameInitialiser.string x.at n bytes;
        reads = subst (λ (z : List ℕ). g.InitialiserReads (placed n (string bytes ∷ [])) (i.String n z)) (r.0.string h) (g.InitialiserReads.string _ refl);
      })
  initialiser_again (g.InitialiserReads.items x {ts = ts} h d) r n =
      let m = n + length (fixed k.LBrace).text + 1 in
      let y = closed_again d r.1 m in
      retold (i.List x.at ts) _ n (tokens_list x.at ts)
      (record {
        tree = i.List n y.tree;
        same = same.SameInitialiser.items x.at n y.same;
        reads = subst (λ (q : List Symbol). g.InitialiserReads (placed n (fixed k.LBrace ∷ []) ++ q) (i.List n y.tree)) (sym (placed_append m (separated k.Comma initialiser_tokens ts) (fixed k.RBrace ∷ [])))
            (g.InitialiserReads.items _ refl (g.ItemsClosed.closed _ y.reads refl));
      })

  closed_again : {a : List Symbol} {ts : List Initialiser} → g.ItemsClosed a ts → Each IsReadable a → Anywhere g.InitialiserItems SameInitialisers (separated k.Comma initialiser_tokens ts) ts
  closed_again (g.ItemsClosed.closed y {a = a} d h) r = items_again d (split IsReadable a (y ∷ []) r).0
  closed_again (g.ItemsClosed.comma y z {a = a} d h h') r = items_again d (split IsReadable a (y ∷ z ∷ []) r).0

  items_again : {a : List Symbol} {ts : List Initialiser} → g.InitialiserItems a ts → Each IsReadable a → Anywhere g.InitialiserItems SameInitialisers (separated k.Comma initialiser_tokens ts) ts
  items_again (g.InitialiserItems.one {t = t} d) r n =
      let x = initialiser_again d r n in
      record {
        tree = x.tree ∷ [];
        same = same.SameInitialisers.more {ts = []} {us = []} same.SameInitialisers.none x.same;
        reads = subst (λ (q : List Symbol). g.InitialiserItems (placed n q) (x.tree ∷ [])) (sym (separated_one k.Comma initialiser_tokens t)) (g.InitialiserItems.one x.reads);
      }
  items_again (g.InitialiserItems.more x {a = a} {c = c} {ts = ts} {t = t} d h d') r n =
      let z = split IsReadable a (x ∷ c) r in
      let f = items_again d z.0 n in
      let m = behind n (separated k.Comma initialiser_tokens ts) in
      let y = initialiser_again d' z.1.1 (m + length (fixed k.Comma).text + 1) in
      record {
        tree = f.tree ++ y.tree ∷ [];
        same = same.SameInitialisers.more f.same y.same;
        reads = subst (λ (q : List Symbol). g.InitialiserItems q (f.tree ++ y.tree ∷ []))
            (sym (ap (placed n) (separated_more k.Comma initialiser_tokens ts t (items_first d)) ∙ placed_append n (separated k.Comma initialiser_tokens ts) (fixed k.Comma ∷ initialiser_tokens t)))
            (g.InitialiserItems.more _ f.reads refl y.reads);
      }

-- Objects, members and locals.

object_again : {a : List Symbol} {d : ObjectItem} → g.ObjectReads a d → Each IsReadable a → Anywhere g.ObjectReads SameObject (object_tokens d) d
object_again (g.ObjectReads.bare {d = d} h) r n =
    let x = declarator_again h r n in
    let tree : ObjectItem = record { declarator = x.tree; initialised = None } in
    record {
      tree = tree;
      same = record { declarator = x.same; initialised = same.SameMaybe.none };
      reads = subst (λ (q : List Symbol). g.ObjectReads (placed n q) tree) (sym (append-nil (declarator_tokens d))) (g.ObjectReads.bare x.reads);
    }
object_again (g.ObjectReads.initialised x {a = a} {c = c} {d = d} {v = v} h e h') r n =
    let z = split IsReadable a (x ∷ c) r in
    let f = declarator_again h z.0 n in
    let m = behind n (declarator_tokens d) in
    let y = initialiser_again h' z.1.1 (m + length (fixed k.Assign).text + 1) in
    let tree : ObjectItem = record { declarator = f.tree; initialised = Some (record { at = m; value = y.tree }) } in
    record {
      tree = tree;
      same = record { declarator = f.same; initialised = same.SameMaybe.some y.same };
      reads = subst (λ (q : List Symbol). g.ObjectReads q tree) (sym (placed_append n (declarator_tokens d) (fixed k.Assign ∷ initialiser_tokens v))) (g.ObjectReads.initialised _ f.reads refl y.reads);
    }

local_again : {a : List Symbol} {d : LocalItem} → g.LocalReads a d → Each IsReadable a → Anywhere g.LocalReads SameLocal (local_tokens d) d
local_again (g.LocalReads.bare {d = d} h) r n =
    let x = field_again h r n in
    let tree : LocalItem = record { declarator = x.tree; value = None } in
    record {
      tree = tree;
      same = record { declarator = x.same; value = same.SameMaybe.none };
      reads = subst (λ (q : List Symbol). g.LocalReads (placed n q) tree) (sym (append-nil (declarator_tokens d))) (g.LocalReads.bare x.reads);
    }
local_again (g.LocalReads.initialised x {a = a} {c = c} {d = d} {v = v} h e h') r n =
    let z = split IsReadable a (x ∷ c) r in
    let f = field_again h z.0 n in
    let m = behind n (declarator_tokens d) in
    let y = (chain_again h' z.1.1).whole (m + length (fixed k.Assign).text + 1) in
    let tree : LocalItem = record { declarator = f.tree; value = Some (record { at = m; value = y.tree }) } in
    record {
      tree = tree;
      same = record { declarator = f.same; value = same.SameMaybe.some y.same };
      reads = subst (λ (q : List Symbol). g.LocalReads q tree) (sym (placed_append n (declarator_tokens d) (fixed k.Assign ∷ expr_tokens v))) (g.LocalReads.initialised _ f.reads refl y.reads);
    }

pub objects_first : {a : List Symbol} {ts : List ObjectItem} → g.Objects a ts → HasFirst ts
objects_first (g.Objects.one {d = t} d) = first t []
objects_first (g.Objects.more x {ds = ts} {d = t} d h d') = has_first ts t

objects_again : {a : List Symbol} {ts : List ObjectItem} → g.Objects a ts → Each IsReadable a → Anywhere g.Objects (SameAll SameObject) (separated k.Comma object_tokens ts) ts
objects_again (g.Objects.one {d = t} d) r = one_again g.ObjectReads g.Objects SameObject object_tokens t (λ a u h. g.Objects.one h) (object_again d r)
objects_again (g.Objects.more x {a = a} {c = c} {ds = ts} {d = t} d h d') r =
    let z = split IsReadable a (x ∷ c) r in
    further_again g.ObjectReads g.Objects SameObject object_tokens ts t (λ x a c us u h e h'. g.Objects.more x h e h') (objects_first d) (objects_again d z.0) (object_again d' z.1.1)

pub fields_first : {a : List Symbol} {ts : List Declarator} → g.Fields a ts → HasFirst ts
fields_first (g.Fields.one {d = t} d) = first t []
fields_first (g.Fields.more x {ds = ts} {d = t} d h d') = has_first ts t

fields_again : {a : List Symbol} {ts : List Declarator} → g.Fields a ts → Each IsReadable a → Anywhere g.Fields (SameAll SameDeclarator) (separated k.Comma declarator_tokens ts) ts
fields_again (g.Fields.one {d = t} d) r = one_again g.FieldReads g.Fields SameDeclarator declarator_tokens t (λ a u h. g.Fields.one h) (field_again d r)
fields_again (g.Fields.more x {a = a} {c = c} {ds = ts} {d = t} d h d') r =
    let z = split IsReadable a (x ∷ c) r in
    further_again g.FieldReads g.Fields SameDeclarator declarator_tokens ts t (λ x a c us u h e h'. g.Fields.more x h e h') (fields_first d) (fields_again d z.0) (field_again d' z.1.1)

pub items_row_first : {a : List Symbol} {ts : List LocalItem} → g.LocalItems a ts → HasFirst ts
items_row_first (g.LocalItems.one {d = t} d) = first t []
items_row_first (g.LocalItems.more x {ds = ts} {d = t} d h d') = has_first ts t

local_items_again : {a : List Symbol} {ts : List LocalItem} → g.LocalItems a ts → Each IsReadable a → Anywhere g.LocalItems (SameAll SameLocal) (separated k.Comma local_tokens ts) ts
local_items_again (g.LocalItems.one {d = t} d) r = one_again g.LocalReads g.LocalItems SameLocal local_tokens t (λ a u h. g.LocalItems.one h) (local_again d r)
local_items_again (g.LocalItems.more x {a = a} {c = c} {ds = ts} {d = t} d h d') r =
    let z = split IsReadable a (x ∷ c) r in
    further_again g.LocalReads g.LocalItems SameLocal local_tokens ts t (λ x a c us u h e h'. g.LocalItems.more x h e h') (items_row_first d) (local_items_again d z.0) (local_again d' z.1.1)

member_again : {a : List Symbol} {m : Members} → g.MemberReads a m → Each IsReadable a → Anywhere g.MemberReads SameMembers (member_tokens m) m
member_again (g.MemberReads.member x {a = a} {c = c} {t = t} {fs = fs} b d h) r n =
    let z = split IsReadable a (c ++ x ∷ []) r in
    let m = behind n (base_tokens t) in
    let e = base_again t n in
    let f = fields_again d (split IsReadable c (x ∷ []) z.1).0 m in
    let tree : Members = record { base = e.tree; fields = f.tree } in
    record {
      tree = tree;
      same = record { base = e.same; fields = f.same };
      reads = subst (λ (q : List Symbol). g.MemberReads q tree)
          (sym (placed_append n (base_tokens t) (separated k.Comma declarator_tokens fs ++ fixed k.Semi ∷ []) ∙ ap (λ (q : List Symbol). placed n (base_tokens t) ++ q) (placed_append m (separated k.Comma declarator_tokens fs) (fixed k.Semi ∷ []))))
          (g.MemberReads.member _ e.reads f.reads refl);
    }

members_again : {a : List Symbol} {ms : List Members} → g.MemberLists a ms → Each IsReadable a → Anywhere g.MemberLists (SameAll SameMembers) (flat_map member_tokens ms) ms
members_again (g.MemberLists.one {m = t} d) r n =
    let x = member_again d r n in
    record {
      tree = x.tree ∷ [];
      same = same.SameAll.more {ts = []} {us = []} same.SameAll.none x.same;
      reads = subst (λ (q : List Symbol). g.MemberLists (placed n q) (x.tree ∷ [])) (sym (append-nil (member_tokens t))) (g.MemberLists.one x.reads);
    }
members_again (g.MemberLists.more {a = a} {c = c} {ms = ts} {m = t} d d') r n =
    let z = split IsReadable a c r in
    next_again g.MemberReads g.MemberLists SameMembers member_tokens ts t (λ a c us u h h'. g.MemberLists.more h h') (members_again d z.0) (member_again d' z.1) n

locals_row_again : {a : List Symbol} {l : Locals} → g.LocalsRead a l → Each IsReadable a → Anywhere g.LocalsRead SameLocals (locals_tokens l) l
locals_row_again (g.LocalsRead.locals x {a = a} {c = c} {d = d} {r = is_register} {t = t} {ds = ds} w b e h) r n =
    let z = split IsReadable a (c ++ (d ++ x ∷ [])) r in
    let y = split IsReadable c (d ++ x ∷ []) z.1 in
    let m = behind n (keyword_if is_register k.KwRegister) in
    let p = behind m (base_tokens t) in
    let f = base_again t m in
    let q = local_items_again e (split IsReadable d (x ∷ []) y.1).0 p in
    let tree : Locals = record { is_register = is_register; base = f.tree; items = q.tree } in
    record {
      tree = tree;
      same = record { is_register = refl; base = f.same; items = q.same };
      reads = subst (λ (o : List Symbol). g.LocalsRead o tree)
          (sym (placed_append n (keyword_if is_register k.KwRegister) (base_tokens t ++ (separated k.Comma local_tokens ds ++ fixed k.Semi ∷ []))
          ∙ ap (λ (o : List Symbol). placed n (keyword_if is_register k.KwRegister) ++ o) (placed_append m (base_tokens t) (separated k.Comma local_tokens ds ++ fixed k.Semi ∷ [])
          ∙ ap (λ (o : List Symbol). placed m (base_tokens t) ++ o) (placed_append p (separated k.Comma local_tokens ds) (fixed k.Semi ∷ [])))))
          (g.LocalsRead.locals _ (register_again is_register n) f.reads q.reads refl);
    }
  where
    register_again : (b : Bool) (n : ℕ) → g.RegisterReads (placed n (keyword_if b k.KwRegister)) b
    register_again true n = g.RegisterReads.yes _ refl
    register_again false n = g.RegisterReads.no

local_lists_again : {a : List Symbol} {ls : List Locals} → g.LocalLists a ls → Each IsReadable a → Anywhere g.LocalLists (SameAll SameLocals) (flat_map locals_tokens ls) ls
local_lists_again g.LocalLists.none r n = record { tree = []; same = same.SameAll.none; reads = g.LocalLists.none }
local_lists_again (g.LocalLists.more {a = a} {c = c} {ls = ts} {l = t} d d') r n =
    let z = split IsReadable a c r in
    next_again g.LocalsRead g.LocalLists SameLocals locals_tokens ts t (λ a c us u h h'. g.LocalLists.more h h') (local_lists_again d z.0) (locals_row_again d' z.1) n

-- Parameters.

parameter_again : {a : List Symbol} {p : Parameter} → g.ParameterReads a p → Anywhere g.ParameterReads SameParameter (parameter_tokens p) p
parameter_again (g.ParameterReads.bare {t = t} {n = count} b d) n =
    let m = behind n (base_tokens t) in
    let f = base_again t n in
    let tree : Parameter = record { base = f.tree; stars = count; name = None } in
    record {
      tree = tree;
      same = record { base = f.same; stars = refl; name = same.SameMaybe.none };
      reads = subst (λ (q : List Symbol). g.ParameterReads q tree)
          (sym (placed_append n (base_tokens t) (star_tokens count ++ []) ∙ ap (λ (q : List Symbol). placed n (base_tokens t) ++ placed m q) (append-nil (star_tokens count))))
          (g.ParameterReads.bare f.reads (stars_again count m));
    }
parameter_again (g.ParameterReads.named x {t = t} {n = count} b d h) n =
    let m = behind n (base_tokens t) in
    let p = behind m (star_tokens count) in
    let f = base_again t n in
    let tree : Parameter = record { base = f.tree; stars = count; name = Some (record { at = p; bytes = x.text }) } in
    record {
      tree = tree;
      same = record { base = f.same; stars = refl; name = same.SameMaybe.some refl };
      reads = subst (λ (q : List Symbol). g.ParameterReads q tree)
          (sym (placed_append n (base_tokens t) (star_tokens count ++ name x.text ∷ []) ∙ ap (λ (q : List Symbol). placed n (base_tokens t) ++ q) (placed_append m (star_tokens count) (name x.text ∷ []))))
          (g.ParameterReads.named _ f.reads (stars_again count m) refl);
    }

pub parameters_first : {a : List Symbol} {ts : List Parameter} → g.Parameters a ts → HasFirst ts
parameters_first (g.Parameters.one {p = t} d) = first t []
parameters_first (g.Parameters.more x {ps = ts} {p = t} d h d') = has_first ts t

parameters_again : {a : List Symbol} {ts : List Parameter} → g.Parameters a ts → Anywhere g.Parameters (SameAll SameParameter) (separated k.Comma parameter_tokens ts) ts
parameters_again (g.Parameters.one {p = t} d) = one_again g.ParameterReads g.Parameters SameParameter parameter_tokens t (λ a u h. g.Parameters.one h) (parameter_again d)
parameters_again (g.Parameters.more x {ps = ts} {p = t} d h d') =
    further_again g.ParameterReads g.Parameters SameParameter parameter_tokens ts t (λ x a c us u h e h'. g.Parameters.more x h e h') (parameters_first d) (parameters_again d) (parameter_again d')

named_same : {n m : Option NameAt} → SameMaybe SameName n m → is_some n ≡ is_some m
named_same same.SameMaybe.none = refl
named_same (same.SameMaybe.some h) = refl

void_same : (p q : Parameter) → SameParameter p q → is_void_alone p ≡ is_void_alone q
void_same p q h =
    ap (λ z. is_void_word z && not p.base.is_const && eqb p.stars 0 && not (is_some p.name)) h.base.kind
    ∙ ap (λ z. is_void_word q.base.kind && not z && eqb p.stars 0 && not (is_some p.name)) h.base.is_const
    ∙ ap (λ z. is_void_word q.base.kind && not q.base.is_const && eqb z 0 && not (is_some p.name)) h.stars
    ∙ ap (λ z. is_void_word q.base.kind && not q.base.is_const && eqb q.stars 0 && not z) (named_same h.name)

-- two parameters or more are all proper
pub proper_more : (ts : List Parameter) (t : Parameter) → HasFirst ts → proper (ts ++ t ∷ []) ≡ ts ++ t ∷ []
proper_more _ t (first p []) = refl
proper_more _ t (first p (q ∷ ps)) = refl

pub proper_one : (p : Parameter) (b : Bool) → is_void_alone p ≡ b → proper (p ∷ []) ≡ (if b then [] else (p ∷ []))
proper_one p b h = ap (λ z. if z then [] else (p ∷ [])) h

pub some_tokens : (ts : List Parameter) → HasFirst ts → parameters_tokens ts ≡ separated k.Comma parameter_tokens ts
some_tokens _ (first p ps) = refl

abbrev ParametersAgain : List Parameter → Type 0
ParametersAgain ps = Anywhere g.ParametersClosed (SameAll SameParameter) (parameters_tokens ps ++ fixed k.RParen ∷ []) ps

no_parameters : ParametersAgain []
no_parameters n = record { tree = []; same = same.SameAll.none; reads = g.ParametersClosed.closed _ (g.Parameters.one (g.ParameterReads.bare (g.BaseReads.plain (g.BaseWords.void _ refl)) g.Stars.none)) refl }

single_parameter : (p : Parameter) {a : List Symbol} → g.ParameterReads a p → is_void_alone p ≡ false → ParametersAgain (p ∷ [])
single_parameter p d h n =
    let x = parameter_again d n in
    let e = proper_one x.tree false (sym (void_same p x.tree x.same) ∙ h) in
    record {
      tree = x.tree ∷ [];
      same = same.SameAll.more {ts = []} {us = []} same.SameAll.none x.same;
      reads = subst (λ (z : List Parameter). g.ParametersClosed (placed n (parameters_tokens (p ∷ []) ++ fixed k.RParen ∷ [])) z) e
          (subst (λ (q : List Symbol). g.ParametersClosed q (proper (x.tree ∷ [])))
          (sym (ap (λ q. placed n (q ++ fixed k.RParen ∷ [])) (separated_one k.Comma parameter_tokens p) ∙ placed_append n (parameter_tokens p) (fixed k.RParen ∷ [])))
          (g.ParametersClosed.closed _ (g.Parameters.one x.reads) refl));
    }

several_parameters : (ts : List Parameter) (t : Parameter) → HasFirst ts → Anywhere g.Parameters (SameAll SameParameter) (separated k.Comma parameter_tokens ts) ts → Anywhere g.ParameterReads SameParameter (parameter_tokens t) t
    → ParametersAgain (ts ++ t ∷ [])
several_parameters ts t w h h' n =
    let all = separated k.Comma parameter_tokens (ts ++ t ∷ []) in
    let m = behind n (separated k.Comma parameter_tokens ts) in
    let x = h n in
    let y = h' (m + length (fixed k.Comma).text + 1) in
    let e1 : g.Parameters (placed n all) (x.tree ++ y.tree ∷ []) =
    subst (λ (q : List Symbol). g.Parameters q (x.tree ++ y.tree ∷ []))
    (sym (ap (placed n) (separated_more k.Comma parameter_tokens ts t w) ∙ placed_append n (separated k.Comma parameter_tokens ts) (fixed k.Comma ∷ parameter_tokens t)))
    (g.Parameters.more _ x.reads refl y.reads) in
    record {
      tree = x.tree ++ y.tree ∷ [];
      same = same.SameAll.more x.same y.same;
      reads = subst (λ (z : List Parameter). g.ParametersClosed (placed n (parameters_tokens (ts ++ t ∷ []) ++ fixed k.RParen ∷ [])) z) (proper_more x.tree y.tree (parameters_first x.reads))
          (subst (λ (q : List Symbol). g.ParametersClosed q (proper (x.tree ++ y.tree ∷ [])))
          (sym (ap (λ q. placed n (q ++ fixed k.RParen ∷ [])) (some_tokens (ts ++ t ∷ []) (has_first ts t)) ∙ placed_append n all (fixed k.RParen ∷ [])))
          (g.ParametersClosed.closed _ e1 refl));
    }

parameters_closed_again : {a : List Symbol} {ps : List Parameter} → g.ParametersClosed a ps → ParametersAgain ps
parameters_closed_again (g.ParametersClosed.empty z h) = no_parameters
parameters_closed_again (g.ParametersClosed.closed z (g.Parameters.one {p = p} d) h) = go (is_void_alone p) refl
  where
    go : (b : Bool) → is_void_alone p ≡ b → ParametersAgain (proper (p ∷ []))
    go true e = subst ParametersAgain (sym (proper_one p true e)) no_parameters
    go false e = subst ParametersAgain (sym (proper_one p false e)) (single_parameter p d e)
parameters_closed_again (g.ParametersClosed.closed z (g.Parameters.more x {ps = ts} {p = t} d e d') h) =
    subst ParametersAgain (sym (proper_more ts t (parameters_first d))) (several_parameters ts t (parameters_first d) (parameters_again d) (parameter_again d'))

-- whether each has a name is told by no place
named_more : (ps : List Parameter) (p : Parameter) → all_named (ps ++ p ∷ []) ≡ (all_named ps && is_some p.name)
named_more [] p = go (is_some p.name)
  where
    go : (b : Bool) → (b && true) ≡ (true && b)
    go true = refl
    go false = refl
named_more (q ∷ ps) p = ap (λ z. is_some q.name && z) (named_more ps p) ∙ go (is_some q.name) (all_named ps) (is_some p.name)
  where
    go : (a b c : Bool) → (a && (b && c)) ≡ ((a && b) && c)
    go true b c = refl
    go false b c = refl

all_named_same : {ps qs : List Parameter} → SameAll SameParameter ps qs → all_named ps ≡ all_named qs
all_named_same same.SameAll.none = refl
all_named_same (same.SameAll.more {ts = ts} {us = us} {t = t} {u = u} h e) =
    named_more ts t ∙ ap (λ z. z && is_some t.name) (all_named_same h) ∙ ap (λ z. all_named us && z) (named_same e.name) ∙ sym (named_more us u)

-- Declarations at file scope.

linkage_again : (l : Linkage) (n : ℕ) → g.LinkageReads (placed n (linkage_tokens l)) l
linkage_again linkage.Plain n = g.LinkageReads.plain
linkage_again linkage.Static n = g.LinkageReads.internal _ refl
linkage_again linkage.Extern n = g.LinkageReads.external _ refl

head_again : {a : List Symbol} {h : Head} → g.HeadReads a h → Anywhere g.HeadReads SameHead (head_tokens h) h
head_again (g.HeadReads.head x y {n = count} {ps = ps} (g.Specifiers.specified {l = l} {t = t} e b) d h h' c) n =
    let ls = linkage_tokens l in
    let bs = base_tokens t in
    let ss = star_tokens count in
    let ws = parameters_tokens ps ++ fixed k.RParen ∷ [] in
    let m = behind n ls in
    let p = behind m bs in
    let q = behind p ss in
    let f = base_again t m in
    let w = parameters_closed_again c (q + length x.text + 1 + length (fixed k.LParen).text + 1) in
    let tree : Head = record { linkage = l; base = f.tree; stars = count; name = record { at = q; bytes = x.text }; parameters = w.tree } in
    let back : placed n ls ++ (placed m bs ++ (placed p ss ++ placed q (name x.text ∷ fixed k.LParen ∷ ws))) ≡ (placed n ls ++ placed m bs) ++ (placed p ss ++ placed q (name x.text ∷ fixed k.LParen ∷ ws)) =
    sym (append_assoc (placed n ls) (placed m bs) (placed p ss ++ placed q (name x.text ∷ fixed k.LParen ∷ ws))) in
    record {
      tree = tree;
      same = record { linkage = refl; base = f.same; stars = refl; name = refl; parameters = w.same };
      reads = subst (λ (o : List Symbol). g.HeadReads o tree)
          (sym (placed_append n ls (bs ++ (ss ++ name x.text ∷ fixed k.LParen ∷ ws))
          ∙ ap (λ (o : List Symbol). placed n ls ++ o) (placed_append m bs (ss ++ name x.text ∷ fixed k.LParen ∷ ws) ∙ ap (λ (o : List Symbol). placed m bs ++ o) (placed_append p ss (name x.text ∷ fixed k.LParen ∷ ws)))
          ∙ back))
          (g.HeadReads.head _ _ (g.Specifiers.specified (linkage_again l n) f.reads) (stars_again count p) refl refl w.reads);
    }

external_again : {a : List Symbol} {t : External} → g.ExternalReads a t → Each IsReadable a → Anywhere g.ExternalReads SameExternal (external_tokens t) t
external_again (g.ExternalReads.struct x v y w {ms = ms} h h' h'' (g.MembersClosed.closed z {a = a} d e) h''') r n =
    let ts = flat_map member_tokens ms in
    let m = n + length (fixed k.KwStruct).text + 1 + length v.text + 1 + length (fixed k.LBrace).text + 1 in
    let f = members_again d (split IsReadable a (z ∷ []) (split IsReadable (a ++ z ∷ []) (w ∷ []) r.1.1.1).0).0 m in
    let tree = top.Struct (record { at = n + length (fixed k.KwStruct).text + 1; bytes = v.text }) f.tree in
    record {
      tree = tree;
      same = same.SameExternal.struct refl f.same;
      reads = subst (λ (q : List Symbol). g.ExternalReads (placed n (fixed k.KwStruct ∷ name v.text ∷ fixed k.LBrace ∷ []) ++ q) tree)
          (sym (placed_append m (ts ++ fixed k.RBrace ∷ []) (fixed k.Semi ∷ []) ∙ ap (λ (q : List Symbol). q ++ placed (behind m (ts ++ fixed k.RBrace ∷ [])) (fixed k.Semi ∷ [])) (placed_append m ts (fixed k.RBrace ∷ []))))
          (g.ExternalReads.struct _ _ _ _ refl refl refl (g.MembersClosed.closed _ f.reads refl) refl);
    }
external_again (g.ExternalReads.objects x {a = a} {d = d} {ds = ds} (g.Specifiers.specified {a = la} {c = lb} {l = l} {t = t} e b) o h) r n =
    let ls = linkage_tokens l in
    let bs = base_tokens t in
    let rows = separated k.Comma object_tokens ds in
    let m = behind n ls in
    let p = behind m bs in
    let f = base_again t m in
    let y = objects_again o (split IsReadable d (x ∷ []) (split IsReadable a (d ++ x ∷ []) r).1).0 p in
    let tree = top.Objects l f.tree y.tree in
    let back : placed n ls ++ (placed m bs ++ (placed p rows ++ placed (behind p rows) (fixed k.Semi ∷ []))) ≡ (placed n ls ++ placed m bs) ++ (placed p rows ++ placed (behind p rows) (fixed k.Semi ∷ [])) =
    sym (append_assoc (placed n ls) (placed m bs) (placed p rows ++ placed (behind p rows) (fixed k.Semi ∷ []))) in
    record {
      tree = tree;
      same = same.SameExternal.objects l f.same y.same;
      reads = subst (λ (q : List Symbol). g.ExternalReads q tree)
          (sym (placed_append n ls (bs ++ (rows ++ fixed k.Semi ∷ []))
          ∙ ap (λ (q : List Symbol). placed n ls ++ q) (placed_append m bs (rows ++ fixed k.Semi ∷ []) ∙ ap (λ (q : List Symbol). placed m bs ++ q) (placed_append p rows (fixed k.Semi ∷ [])))
          ∙ back))
          (g.ExternalReads.objects _ (g.Specifiers.specified (linkage_again l n) f.reads) y.reads refl);
    }
external_again (g.ExternalReads.prototype x {h = h} d e) r n =
    let f = head_again d n in
    record {
      tree = top.Prototype f.tree;
      same = same.SameExternal.prototype f.same;
      reads = subst (λ (q : List Symbol). g.ExternalReads q (top.Prototype f.tree)) (sym (placed_append n (head_tokens h) (fixed k.Semi ∷ []))) (g.ExternalReads.prototype _ f.reads refl);
    }
external_again (g.ExternalReads.function x {a = a} {c = c} {d = d} {h = h} {ls = ls} {ss = ss} e named e' w b) r n =
    let z = split IsReadable c d (split IsReadable a (x ∷ (c ++ d)) r).1.1 in
    let hs = head_tokens h in
    let ts = flat_map locals_tokens ls in
    let us = flat_map stmt_tokens ss in
    let m = behind n hs + length (fixed k.LBrace).text + 1 in
    let p = behind m ts in
    let f = head_again e n in
    let y = local_lists_again w z.0 m in
    let q = braced_again b z.1 p in
    let tree = top.Function f.tree y.tree q.tree in
    record {
      tree = tree;
      same = same.SameExternal.function f.same y.same q.same;
      reads = subst (λ (o : List Symbol). g.ExternalReads o tree)
          (sym (placed_append n hs (braced (ts ++ us))
          ∙ ap (λ (o : List Symbol). placed n hs ++ (placed (behind n hs) (fixed k.LBrace ∷ []) ++ o))
          (ap (placed m) (append_assoc ts us (fixed k.RBrace ∷ [])) ∙ placed_append m ts (us ++ fixed k.RBrace ∷ []) ∙ ap (λ (o : List Symbol). placed m ts ++ o) (placed_append p us (fixed k.RBrace ∷ [])))))
          (g.ExternalReads.function _ f.reads (sym (all_named_same f.same.parameters) ∙ named) refl y.reads (g.Braced.closed _ q.reads refl));
    }

-- the canonical tokens of a tree, wherever they begin, read as the same tree
pub tree_again : {a : List Symbol} {ts : List External} → g.Reads a ts → Each IsReadable a → Anywhere g.Reads SameTree (tokens_of ts) ts
tree_again g.Reads.none r n = record { tree = []; same = same.SameAll.none; reads = g.Reads.none }
tree_again (g.Reads.more {a = a} {c = c} {ts = ts} {t = t} d d') r n =
    let z = split IsReadable a c r in
    next_again g.ExternalReads g.Reads SameExternal external_tokens ts t (λ a c us u h h'. g.Reads.more h h') (tree_again d z.0) (external_again d' z.1) n
