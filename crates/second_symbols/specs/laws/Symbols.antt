-- The symbols of a unit: their numbers, and what the typed unit has at these.
use Rattle.std.proofs.Common.{◌≡◌, ◌≢◌, ℕ, zero, suc, ◌+◌, Bool, true, false, ◌||◌, cond, List, [], ◌∷◌, ◌++◌, map, set, length, position, slice_get, Option, Some, None, refl, sym, ap, ◌∙◌, subst, arith, append-nil}
use Rattle.std.specs.Prelude.{nat_lt, unwrap_or, option_map}
use Rattle.std.specs.List.{list_any, position_from}
use Rattle.std.specs.Option.{option_map_or}
use Rattle.std.specs.Str.{bytes_eq}
use Rattle.std.proofs.Math.Bool.{or-true}
use Rattle.std.proofs.lemmas.Bool.{lt-ltb, le-ltb}
use Rattle.std.proofs.lemmas.Option.{slice_get-map}
use Rattle.std.proofs.lemmas.Slice.Eq.{bytes_eq-Decides}
use Rattle.std.proofs.lemmas.List.Folds.{list_any-append}
use Rattle.std.proofs.lemmas.Iterator.Adapters.{position_from-zero}
use Rattle.text_grammar.specs.declared.tree.BaseKind.TheVariants as kind
use Rattle.text_grammar.specs.declared.tree.Parameter.{Parameter}
use Rattle.text_grammar.specs.declared.tree.Head.{Head}
use Rattle.text_grammar.specs.declared.tree.External.{External}
use Rattle.text_grammar.specs.declared.tree.External.TheVariants as top
use Rattle.typing_symbols.specs.Names.{is_among, with_names}
use Rattle.typing_symbols.specs.Sights.{sights_of}
use Rattle.typing_symbols.specs.declared.known.Role.TheVariants as role
use Rattle.typing_symbols.specs.Table.{Table}
use Rattle.typing_symbols.specs.Symbols.{is_global, names_that}
use Rattle.clight_unit.specs.declared.signature.Callee.{Callee}
use Rattle.clight_unit.specs.declared.signature.Callee.TheVariants as callee
use Rattle.typing_bodies.specs.Signatures.{value_base, parameter_type, signature_of}
use Rattle.typing_declarations.specs.declared.whole.Whole.{Whole}
use Rattle.typing_declarations.specs.Whole.{whole_of, symbol_of}
use Rattle.typing_units.specs.Objects.{is_local_symbol}
use Rattle.typing_units.specs.Faces.{symbol_names, undeclared, with_head, with_externals, callees_of}
use Rattle.second_form.specs.declared.second_items.Item.{Item}
use Rattle.second_runs.specs.Mirrors.{int_void}
use Rattle.second_symbols.specs.Sources.{IsHead, AllDeclare}
use Rattle.second_symbols.specs.laws.Sighted.{alike, sighted, known, local_names, local_symbols, has_symbol, adds_all, Placed, placed, placed_among, placed_behind}

-- a name has a symbol of this number
pub record IsSymbol (whole : Whole) (n : List ℕ) : Type 0 where
  pub place : ℕ
  pub first : position (bytes_eq n) whole.symbols.names ≡ Some place
  pub number : symbol_of whole n ≡ place
  pub at : slice_get whole.symbols.names place ≡ Some n

pub symbol_is : (whole : Whole) (n : List ℕ) → is_among n whole.symbols.names ≡ true → IsSymbol whole n
symbol_is whole n h =
    let p : Placed (bytes_eq n) 0 whole.symbols.names (length whole.symbols.names) = placed (bytes_eq n) 0 whole.symbols.names h in
    let first : position (bytes_eq n) whole.symbols.names ≡ Some p.place = position_from-zero (bytes_eq n) whole.symbols.names ∙ p.first ∙ ap (λ k. Some k) (let e : 0 + p.place ≡ p.place = omega arith in e) in
    record {
      place = p.place;
      first = first;
      number = ap (λ o. unwrap_or o 0) first;
      at = p.at ∙ ap (λ m. Some m) (sym (alike n p.x p.passes));
    }

-- The first symbols are the local ones

pub local_is_static : (tree : List External) (n : List ℕ) → sighted role.Definition n (sights_of tree) ≡ true
    → nat_lt (symbol_of (whole_of tree) n) (whole_of tree).symbols.locals ≡ sighted role.Static n (sights_of tree)
local_is_static tree n defined = by (is_among n locals) refl
  where
    locals : List (List ℕ)
    locals = local_names (sights_of tree)

    globals : List (List ℕ)
    globals = names_that (is_global (known (sights_of tree))) (sights_of tree)

    more : (more : List (List ℕ)) × (with_names locals globals ≡ locals ++ more)
    more = adds_all locals globals

    there : list_any (bytes_eq n) (locals ++ more.0) ≡ true
    there = ap (is_among n) (sym more.1) ∙ has_symbol (sights_of tree) n (ap (λ b. b || sighted role.Use n (sights_of tree)) defined)

    number : symbol_of (whole_of tree) n ≡ unwrap_or (position_from (bytes_eq n) 0 (locals ++ more.0)) 0
    number = ap (λ o. unwrap_or o 0) (position_from-zero (bytes_eq n) (with_names locals globals) ∙ ap (position_from (bytes_eq n) 0) more.1)

    known_static : is_among n locals ≡ sighted role.Static n (sights_of tree)
    known_static = local_symbols (sights_of tree) n defined

    by : (b : Bool) → is_among n locals ≡ b → nat_lt (symbol_of (whole_of tree) n) (length locals) ≡ sighted role.Static n (sights_of tree)
    by true among =
        let p : Placed (bytes_eq n) 0 (locals ++ more.0) (length locals) = placed_among (bytes_eq n) 0 locals more.0 among in
        let is : symbol_of (whole_of tree) n ≡ 0 + p.place = number ∙ ap (λ o. unwrap_or o 0) p.first in
        let w = p.within in
        lt-ltb (symbol_of (whole_of tree) n) (length locals) (omega (arith, is, w)) ∙ sym among ∙ known_static
    by false among =
        let later : list_any (bytes_eq n) more.0 ≡ true = sym (ap (λ b. b || list_any (bytes_eq n) more.0) among) ∙ sym (list_any-append (bytes_eq n) locals more.0) ∙ there in
        let p : Placed (bytes_eq n) (0 + length locals) more.0 (length more.0) = placed (bytes_eq n) (0 + length locals) more.0 later in
        let is : symbol_of (whole_of tree) n ≡ 0 + length locals + p.place = number ∙ ap (λ o. unwrap_or o 0) (placed_behind (bytes_eq n) 0 locals more.0 among ∙ p.first) in
        le-ltb (symbol_of (whole_of tree) n) (length locals) (omega (arith, is)) ∙ sym among ∙ known_static

-- The names of the symbols in the typed unit

names_at : (symbols : Table) (j : ℕ) (ns : List (List ℕ)) (k : ℕ) (n : List ℕ) → slice_get ns k ≡ Some n
    → slice_get (symbol_names symbols j ns) k ≡ Some (record { name = n; local = is_local_symbol symbols (j + k) })
names_at symbols j [] k n e = let none : slice_get [] k ≡ None = refl in let x = sym none ∙ e in cc
names_at symbols j (m ∷ ns) zero n e =
    let same : m ≡ n = cc in
    let here : j ≡ j + 0 = omega arith in
    ap (λ m. Some (record { name = m; local = is_local_symbol symbols j })) same ∙ ap (λ i. Some (record { name = n; local = is_local_symbol symbols i })) here
names_at symbols j (m ∷ ns) (suc k) n e =
    names_at symbols (j + 1) ns k n e ∙ ap (λ i. Some (record { name = n; local = is_local_symbol symbols i })) (let e : j + 1 + k ≡ j + suc k = omega arith in e)

pub symbol_named : (whole : Whole) (n : List ℕ) (h : IsSymbol whole n)
    → slice_get (symbol_names whole.symbols 0 whole.symbols.names) (symbol_of whole n) ≡ Some (record { name = n; local = is_local_symbol whole.symbols (0 + h.place) })
symbol_named whole n h =
    ap (slice_get (symbol_names whole.symbols 0 whole.symbols.names)) h.number ∙ names_at whole.symbols 0 whole.symbols.names h.place n h.at

-- What the unit declares of them

-- the names of items that were declared, behind some more
abbrev pub names_behind : List (List ℕ) → List Item → List (List ℕ)
names_behind done [] = done
names_behind done (item ∷ items) = names_behind (item.name ∷ done) items

pub still_among : (n : List ℕ) (done : List (List ℕ)) (items : List Item) → is_among n done ≡ true → is_among n (names_behind done items) ≡ true
still_among n done [] h = h
still_among n done (item ∷ items) h = still_among n (item.name ∷ done) items (ap (λ b. bytes_eq n item.name || b) h ∙ or-true (bytes_eq n item.name))

-- a function of these is `int f(void)`
abbrev pub declared_as : List ℕ → List (List ℕ) → Callee
declared_as n done = cond (is_among n done) (callee.Function int_void) (undeclared n)

pub head_signature : (head : Head) (item : Item) → IsHead head item → signature_of head ≡ int_void
head_signature head item h =
    ap (λ k. record { result = record { base = value_base k; stars = head.stars }; parameters = map parameter_type head.parameters }) h.kind
    ∙ ap (λ n. record { result = record { base = value_base kind.Int; stars = n }; parameters = map parameter_type head.parameters }) h.stars
    ∙ ap (λ (ps : List Parameter). record { result = record { base = value_base kind.Int; stars = 0 }; parameters = map parameter_type ps }) h.parameters

set_same : {A : Type 0} (xs : List A) (i : ℕ) (x y : A) → slice_get xs i ≡ Some x → slice_get (set xs i y) i ≡ Some y
set_same [] i x y e = let none : slice_get [] i ≡ None = refl in let z = sym none ∙ e in cc
set_same (z ∷ xs) zero x y e = refl
set_same (z ∷ xs) (suc i) x y e = set_same xs i x y e

set_other : {A : Type 0} (xs : List A) (i k : ℕ) (y : A) → k ≢ i → slice_get (set xs i y) k ≡ slice_get xs k
set_other [] i k y differ = refl
set_other (z ∷ xs) zero zero y differ = absurd (differ refl)
set_other (z ∷ xs) zero (suc k) y differ = refl
set_other (z ∷ xs) (suc i) zero y differ = refl
set_other (z ∷ xs) (suc i) (suc k) y differ = set_other xs i k y (λ e. differ (ap suc e))

module _ (whole : Whole) (n : List ℕ) (h : IsSymbol whole n) where
  -- a declaration of this name, or of another one
  named_place : (m : List ℕ) (o : Option ℕ) → position (bytes_eq m) whole.symbols.names ≡ o → bytes_eq n m ≡ false → (cs : List Callee) (c : Callee)
      → slice_get (option_map_or (λ k. set cs k c) o cs) h.place ≡ slice_get cs h.place
  named_place m None e differs cs c = refl
  named_place m (Some j) e differs cs c = set_other cs j h.place c other
    where
      among : (b : Bool) → is_among m whole.symbols.names ≡ b → is_among m whole.symbols.names ≡ true
      among true e = e
      among false lacks =
          let none : position_from (bytes_eq m) 0 (whole.symbols.names ++ []) ≡ None = placed_behind (bytes_eq m) 0 whole.symbols.names [] lacks in
          let some : Some j ≡ None = sym e ∙ position_from-zero (bytes_eq m) whole.symbols.names ∙ ap (position_from (bytes_eq m) 0) (sym (append-nil whole.symbols.names)) ∙ none in
          cc

      other : h.place ≢ j
      other same =
          let s : IsSymbol whole m = symbol_is whole m (among (is_among m whole.symbols.names) refl) in
          let places : Some j ≡ Some s.place = sym e ∙ s.first in
          let place : j ≡ s.place = cc in
          let names : Some n ≡ Some m = sym h.at ∙ ap (slice_get whole.symbols.names) (same ∙ place) ∙ s.at in
          let name : n ≡ m = cc in
          let yes : bytes_eq n m ≡ true = (bytes_eq-Decides n m).1 name in
          let both : true ≡ false = sym yes ∙ differs in
          cc

  with_one : (head : Head) (item : Item) → IsHead head item → (done : List (List ℕ)) (cs : List Callee) → slice_get cs h.place ≡ Some (declared_as n done)
      → slice_get (with_head whole.symbols cs head) h.place ≡ Some (declared_as n (item.name ∷ done))
  with_one head item is done cs at =
      subst (λ m. slice_get (option_map_or (λ k. set cs k (callee.Function (signature_of head))) (position (bytes_eq m) whole.symbols.names) cs) h.place ≡ Some (declared_as n (item.name ∷ done))) (sym is.named)
      (subst (λ s. slice_get (option_map_or (λ k. set cs k (callee.Function s)) (position (bytes_eq item.name) whole.symbols.names) cs) h.place ≡ Some (declared_as n (item.name ∷ done))) (sym (head_signature head item is))
      (by (bytes_eq n item.name) refl))
    where
      by : (b : Bool) → bytes_eq n item.name ≡ b
          → slice_get (option_map_or (λ k. set cs k (callee.Function int_void)) (position (bytes_eq item.name) whole.symbols.names) cs) h.place ≡ Some (cond (b || is_among n done) (callee.Function int_void) (undeclared n))
      by true same =
          ap (λ m. slice_get (option_map_or (λ k. set cs k (callee.Function int_void)) (position (bytes_eq m) whole.symbols.names) cs) h.place) (sym (alike n item.name same))
          ∙ ap (λ o. slice_get (option_map_or (λ k. set cs k (callee.Function int_void)) o cs) h.place) h.first
          ∙ set_same cs h.place (declared_as n done) (callee.Function int_void) at
      by false differs = named_place item.name (position (bytes_eq item.name) whole.symbols.names) refl differs cs (callee.Function int_void) ∙ at

  with_each : (tree : List External) (items : List Item) → AllDeclare tree items → (done : List (List ℕ)) (cs : List Callee) → slice_get cs h.place ≡ Some (declared_as n done)
      → slice_get (with_externals whole.symbols cs tree) h.place ≡ Some (declared_as n (names_behind done items))
  with_each [] items all done cs at = subst (λ items. slice_get cs h.place ≡ Some (declared_as n (names_behind done items))) (sym all) at
  with_each (x ∷ xs) [] all done cs at = absurd all
  with_each (top.Struct tag members ∷ xs) (item ∷ items) all done cs at = absurd all.0
  with_each (top.Objects l b objects ∷ xs) (item ∷ items) all done cs at = absurd all.0
  with_each (top.Prototype head ∷ xs) (item ∷ items) all done cs at = with_each xs items all.1 (item.name ∷ done) (with_head whole.symbols cs head) (with_one head item all.0.0 done cs at)
  with_each (top.Function head locals body ∷ xs) (item ∷ items) all done cs at = with_each xs items all.1 (item.name ∷ done) (with_head whole.symbols cs head) (with_one head item all.0.0 done cs at)

  pub symbol_declared : (tree : List External) (items : List Item) → AllDeclare tree items
      → slice_get (callees_of whole.symbols tree) (symbol_of whole n) ≡ Some (declared_as n (names_behind [] items))
  symbol_declared tree items all =
      ap (slice_get (callees_of whole.symbols tree)) h.number
      ∙ with_each tree items all [] (map undeclared whole.symbols.names) (slice_get-map undeclared whole.symbols.names h.place ∙ ap (option_map undeclared) h.at)
