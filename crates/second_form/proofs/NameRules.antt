-- What an index tells of the names of items.
use Rattle.std.proofs.Common.{◌≡◌, ℕ, ◌+◌, ◌≤◌, ◌<◌, ◌⊎◌, zero, suc, List, [], ◌∷◌, ◌++◌, length, take, drop, get_or, refl, sym, ◌∙◌, ap, subst, arith, inl, inr, Bool, true, false, not, ◌||◌, Option, Some, None, length-take}
use Rattle.std.specs.Prelude.{◌&&◌, IsSome, is_some, cond, slice_get}
use Rattle.std.specs.Str.{bytes_eq}
use Rattle.std.specs.HashMap.{HashMap}
use denote.Ref.{Bor}
use Rattle.std.proofs.lemmas.Bool.{cases_Bool}
use Rattle.std.proofs.lemmas.List.{take_more, take-append-drop}
use Rattle.std.proofs.lemmas.Slice.Eq.{bytes_eq-Decides}
use Rattle.second_form.specs.declared.second_items.Item.{Item}
use Rattle.second_form.specs.declared.second_names.Known.{Known}
use Rattle.second_form.specs.SecondForm.{IsAt, DeclaredBy, Defined, StaticAlike, DefinedOnce, KeepsNames}
use Rattle.second_form.specs.SecondNames.{known_of, is_alike, joined_with, Knows, KnowsIfAny, Indexes, IsSeenBy, IsDefined, KeepsItem}

-- places
at_split : (done : List Item) (item : Item) (i : ℕ) (a : Item) → IsAt (done ++ item ∷ []) i a → IsAt done i a ⊎ ((i ≡ length done) × (item ≡ a))
at_split [] item zero a e = inr (refl, cc)
at_split [] item (suc i) a e = absurd (cc)
at_split (x ∷ done) item zero a e = inl e
at_split (x ∷ done) item (suc i) a e = elim (at_split done item i a e) [ inl h ↦ inl h | inr h ↦ inr (ap suc h.0, h.1) ]

at_kept : (done more : List Item) (i : ℕ) (a : Item) → IsAt done i a → IsAt (done ++ more) i a
at_kept [] more i a e = absurd (cc)
at_kept (x ∷ done) more zero a e = e
at_kept (x ∷ done) more (suc i) a e = at_kept done more i a e

at_last : (done : List Item) (item : Item) → IsAt (done ++ item ∷ []) (length done) item
at_last [] item = refl
at_last (x ∷ done) item = at_last done item

pub at_within : (done : List Item) (i : ℕ) (a : Item) → IsAt done i a → i < length done
at_within [] i a e = absurd (cc)
at_within (x ∷ done) zero a e = omega arith
at_within (x ∷ done) (suc i) a e = omega (arith, at_within done i a e)

pub at_place : (items : List Item) (i : ℕ) (a : Item) → i < length items → a ≡ get_or items i a → IsAt items i a
at_place [] i a l e = absurd (omega arith)
at_place (x ∷ items) zero a l e = ap Some (sym e)
at_place (x ∷ items) (suc i) a l e = at_place items i a (omega arith) e

at_take : (n : ℕ) (items : List Item) (i : ℕ) (a : Item) → IsAt (take n items) i a → IsAt items i a
at_take n items i a e = let P : List Item → Type 0 = λ xs. IsAt xs i a in subst P (take-append-drop n items) (at_kept (take n items) (drop n items) i a e)

-- tests
and_true : (a b : Bool) → (a && b) ≡ true → (a ≡ true) × (b ≡ true)
and_true true b e = (refl, e)
and_true false b e = absurd (cc)

alike_is : (l m : Bool) → is_alike l m ≡ true → l ≡ m
alike_is true true e = refl
alike_is false false e = refl
alike_is true false e = absurd (cc)
alike_is false true e = absurd (cc)

is_alike_same : (l m : Bool) → l ≡ m → is_alike l m ≡ true
is_alike_same true true e = refl
is_alike_same false false e = refl
is_alike_same true false e = absurd (cc)
is_alike_same false true e = absurd (cc)

not_both : (a b : Bool) → not (a && b) ≡ true → a ≡ true → b ≡ true → ⊥
not_both true true e f g = cc
not_both true false e f g = cc
not_both false b e f g = cc

cond_some : (b : Bool) (x k : Known) → cond b (Some x) None ≡ Some k → (b ≡ true) × (x ≡ k)
cond_some true x k e = (refl, cc)
cond_some false x k e = absurd (cc)

cond_none : (b : Bool) (x : Known) → cond b (Some x) None ≡ None → b ≡ false
cond_none true x e = absurd (cc)
cond_none false x e = refl

either_true : (a b : Bool) → (a || b) ≡ true → (a ≡ true) ⊎ (b ≡ true)
either_true true b e = inl refl
either_true false b e = inr e

neither : (a b : Bool) → (a || b) ≡ false → (a ≡ false) × (b ≡ false)
neither true b e = absurd (cc)
neither false b e = (refl, e)

is_not : (b : Bool) → b ≡ true → b ≡ false → ⊥
is_not b e f = let g : true ≡ false = sym e ∙ f in cc

-- one more item of another name
knows_other : (done : List Item) (item : Item) (name : List ℕ) (o : Option Known) → ¬ (item.name ≡ name) → KnowsIfAny done name o → KnowsIfAny (done ++ item ∷ []) name o
knows_other done item name None n k =
    λ i a at e.
    elim (at_split done item i a at) [ inl h ↦ k i a h e | inr h ↦ n (ap (λ (x : Item). x.name) h.1 ∙ e) ]
knows_other done item name (Some known) n k = record {
  first = record { where_at = k.first.where_at; item = k.first.item; at = at_kept done (item ∷ []) k.first.where_at k.first.item k.first.at; before = k.first.before; named = k.first.named };
  least = λ i a at e. elim (at_split done item i a at) [ inl h ↦ k.least i a h e | inr h ↦ absurd (n (ap (λ (x : Item). x.name) h.1 ∙ e)) ];
  alike = λ i a at e. elim (at_split done item i a at) [ inl h ↦ k.alike i a h e | inr h ↦ absurd (n (ap (λ (x : Item). x.name) h.1 ∙ e)) ];
  defined = λ d. let h = k.defined d in record { where_at = h.where_at; item = h.item; at = at_kept done (item ∷ []) h.where_at h.item h.at; named = h.named; has_body = h.has_body };
  undefined = λ d i a at e. elim (at_split done item i a at) [ inl h ↦ k.undefined d i a h e | inr h ↦ absurd (n (ap (λ (x : Item). x.name) h.1 ∙ e)) ];
}

-- the first of its name
knows_first : (done : List Item) (item : Item) → KnowsIfAny done item.name None → Knows (done ++ item ∷ []) item.name (record { local = item.local; first = length done; defined = is_some item.body })
knows_first done item k = record {
  first = record { where_at = length done; item = item; at = at_last done item; before = omega arith; named = refl };
  least = λ i a at e. elim (at_split done item i a at) [ inl h ↦ absurd (k i a h e) | inr h ↦ omega (arith, h.0) ];
  alike = λ i a at e. elim (at_split done item i a at) [ inl h ↦ absurd (k i a h e) | inr h ↦ ap (λ (x : Item). x.local) (sym h.1) ];
  defined = λ d. record { where_at = length done; item = item; at = at_last done item; named = refl; has_body = d };
  undefined = λ d i a at e.
      elim (at_split done item i a at) [
        | inl h ↦ absurd (k i a h e)
        | inr h ↦ λ s. is_not (is_some item.body) (ap (λ (x : Item). is_some x.body) h.1 ∙ s) d
      ];
}

-- a later one
knows_later : (done : List Item) (item : Item) (known : Known) → Knows done item.name known → known.local ≡ item.local → Knows (done ++ item ∷ []) item.name (record { local = known.local; first = known.first; defined = known.defined || is_some item.body })
knows_later done item known k same = record {
  first = record { where_at = k.first.where_at; item = k.first.item; at = at_kept done (item ∷ []) k.first.where_at k.first.item k.first.at; before = k.first.before; named = k.first.named };
  least = λ i a at e.
      elim (at_split done item i a at) [
        | inl h ↦ k.least i a h e
        | inr h ↦ omega (arith, h.0, at_within done k.first.where_at k.first.item k.first.at, k.least k.first.where_at k.first.item k.first.at k.first.named)
      ];
  alike = λ i a at e. elim (at_split done item i a at) [ inl h ↦ k.alike i a h e | inr h ↦ ap (λ (x : Item). x.local) (sym h.1) ∙ sym same ];
  defined = λ d.
      elim (either_true known.defined (is_some item.body) d) [
        | inl f ↦ let h = k.defined f in record { where_at = h.where_at; item = h.item; at = at_kept done (item ∷ []) h.where_at h.item h.at; named = h.named; has_body = h.has_body }
        | inr s ↦ record { where_at = length done; item = item; at = at_last done item; named = refl; has_body = s }
      ];
  undefined = λ d i a at e.
      elim (at_split done item i a at) [
        | inl h ↦ k.undefined (neither known.defined (is_some item.body) d).0 i a h e
        | inr h ↦ λ s. is_not (is_some item.body) (ap (λ (x : Item). is_some x.body) h.1 ∙ s) (neither known.defined (is_some item.body) d).1
      ];
}

knows_here : (done : List Item) (item : Item) (o : Option Known) (after : Known) → KnowsIfAny done item.name o → joined_with o (length done) item ≡ Some after → Knows (done ++ item ∷ []) item.name after
knows_here done item None after k e =
    let P : Known → Type 0 = Knows (done ++ item ∷ []) item.name in
    let made : Known = record { local = item.local; first = length done; defined = is_some item.body } in
    let same : made ≡ after = cc in
    subst P same (knows_first done item k)
knows_here done item (Some known) after k e =
    let P : Known → Type 0 = Knows (done ++ item ∷ []) item.name in
    let both = cond_some (is_alike known.local item.local && not (known.defined && is_some item.body)) (record { local = known.local; first = known.first; defined = known.defined || is_some item.body }) after e in
    subst P both.1 (knows_later done item known k (alike_is known.local item.local (and_true (is_alike known.local item.local) (not (known.defined && is_some item.body)) both.0).0))

-- the items of a name agree
record Agrees (done : List Item) (item : Item) : Type 0 where
  pub alike : (i : ℕ) (a : Item) → IsAt done i a → a.name ≡ item.name → a.local ≡ item.local
  pub once : (i : ℕ) (a : Item) → IsAt done i a → a.name ≡ item.name → IsSome a.body → IsSome item.body → ⊥

agrees : (done : List Item) (item : Item) (o : Option Known) (after : Known) → KnowsIfAny done item.name o → joined_with o (length done) item ≡ Some after → Agrees done item
agrees done item None after k e = record { alike = λ i a at f. absurd (k i a at f); once = λ i a at f s t. k i a at f }
agrees done item (Some known) after k e =
    let both = cond_some (is_alike known.local item.local && not (known.defined && is_some item.body)) (record { local = known.local; first = known.first; defined = known.defined || is_some item.body }) after e in
    let parts = and_true (is_alike known.local item.local) (not (known.defined && is_some item.body)) both.0 in
    record {
      alike = λ i a at f. k.alike i a at f ∙ alike_is known.local item.local parts.0;
      once = λ i a at f s t.
          elim (cases_Bool known.defined) [
            | inl d ↦ not_both known.defined (is_some item.body) parts.1 d t
            | inr d ↦ k.undefined d i a at f s
          ];
    }

-- how far the index has come
pub record IndexedSoFar {S : Type 0} (items : List Item) (names : HashMap (Bor (List ℕ)) Known S) : Type 0 where
  pub alike : StaticAlike items
  pub once : DefinedOnce items
  pub indexes : Indexes items names

name_of : (item a : Item) → item ≡ a → item.name ≡ a.name
name_of item a e = ap (λ (x : Item). x.name) e

alike_more : (done : List Item) (item : Item) → Agrees done item → StaticAlike done → StaticAlike (done ++ item ∷ [])
alike_more done item g s = λ i j a b at bt e.
    elim (at_split done item i a at) [
      | inl h ↦
          elim (at_split done item j b bt) [
            | inl k ↦ s i j a b h k e
            | inr k ↦ g.alike i a h (e ∙ sym (name_of item b k.1)) ∙ ap (λ (x : Item). x.local) k.1
          ]
      | inr h ↦
          elim (at_split done item j b bt) [
            | inl k ↦ ap (λ (x : Item). x.local) (sym h.1) ∙ sym (g.alike j b k (sym e ∙ sym (name_of item a h.1)))
            | inr k ↦ ap (λ (x : Item). x.local) (sym h.1) ∙ ap (λ (x : Item). x.local) k.1
          ]
    ]

body_of : (item a : Item) → item ≡ a → IsSome a.body → IsSome item.body
body_of item a e s = ap (λ (x : Item). is_some x.body) e ∙ s

once_more : (done : List Item) (item : Item) → Agrees done item → DefinedOnce done → DefinedOnce (done ++ item ∷ [])
once_more done item g s = λ i j a b at bt e p q.
    elim (at_split done item i a at) [
      | inl h ↦
          elim (at_split done item j b bt) [
            | inl k ↦ s i j a b h k e p q
            | inr k ↦ absurd (g.once i a h (e ∙ sym (name_of item b k.1)) p (body_of item b k.1 q))
          ]
      | inr h ↦
          elim (at_split done item j b bt) [
            | inl k ↦ absurd (g.once j b k (sym e ∙ sym (name_of item a h.1)) q (body_of item a h.1 p))
            | inr k ↦ h.0 ∙ sym k.0
          ]
    ]

cond_known : (b : Bool) (x y : Option Known) (P : Option Known → Type 0) → (b ≡ true → P x) → (b ≡ false → P y) → P (cond b x y)
cond_known true x y P f g = f refl
cond_known false x y P f g = g refl

indexes_more : {S T : Type 0} (done : List Item) (item : Item) (old : HashMap (Bor (List ℕ)) Known S) (new : HashMap (Bor (List ℕ)) Known T) (after : Known) → Indexes done old → joined_with (known_of old item.name) (length done) item ≡ Some after
    → ((other : List ℕ) → known_of new other ≡ cond (bytes_eq item.name other) (Some after) (known_of old other)) → Indexes (done ++ item ∷ []) new
indexes_more done item old new after x e u = record {
  knows = λ name.
      let P : Option Known → Type 0 = KnowsIfAny (done ++ item ∷ []) name in
      subst P (sym (u name))
      (cond_known (bytes_eq item.name name) (Some after) (known_of old name) P
      (λ t. let Q : List ℕ → Type 0 = λ n. Knows (done ++ item ∷ []) n after in subst Q ((bytes_eq-Decides item.name name).0 t) (knows_here done item (known_of old item.name) after (x.knows item.name) e))
      (λ f. knows_other done item name (known_of old name) (λ s. is_not (bytes_eq item.name name) ((bytes_eq-Decides item.name name).1 s) f) (x.knows name)));
}

pub indexed_more : {S T : Type 0} (items : List Item) (place : ℕ) (item : Item) (old : HashMap (Bor (List ℕ)) Known S) (new : HashMap (Bor (List ℕ)) Known T) (after : Known) → place < length items → item ≡ get_or items place item
    → IndexedSoFar (take place items) old → joined_with (known_of old item.name) place item ≡ Some after
    → ((other : List ℕ) → known_of new other ≡ cond (bytes_eq item.name other) (Some after) (known_of old other)) → IndexedSoFar (take (place + 1) items) new
indexed_more {S} {T} items place item old new after l at g e u =
    let done = take place items in
    let count : length done ≡ place = omega (arith, length-take place items) in
    let P : ℕ → Type 0 = λ n. joined_with (known_of old item.name) n item ≡ Some after in
    let f : joined_with (known_of old item.name) (length done) item ≡ Some after = subst P (sym count) e in
    let h : Agrees done item = agrees done item (known_of old item.name) after (g.indexes.knows item.name) f in
    let whole : take (place + 1) items ≡ done ++ item ∷ [] = take_more items place item l ∙ ap (λ (x : Item). done ++ x ∷ []) (sym at) in
    let Q : List Item → Type 0 = λ xs. IndexedSoFar xs new in
    subst Q (sym whole) (record { alike = alike_more done item h g.alike; once = once_more done item h g.once; indexes = indexes_more done item old new after g.indexes f u })

-- where one does not agree
parts_false : (a b : Bool) → (a && b) ≡ false → a ≡ true → b ≡ false
parts_false true b e f = e
parts_false false b e f = absurd (cc)

both_true : (a b : Bool) → not (a && b) ≡ false → (a ≡ true) × (b ≡ true)
both_true true true e = (refl, refl)
both_true true false e = absurd (cc)
both_true false b e = absurd (cc)

clash : (all done : List Item) (item : Item) (o : Option Known) → ((i : ℕ) (a : Item) → IsAt done i a → IsAt all i a) → IsAt all (length done) item → KnowsIfAny done item.name o → joined_with o (length done) item ≡ None → StaticAlike all → DefinedOnce all → ⊥
clash all done item None within here k e s d = cc
clash all done item (Some known) within here k e s d =
    let off = cond_none (is_alike known.local item.local && not (known.defined && is_some item.body)) (record { local = known.local; first = known.first; defined = known.defined || is_some item.body }) e in
    let first = k.first in
    let same : known.local ≡ item.local =
    sym (k.alike first.where_at first.item first.at first.named) ∙ s first.where_at (length done) first.item item (within first.where_at first.item first.at) here first.named in
    let twice = both_true known.defined (is_some item.body) (parts_false (is_alike known.local item.local) (not (known.defined && is_some item.body)) off (is_alike_same known.local item.local same)) in
    let other = k.defined twice.0 in
    let equal : other.where_at ≡ length done = d other.where_at (length done) other.item item (within other.where_at other.item other.at) here other.named other.has_body twice.1 in
    omega (arith, equal, at_within done other.where_at other.item other.at)

pub indexed_fails : {S : Type 0} (items : List Item) (place : ℕ) (item : Item) (names : HashMap (Bor (List ℕ)) Known S) → place < length items → item ≡ get_or items place item → IndexedSoFar (take place items) names → joined_with (known_of names item.name) place item ≡ None → StaticAlike items → ¬ DefinedOnce items
indexed_fails items place item names l at g e s d =
    let count : length (take place items) ≡ place = omega (arith, length-take place items) in
    let P : ℕ → Type 0 = λ n. joined_with (known_of names item.name) n item ≡ None in
    let Q : ℕ → Type 0 = λ n. IsAt items n item in
    clash items (take place items) item (known_of names item.name) (at_take place items) (subst Q (sym count) (at_place items place item l at)) (g.indexes.knows item.name) (subst P (sym count) e) s d

-- what the index tells
seen_declared : (items : List Item) (name : List ℕ) (place : ℕ) (o : Option Known) → KnowsIfAny items name o → IsSeenBy o place → DeclaredBy items place name
seen_declared items name place None k h = absurd h
seen_declared items name place (Some known) k h = record { where_at = k.first.where_at; item = k.first.item; at = k.first.at; before = omega (arith, k.first.before); named = k.first.named }

declared_seen : (items : List Item) (name : List ℕ) (place : ℕ) (o : Option Known) → KnowsIfAny items name o → DeclaredBy items place name → IsSeenBy o place
declared_seen items name place None k h = k h.where_at h.item h.at h.named
declared_seen items name place (Some known) k h = omega (arith, k.least h.where_at h.item h.at h.named, h.before)

is_defined : (items : List Item) (name : List ℕ) (o : Option Known) → KnowsIfAny items name o → IsDefined o → Defined items name
is_defined items name None k h = absurd h
is_defined items name (Some known) k h = k.defined h

defined_is : (items : List Item) (name : List ℕ) (o : Option Known) → KnowsIfAny items name o → Defined items name → IsDefined o
defined_is items name None k h = k h.where_at h.item h.at h.named
defined_is items name (Some known) k h = elim (cases_Bool known.defined) [ inl d ↦ d | inr d ↦ absurd (k.undefined d h.where_at h.item h.at h.named h.has_body) ]

pub keeps_names : {S : Type 0} (items : List Item) (names : HashMap (Bor (List ℕ)) Known S) → StaticAlike items → DefinedOnce items → Indexes items names → ((place : ℕ) (item : Item) → IsAt items place item → KeepsItem names place item) → KeepsNames items
keeps_names items names s d x h = record {
  declared = λ place item name at call. seen_declared items name place (known_of names name) (x.knows name) ((h place item at).calls name call);
  once = d;
  alike = s;
  static_defined = λ place item at local. is_defined items item.name (known_of names item.name) (x.knows item.name) ((h place item at).defined local);
  main_global = λ place item at main. (h place item at).main main;
}

pub names_kept : {S : Type 0} (items : List Item) (names : HashMap (Bor (List ℕ)) Known S) → Indexes items names → KeepsNames items → (place : ℕ) (item : Item) → IsAt items place item → KeepsItem names place item
names_kept items names x h place item at = record {
  calls = λ name call. declared_seen items name place (known_of names name) (x.knows name) (h.declared place item name at call);
  defined = λ local. defined_is items item.name (known_of names item.name) (x.knows item.name) (h.static_defined place item at local);
  main = λ main. h.main_global place item at main;
}

-- a list of which each item up to a place keeps the rules
pub kept_more : (P : ℕ → Item → Type 0) (items : List Item) (n : ℕ) (item : Item) → ((i : ℕ) (a : Item) → i < n → IsAt items i a → P i a) → IsAt items n item → P n item → (i : ℕ) (a : Item) → i < n + 1 → IsAt items i a → P i a
kept_more P items n item h at p i a l e = elim (lower i n (omega arith)) [ inl k ↦ h i a k e | inr k ↦ here P items n i item a k at e p ]
  where
    lower : (i n : ℕ) → i ≤ n → (i < n) ⊎ (n ≡ i)
    lower zero zero l = inr refl
    lower zero (suc n) l = inl (omega arith)
    lower (suc i) zero l = absurd (omega arith)
    lower (suc i) (suc n) l = elim (lower i n (omega arith)) [ inl k ↦ inl (omega arith) | inr k ↦ inr (ap suc k) ]

    here : (P : ℕ → Item → Type 0) (items : List Item) (n i : ℕ) (item a : Item) → n ≡ i → IsAt items n item → IsAt items i a → P n item → P i a
    here P items n i item a k at e p =
        let f : Some item ≡ Some a = sym at ∙ ap (λ (j : ℕ). slice_get items j) k ∙ e in
        let same : item ≡ a = cc in
        let Q : ℕ → Type 0 = λ j. P j item in
        let R : Item → Type 0 = P i in
        subst R same (subst Q k p)
