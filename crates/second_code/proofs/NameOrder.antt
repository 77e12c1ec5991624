-- The first of a unit's names that passes a test is the same in the order of its symbols and in that of its items.
use Rattle.std.specs.Prelude.{◌≡◌, ℕ, suc, ◌+◌, ◌<◌, ◌≤◌, List, [], ◌∷◌, ◌++◌, length, map, filter, find, get_or, cond, if◌then◌else◌, slice_get, Contains, All, Option, Some, None, Bool, true, false, not, ◌&&◌, codes}
use Rattle.std.specs.List.{list_any}
use Rattle.std.specs.Option.{option_or}
use Rattle.std.specs.Str.{bytes_eq}
use Rattle.std.proofs.Common.{arith, ◌∙◌, ap, sym, refl, subst, inl, inr, length-append, append_assoc}
use Rattle.std.proofs.lemmas.Option.{same_Some}
use Rattle.std.proofs.lemmas.List.Elements.{All-cons, filter_passes}
use Rattle.std.proofs.lemmas.List.Folds.{find-append}
use Rattle.std.proofs.lemmas.Slice.Eq.{bytes_eq-Decides}
use Rattle.indexmap.specs.IndexSet.{insert_all, insert_key}
use Rattle.second_form.specs.declared.second_items.SmallStmt.{SmallStmt}
use Rattle.second_form.specs.declared.second_items.SmallStmt.TheVariants.{Put, Call, Return}
use Rattle.second_form.specs.declared.second_items.Item.{Item}
use Rattle.second_form.specs.SecondForm.{IsAt, HasCall, CallsAreDeclared, DeclaredBy}
use Rattle.second_form.specs.SecondFaults.{names_of}
use Rattle.second_code.specs.Parts as Parts
use Rattle.second_code.proofs.OneDefinition.{order}
use Rattle.second_code.proofs.Tests.{one_of, find_none}

-- a search in what a filter leaves
pub find_filter : (q p : List ℕ → Bool) (xs : List (List ℕ)) → ((x : List ℕ) → q x ≡ true → p x ≡ true) → find q (filter p xs) ≡ find q xs
find_filter q p [] h = refl
find_filter q p (x ∷ xs) h = by (find_filter q p xs h) (p x) refl (q x) refl
  where
    by : find q (filter p xs) ≡ find q xs → (b : Bool) → p x ≡ b → (c : Bool) → q x ≡ c → find q (if b then x ∷ filter p xs else filter p xs) ≡ cond c (Some x) (find q xs)
    by more true e c f = ap (λ (c : Bool). cond c (Some x) (find q (filter p xs))) f ∙ ap (λ (o : Option (List ℕ)). cond c (Some x) o) more
    by more false e true f = let clash : true ≡ false = sym (h x f) ∙ e in cc
    by more false e false f = more

pub find_both : (p q : List ℕ → Bool) (xs : List (List ℕ)) → find q (filter p xs) ≡ find (λ x. p x && q x) xs
find_both p q [] = refl
find_both p q (x ∷ xs) = by (find_both p q xs) (p x)
  where
    by : find q (filter p xs) ≡ find (λ x. p x && q x) xs → (b : Bool) → find q (if b then x ∷ filter p xs else filter p xs) ≡ cond (b && q x) (Some x) (find (λ x. p x && q x) xs)
    by more true = ap (λ (o : Option (List ℕ)). cond (q x) (Some x) o) more
    by more false = more

find_away : (q : List ℕ → Bool) (x : List ℕ) (xs : List (List ℕ)) → q x ≡ false → find q (filter (λ n. not (bytes_eq x n)) xs) ≡ find q xs
find_away q x xs e = find_filter q (λ n. not (bytes_eq x n)) xs (λ n t. by n t (bytes_eq x n) refl)
  where
    by : (n : List ℕ) → q n ≡ true → (b : Bool) → bytes_eq x n ≡ b → not b ≡ true
    by n t true f = let clash : true ≡ false = sym t ∙ ap q (sym ((bytes_eq-Decides x n).0 f)) ∙ e in cc
    by n t false f = refl

-- two searches that begin with the same element
found_alike : (x : List ℕ) (a b : Option (List ℕ)) (c d : Bool) → c ≡ d → (d ≡ false → a ≡ b) → cond c (Some x) a ≡ cond c (Some x) b
found_alike x a b c true e h = ap (λ (c : Bool). cond c (Some x) a) e ∙ sym (ap (λ (c : Bool). cond c (Some x) b) e)
found_alike x a b c false e h = ap (λ (c : Bool). cond c (Some x) a) e ∙ h refl ∙ sym (ap (λ (c : Bool). cond c (Some x) b) e)

names_first : (q : List ℕ → Bool) (items : List Item) → find q (names_of items) ≡ find q (map (λ item. item.name) items)
names_first q [] = refl
names_first q (item ∷ items) =
    found_alike item.name (find q (filter (λ name. not (bytes_eq item.name name)) (names_of items))) (find q (map (λ item. item.name) items)) (q item.name) (q item.name) refl
    (λ e. find_away q item.name (names_of items) e ∙ names_first q items)

-- a search in names that are each kept once
or_nothing : (o : Option (List ℕ)) → o ≡ option_or o None
or_nothing None = refl
or_nothing (Some x) = refl

or_or : (a b c : Option (List ℕ)) → option_or (option_or a b) c ≡ option_or a (option_or b c)
or_or None b c = refl
or_or (Some x) b c = refl

or_some : (y : List ℕ) (a b c : Option (List ℕ)) → a ≡ Some y → option_or a b ≡ option_or a c
or_some y a b c e = ap (λ (o : Option (List ℕ)). option_or o b) e ∙ sym (ap (λ (o : Option (List ℕ)). option_or o c) e)

one_or : (c : Bool) (x : List ℕ) (o : Option (List ℕ)) → option_or (cond c (Some x) None) o ≡ cond c (Some x) o
one_or true x o = refl
one_or false x o = refl

is_found : (q : List ℕ → Bool) (x : List ℕ) (keys : List (List ℕ)) → list_any (bytes_eq x) keys ≡ true → q x ≡ true → (y : List ℕ) × (find q keys ≡ Some y)
is_found q x [] t e = let clash : false ≡ true = t in cc
is_found q x (key ∷ keys) t e = by (λ m. is_found q x keys m e) (q key) refl
  where
    by : (list_any (bytes_eq x) keys ≡ true → (y : List ℕ) × (find q keys ≡ Some y)) → (b : Bool) → q key ≡ b → (y : List ℕ) × (cond b (Some key) (find q keys) ≡ Some y)
    by rest true f = (key, refl)
    by rest false f =
        elim (one_of (bytes_eq x key) (list_any (bytes_eq x) keys) t) [
          | inl here ↦ let clash : true ≡ false = sym e ∙ ap q ((bytes_eq-Decides x key).0 here) ∙ f in cc
          | inr more ↦ rest more
        ]

sights_first : (q : List ℕ → Bool) (xs keys : List (List ℕ)) → find q (insert_all bytes_eq keys xs) ≡ option_or (find q keys) (find q xs)
sights_first q [] keys = or_nothing (find q keys)
sights_first q (x ∷ xs) keys = sights_first q xs (insert_key bytes_eq keys x) ∙ step (list_any (bytes_eq x) keys) refl (q x) refl
  where
    step : (b : Bool) → list_any (bytes_eq x) keys ≡ b → (c : Bool) → q x ≡ c → option_or (find q (if b then keys else keys ++ x ∷ [])) (find q xs) ≡ option_or (find q keys) (cond c (Some x) (find q xs))
    step true t true e = let f = is_found q x keys t e in or_some f.0 (find q keys) (find q xs) (Some x) f.1
    step true t false e = refl
    step false t c e =
        ap (λ (o : Option (List ℕ)). option_or o (find q xs)) (find-append q keys (x ∷ []))
        ∙ or_or (find q keys) (cond (q x) (Some x) None) (find q xs)
        ∙ ap (λ (o : Option (List ℕ)). option_or (find q keys) o) (one_or (q x) x (find q xs) ∙ ap (λ (c : Bool). cond c (Some x) (find q xs)) e)

-- what a body calls
calls_all : (P : List ℕ → Type 0) → P (codes "putbyte") → (body : List SmallStmt) (at : ℕ) → ((name : List ℕ) → Contains body (Call name) → P name) → All P (map (λ call. call.callee) (Parts.uses_from at body))
calls_all P p [] at h = λ k d l. absurd (omega (arith, l))
calls_all P p (Put n ∷ body) at h = All-cons P _ _ p (calls_all P p body (at + 12) (λ name c. h name (suc c.0, (let l = c.1 in omega (arith, l)), c.2)))
calls_all P p (Call name ∷ body) at h = All-cons P _ _ (h name (0, omega arith, refl)) (calls_all P p body (at + 5) (λ name c. h name (suc c.0, (let l = c.1 in omega (arith, l)), c.2)))
calls_all P p (Return n ∷ body) at h = calls_all P p body (at + 6) (λ name c. h name (suc c.0, (let l = c.1 in omega (arith, l)), c.2))

any_calls : (P : List ℕ → Type 0) → P (codes "putbyte") → (o : Option (List SmallStmt)) → ((name : List ℕ) → HasCall o name → P name) → All P (map (λ call. call.callee) (Parts.uses_from 0 (Parts.body_of o)))
any_calls P p None h = λ k d l. absurd (omega (arith, l))
any_calls P p (Some body) h = calls_all P p body 0 h

seam_at : (before rest : List Item) (item : Item) → IsAt (before ++ item ∷ rest) (length before) item
seam_at [] rest item = refl
seam_at (first ∷ before) rest item = seam_at before rest item

-- each called name stands in an item before
named_first : (q : List ℕ → Bool) → q (codes "putbyte") ≡ false → (items before after : List Item) → items ≡ before ++ after → CallsAreDeclared items
    → ((place : ℕ) (item : Item) → IsAt items place item → place < length before → q item.name ≡ false) → find q (Parts.named after) ≡ find q (map (λ item. item.name) after)
named_first q none items before [] e declared earlier = refl
named_first q none items before (item ∷ after) e declared earlier =
    found_alike item.name (find q (map (λ call. call.callee) (Parts.uses_from 0 (Parts.body_of item.body)) ++ Parts.named after)) (find q (map (λ item. item.name) after)) (q item.name) (q item.name) refl
    (λ f. more f
    (named_first q none items (before ++ item ∷ []) after (e ∙ sym (append_assoc before (item ∷ []) after)) declared
    (λ place other at l. not_after f place other at (let n = length-append before (item ∷ []) in omega (arith, l, n)))))
  where
    here : IsAt items (length before) item
    here = let P : List Item → Type 0 = λ is. IsAt is (length before) item in subst P (sym e) (seam_at before after item)

    not_after : q item.name ≡ false → (place : ℕ) (other : Item) → IsAt items place other → place ≤ length before → q other.name ≡ false
    not_after f place other at l =
        elim (order place (length before)) [
          | inl less ↦ earlier place other at less
          | inr more ↦
              elim more [
                | inl same ↦
                    let found : item ≡ other = same_Some item other (sym here ∙ ap (λ (k : ℕ). slice_get items k) (sym same) ∙ at) in
                    ap (λ (i : Item). q i.name) (sym found) ∙ f
                | inr beyond ↦ absurd (omega (arith, l, beyond))
              ]
        ]

    more : q item.name ≡ false → find q (Parts.named after) ≡ find q (map (λ item. item.name) after)
        → find q (map (λ call. call.callee) (Parts.uses_from 0 (Parts.body_of item.body)) ++ Parts.named after) ≡ find q (map (λ item. item.name) after)
    more f rest =
        let callees = map (λ call. call.callee) (Parts.uses_from 0 (Parts.body_of item.body)) in
        let nothing : find q callees ≡ None =
        find_none q callees (any_calls (λ name. q name ≡ false) none item.body
        (λ name call. let d : DeclaredBy items (length before) name = declared (length before) item name here call in ap q (sym d.named) ∙ not_after f d.where_at d.item d.at d.before)) in
        find-append q callees (Parts.named after) ∙ ap (λ (o : Option (List ℕ)). option_or o (find q (Parts.named after))) nothing ∙ rest

-- in the order of the symbols, and in that of the items
pub order_same : (q : List ℕ → Bool) (items : List Item) → q (codes "putbyte") ≡ false → CallsAreDeclared items
    → ((name : List ℕ) → q name ≡ true → Parts.is_shared items name ≡ true) → ((name : List ℕ) → q name ≡ true → Parts.is_static (Parts.definition_from 0 items name) ≡ false)
    → find q (Parts.symbol_names items) ≡ find q (names_of items)
order_same q items none declared shared global =
    let sights = Parts.first_sights items in
    let static : List ℕ → Bool = λ name. Parts.is_static (Parts.definition_from 0 items name) in
    let no_static : find q (filter static sights) ≡ None = find_none q (filter static sights) (λ k d h. by (get_or (filter static sights) k d) (filter_passes static sights k d h) (q (get_or (filter static sights) k d)) refl) in
    find-append q (filter static sights) (filter (Parts.is_shared items) sights)
    ∙ ap (λ (o : Option (List ℕ)). option_or o (find q (filter (Parts.is_shared items) sights))) no_static
    ∙ find_filter q (Parts.is_shared items) sights shared
    ∙ sights_first q (Parts.named items) []
    ∙ named_first q none items [] items refl declared (λ place item at l. absurd (omega (arith, l)))
    ∙ sym (names_first q items)
  where
    by : (name : List ℕ) → Parts.is_static (Parts.definition_from 0 items name) ≡ true → (b : Bool) → q name ≡ b → b ≡ false
    by name s true t = let clash : true ≡ false = sym s ∙ global name t in cc
    by name s false t = refl
