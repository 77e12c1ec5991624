-- What a name means in the second form and what it means in the typed units: the same function.
use Rattle.std.proofs.Common.{◌≡◌, ℕ, ◌+◌, zero, suc, Bool, true, false, not, ◌&&◌, cond, List, [], ◌∷◌, position, slice_get, Option, Some, None, refl, sym, ap, ◌∙◌, subst, arith}
use Rattle.std.specs.Prelude.{option_map, slice_index_or}
use Rattle.std.specs.List.{position_from}
use Rattle.std.specs.Option.{option_or}
use Rattle.std.specs.Str.{bytes_eq}
use Rattle.std.proofs.Math.Bool.{and_comm}
use Rattle.std.proofs.lemmas.Iterator.Adapters.{position_from-zero}
use Rattle.cc_base.specs.Faces.{first_answer}
use Rattle.clight_unit.specs.declared.unit.ClightUnit.{ClightUnit as TypedUnit}
use Rattle.clight_unit.specs.declared.function.Function.{Function}
use Rattle.unit_names.specs.declared.meaning.Meaning.{Meaning as Typed}
use Rattle.unit_names.specs.declared.meaning.Meaning.TheVariants as meaning
use Rattle.clight_sem.specs.Functions.{is_function_named, is_shown, function_in, shown_function}
use Rattle.second_form.specs.declared.second_items.SmallStmt.{SmallStmt}
use Rattle.second_form.specs.declared.second_items.Item.{Item}
use Rattle.second_form.specs.SecondRun.{Meaning, body_or, own, shown, meaning_or, shown_by, means}
use Rattle.second_runs.specs.Mirrors.{Does, IsFunction, Bodied, AreFunctions, Mirrors, AllMirror}

-- the body of the first item that passes a test and has one
abbrev body_by : (Item → Bool) → List Item → Option (List SmallStmt)
body_by p [] = None
body_by p (item ∷ items) = body_or (p item) item.body (body_by p items)

own_by : (name : List ℕ) (items : List Item) → own items name ≡ body_by (λ item. bytes_eq item.name name) items
own_by name [] = refl
own_by name (item ∷ items) = ap (body_or (bytes_eq item.name name) item.body) (own_by name items)

shown_as : (name : List ℕ) (items : List Item) → shown items name ≡ body_by (λ item. bytes_eq item.name name && not item.local) items
shown_as name [] = refl
shown_as name (item ∷ items) =
    ap (body_or (not item.local && bytes_eq item.name name) item.body) (shown_as name items)
    ∙ ap (λ b. body_or b item.body (body_by (λ (item : Item). bytes_eq item.name name && not item.local) items)) (and_comm (not item.local) (bytes_eq item.name name))

-- where the second form finds a body there is a function at the place found that does it, and else none is found
abbrev pub Looked : TypedUnit → ℕ → List Function → Option (List SmallStmt) → Option ℕ → Type 0
Looked u k fs None r = r ≡ None
Looked u k fs (Some body) r = (i : ℕ) × (f : Function) × (r ≡ Some (k + i)) × (slice_get fs i ≡ Some f) × Does u body f

module _ (u : TypedUnit) (p : Item → Bool) (test : Function → Bool) (agrees : (item : Item) (body : List SmallStmt) (f : Function) → IsFunction u item body f → test f ≡ p item) where
  passed_over : (k : ℕ) (f : Function) (fs : List Function) (body : Option (List SmallStmt)) (r : Option ℕ) → Looked u (k + 1) fs body r → Looked u k (f ∷ fs) body r
  passed_over k f fs None r h = h
  passed_over k f fs (Some body) r h =
      let later : k + 1 + h.0 ≡ k + suc h.0 = omega arith in
      (suc h.0, h.1, h.2 ∙ ap (λ n. Some n) later, h.3, h.4)

  bodiless : (b : Bool) (others : Option (List SmallStmt)) → body_or b None others ≡ others
  bodiless true others = refl
  bodiless false others = refl

  chosen : (k : ℕ) (body : List SmallStmt) (f : Function) (fs : List Function) (others : Option (List SmallStmt)) (r : Option ℕ) (b : Bool)
      → Does u body f → Looked u (k + 1) fs others r → Looked u k (f ∷ fs) (body_or b (Some body) others) (cond b (Some k) r)
  chosen k body f fs others r true does h = let first : k ≡ k + 0 = omega arith in (0, f, ap (λ n. Some n) first, refl, does)
  chosen k body f fs others r false does h = passed_over k f fs others r h

  -- of an item with or without a body, where so it is of the items behind it
  looked_at : (item : Item) (body : Option (List SmallStmt)) (items : List Item) → ((fs : List Function) (k : ℕ) → AreFunctions u items fs → Looked u k fs (body_by p items) (position_from test k fs))
      → (fs : List Function) (k : ℕ) → Bodied u (AreFunctions u items) item body fs → Looked u k fs (body_or (p item) body (body_by p items)) (position_from test k fs)
  looked_at item None items others fs k h =
      subst (λ rest. Looked u k fs rest (position_from test k fs)) (sym (bodiless (p item) (body_by p items))) (others fs k h)
  looked_at item (Some body) items others [] k h = absurd h
  looked_at item (Some body) items others (f ∷ fs) k h =
      let later : Looked u (k + 1) fs (body_by p items) (position_from test (k + 1) fs) = others fs (k + 1) h.1 in
      subst (λ b. Looked u k (f ∷ fs) (body_or b (Some body) (body_by p items)) (position_from test k (f ∷ fs))) (agrees item body f h.0)
      (chosen k body f fs (body_by p items) (position_from test (k + 1) fs) (test f) h.0.does later)

  looked : (items : List Item) (fs : List Function) (k : ℕ) → AreFunctions u items fs → Looked u k fs (body_by p items) (position_from test k fs)
  looked [] fs k h = ap (position_from test k) h
  looked (item ∷ items) fs k h = looked_at item item.body items (looked items) fs k h

-- a meaning in the second form is this function of the typed units
pub record IsMeant (all : List TypedUnit) (m : Meaning) (r : Option Typed) : Type 0 where
  pub u : TypedUnit
  pub index : ℕ
  pub f : Function
  pub is : r ≡ Some (meaning.Function m.unit index)
  pub at : slice_get all m.unit ≡ Some u
  pub place : slice_get u.functions index ≡ Some f
  pub does : Does u m.body f

abbrev pub SameMeaning : List TypedUnit → Option Meaning → Option Typed → Type 0
SameMeaning all None r = r ≡ None
SameMeaning all (Some m) r = IsMeant all m r

abbrev index_as : ℕ → Option ℕ → Option Typed
index_as unit r = option_map (λ index. meaning.Function unit index) r

-- what is found in a unit, and else what others are
in_unit : (all : List TypedUnit) (n : ℕ) (u : TypedUnit) → slice_get all n ≡ Some u → (body : Option (List SmallStmt)) (r : Option ℕ) → Looked u 0 u.functions body r
    → (other : Option Meaning) (typed : Option Typed) → SameMeaning all other typed → SameMeaning all (meaning_or n body other) (option_or (index_as n r) typed)
in_unit all n u at None r h other typed same = subst (λ r. SameMeaning all other (option_or (index_as n r) typed)) (sym h) same
in_unit all n u at (Some body) r h other typed same =
    record {
      u = u;
      index = h.0;
      f = h.1;
      is = ap (λ r. option_or (index_as n r) typed) (h.2 ∙ ap (λ i. Some i) (let e : 0 + h.0 ≡ h.0 = omega arith in e));
      at = at;
      place = h.3;
      does = h.4;
    }

looked_own : (u : TypedUnit) (items : List Item) (name : List ℕ) → Mirrors items u → Looked u 0 u.functions (own items name) (position (is_function_named u name) u.functions)
looked_own u items name h =
    subst (λ b. Looked u 0 u.functions b (position (is_function_named u name) u.functions)) (sym (own_by name items))
    (subst (λ r. Looked u 0 u.functions (body_by (λ (item : Item). bytes_eq item.name name) items) r) (sym (position_from-zero (is_function_named u name) u.functions))
    (looked u (λ (item : Item). bytes_eq item.name name) (is_function_named u name) (λ item body f is. ap (λ n. bytes_eq n name) is.named) items u.functions 0 h.functions))

looked_shown : (u : TypedUnit) (items : List Item) (name : List ℕ) → Mirrors items u → Looked u 0 u.functions (shown items name) (position (is_shown u name) u.functions)
looked_shown u items name h =
    subst (λ b. Looked u 0 u.functions b (position (is_shown u name) u.functions)) (sym (shown_as name items))
    (subst (λ r. Looked u 0 u.functions (body_by (λ (item : Item). bytes_eq item.name name && not item.local) items) r) (sym (position_from-zero (is_shown u name) u.functions))
    (looked u (λ (item : Item). bytes_eq item.name name && not item.local) (is_shown u name) (λ item body f is. ap (λ n. bytes_eq n name && not f.is_static) is.named ∙ ap (λ b. bytes_eq item.name name && not b) is.static) items u.functions 0 h.functions))

-- what the first of some units shows
pub shown_same : (all : List TypedUnit) (name : List ℕ) (units : List (List Item)) (us : List TypedUnit) (n : ℕ) → AllMirror units us
    → ((i : ℕ) (u : TypedUnit) → slice_get us i ≡ Some u → slice_get all (n + i) ≡ Some u)
    → SameMeaning all (shown_by n units name) (first_answer (function_in (λ u. is_shown u name)) n us)
shown_same all name [] us n h there = ap (first_answer (function_in (λ u. is_shown u name)) n) h
shown_same all name (items ∷ units) [] n h there = absurd h
shown_same all name (items ∷ units) (u ∷ us) n h there =
    let next : suc n ≡ n + 1 = omega arith in
    let first : slice_get all n ≡ Some u = subst (λ k. slice_get all k ≡ Some u) (let e : n + 0 ≡ n = omega arith in e) (there 0 u refl) in
    let later : SameMeaning all (shown_by (n + 1) units name) (first_answer (function_in (λ u. is_shown u name)) (n + 1) us) =
    shown_same all name units us (n + 1) h.1 (λ i v e. subst (λ k. slice_get all k ≡ Some v) (let e : n + suc i ≡ n + 1 + i = omega arith in e) (there (suc i) v e)) in
    in_unit all n u first (shown items name) (position (is_shown u name) u.functions) (looked_shown u items name h.0)
    (shown_by (suc n) units name) (first_answer (function_in (λ u. is_shown u name)) (n + 1) us)
    (subst (λ k. SameMeaning all (shown_by k units name) (first_answer (function_in (λ u. is_shown u name)) (n + 1) us)) (sym next) later)

pub shown_by_all : (all : List TypedUnit) (name : List ℕ) (units : List (List Item)) → AllMirror units all → SameMeaning all (shown_by 0 units name) (shown_function all name)
shown_by_all all name units h =
    shown_same all name units all 0 h (λ i u e. subst (λ k. slice_get all k ≡ Some u) (let z : i ≡ 0 + i = omega arith in z) e)

-- the items of a unit
pub mirror_at : (units : List (List Item)) (us : List TypedUnit) (i : ℕ) (u : TypedUnit) → AllMirror units us → slice_get us i ≡ Some u → Mirrors (slice_index_or units i []) u
mirror_at [] us i u h at = let none : slice_get us i ≡ None = ap (λ us. slice_get us i) h in let x = sym none ∙ at in cc
mirror_at (items ∷ units) [] i u h at = absurd h
mirror_at (items ∷ units) (v ∷ us) zero u h at = let e : v ≡ u = cc in subst (λ v. Mirrors items v) e h.0
mirror_at (items ∷ units) (v ∷ us) (suc i) u h at = mirror_at units us i u h.1 at

-- what a name means in a unit
abbrev pub typed_meaning : List TypedUnit → ℕ → TypedUnit → List ℕ → Option Typed
typed_meaning all unit u name = option_or (function_in (λ v. is_function_named v name) unit u) (shown_function all name)

pub meant_same : (units : List (List Item)) (all : List TypedUnit) (unit : ℕ) (u : TypedUnit) (name : List ℕ) → AllMirror units all → slice_get all unit ≡ Some u
    → SameMeaning all (means units unit name) (typed_meaning all unit u name)
meant_same units all unit u name h at =
    let items = slice_index_or units unit [] in
    in_unit all unit u at (own items name) (position (is_function_named u name) u.functions) (looked_own u items name (mirror_at units all unit u h at))
    (shown_by 0 units name) (shown_function all name) (shown_by_all all name units h)
