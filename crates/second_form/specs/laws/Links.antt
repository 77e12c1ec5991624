-- In a linkable list of units each called name means a function, and so a run never goes wrong.
use Rattle.std.specs.Prelude.{◌≡◌, ◌≢◌, ℕ, zero, suc, ◌+◌, ◌<◌, List, [], ◌∷◌, ◌++◌, length, codes, find, filter, slice_get, slice_index_or, All, Contains, Bool, true, false, not, ◌&&◌, ◌||◌, cond, nat_le, Option, Some, None, is_some, IsSome, ◌⊎◌}
use Rattle.std.proofs.Common.{refl, sym, ◌∙◌, ap, subst, arith, inl, inr}
use Rattle.std.specs.List.{AllByRecursion, list_any}
use Rattle.std.specs.Str.{bytes_eq}
use Rattle.std.proofs.lemmas.Bool.{cases_Bool}
use Rattle.std.proofs.lemmas.List.Elements.{recursion_from_All}
use Rattle.std.proofs.lemmas.List.Folds.{list_any_at}
use Rattle.std.proofs.lemmas.Slice.Eq.{bytes_eq-Decides}
use Rattle.cc_base.specs.declared.run.Act.{Act}
use Rattle.cc_base.specs.declared.run.Outcome.TheVariants.{Wrong, Deep}
use Rattle.second_form.specs.declared.second_items.SmallStmt.{SmallStmt}
use Rattle.second_form.specs.declared.second_items.SmallStmt.TheVariants.{Put, Call, Return}
use Rattle.second_form.specs.declared.second_items.Item.{Item}
use Rattle.second_form.specs.SecondForm.{IsAt, HasCall, IsItem, IsBodyIfAny, EndsReturning, CallsAreDeclared}
use Rattle.second_form.specs.SecondRun.{Meaning, body_or, own, shown, meaning_or, shown_by, means, main_of, stack_room, Frame, frame_of, needs, Run, Going, Over, called, turn_of, turn, run_after, seen_of, second_after}
use Rattle.second_form.specs.SecondFaults.{is_call_of, has_call_of, names_of, is_shown, is_wanted, wanted_names, SourceFault, Doubled, Unresolved, fault_or, doubled_or, unresolved, Linkable}

-- an element of a list
abbrev Among : List ℕ → List (List ℕ) → Type 0
Among name [] = ⊥
Among name (x ∷ xs) = (x ≡ name) ⊎ Among name xs

none_found : (p : List ℕ → Bool) (xs : List (List ℕ)) (name : List ℕ) → find p xs ≡ None → Among name xs → p name ≡ false
none_found p [] name e a = absurd a
none_found p (x ∷ xs) name e a =
    elim (cases_Bool (p x)) [
      | inl t ↦ let f : cond (p x) (Some x) (find p xs) ≡ Some x = ap (λ (b : Bool). cond b (Some x) (find p xs)) t in let g : Some x ≡ None = sym f ∙ e in absurd (cc)
      | inr n ↦
          let rest : find p xs ≡ None = ap (λ (b : Bool). cond b (Some x) (find p xs)) (sym n) ∙ e in
          elim a [ inl same ↦ ap p (sym same) ∙ n | inr more ↦ none_found p xs name rest more ]
    ]

kept_if : (b : Bool) (x name : List ℕ) (xs : List (List ℕ)) → Among name xs → Among name (cond b (x ∷ xs) xs)
kept_if true x name xs a = inr a
kept_if false x name xs a = a

first_kept : (b : Bool) (x name : List ℕ) (xs : List (List ℕ)) → b ≡ true → x ≡ name → Among name (cond b (x ∷ xs) xs)
first_kept true x name xs t e = inl e
first_kept false x name xs t e = absurd (cc)

kept : (p : List ℕ → Bool) (xs : List (List ℕ)) (name : List ℕ) → Among name xs → p name ≡ true → Among name (filter p xs)
kept p [] name a t = a
kept p (x ∷ xs) name a t =
    elim a [
      | inl same ↦ first_kept (p x) x name (filter p xs) (ap p same ∙ t) same
      | inr more ↦ kept_if (p x) x name (filter p xs) (kept p xs name more t)
    ]

-- the name of an item is one of the unit's names
named : (items : List Item) (place : ℕ) (item : Item) → IsAt items place item → Among item.name (names_of items)
named [] place item at = absurd (cc)
named (first ∷ items) zero item at = let same : first ≡ item = cc in inl (ap (λ (i : Item). i.name) same)
named (first ∷ items) (suc place) item at =
    elim (cases_Bool (bytes_eq first.name item.name)) [
      | inl t ↦ inl ((bytes_eq-Decides first.name item.name).0 t)
      | inr n ↦ inr (kept (λ name. not (bytes_eq first.name name)) (names_of items) item.name (named items place item at) (ap not n))
    ]

any_at : (p : Item → Bool) (items : List Item) (place : ℕ) (item : Item) → IsAt items place item → p item ≡ true → list_any p items ≡ true
any_at p [] place item at t = absurd (cc)
any_at p (first ∷ items) zero item at t = let same : first ≡ item = cc in ap (λ (b : Bool). b || list_any p items) (ap p same ∙ t)
any_at p (first ∷ items) (suc place) item at t = or_true (p first) (list_any p items) (any_at p items place item at t)
  where
    or_true : (a b : Bool) → b ≡ true → (a || b) ≡ true
    or_true true b e = refl
    or_true false b e = e

has_call : (body : Option (List SmallStmt)) (name : List ℕ) → HasCall body name → has_call_of name body ≡ true
has_call None name h = absurd h
has_call (Some ss) name h = list_any_at (is_call_of name) ss h.0 (Call name) h.1 (ap (is_call_of name) h.2 ∙ (bytes_eq-Decides name name).1 refl)

-- what a linkable list has
fault_none : (fault : List ℕ → SourceFault) (o : Option (List ℕ)) (others : Option SourceFault) → fault_or fault o others ≡ None → (o ≡ None) × (others ≡ None)
fault_none fault None others e = (refl, e)
fault_none fault (Some name) others e = absurd (cc)

not_doubled : (earlier : List (List Item)) (number : ℕ) (units : List (List Item)) (others : Option SourceFault) → doubled_or earlier number units others ≡ None → others ≡ None
not_doubled earlier number [] others e = e
not_doubled earlier number (unit ∷ units) others e =
    not_doubled (earlier ++ unit ∷ []) (suc number) units others (fault_none (Doubled number) (find (λ name. list_any (is_shown name) earlier) (filter (λ name. is_shown name unit) (names_of unit))) (doubled_or (earlier ++ unit ∷ []) (suc number) units others) e).1

resolved_at : (all : List (List Item)) (number : ℕ) (units : List (List Item)) (i : ℕ) (items : List Item) → unresolved all number units ≡ None → slice_get units i ≡ Some items → find (λ name. not (list_any (is_shown name) all)) (wanted_names items) ≡ None
resolved_at all number [] i items e at = absurd (cc)
resolved_at all number (unit ∷ units) zero items e at =
    let same : unit ≡ items = cc in
    let P : List Item → Type 0 = λ is. find (λ name. not (list_any (is_shown name) all)) (wanted_names is) ≡ None in
    subst P same (fault_none (Unresolved number) (find (λ name. not (list_any (is_shown name) all)) (wanted_names unit)) (unresolved all (suc number) units) e).0
resolved_at all number (unit ∷ units) (suc i) items e at =
    resolved_at all (suc number) units i items (fault_none (Unresolved number) (find (λ name. not (list_any (is_shown name) all)) (wanted_names unit)) (unresolved all (suc number) units) e).1 at

cond_none : (b : Bool) (x : SourceFault) → cond b None (Some x) ≡ None → b ≡ true
cond_none true x e = refl
cond_none false x e = absurd (cc)

main_shown : (all : List (List Item)) (number : ℕ) (units : List (List Item)) → unresolved all number units ≡ None → list_any (is_shown (codes "main")) all ≡ true
main_shown all number [] e = cond_none (list_any (is_shown (codes "main")) all) (Unresolved number (codes "main")) e
main_shown all number (unit ∷ units) e =
    main_shown all (suc number) units (fault_none (Unresolved number) (find (λ name. not (list_any (is_shown name) all)) (wanted_names unit)) (unresolved all (suc number) units) e).1

some_meaning : (number : ℕ) (o : Option (List SmallStmt)) (b : Bool) (others : Option Meaning) → (is_some o || b) ≡ true → (b ≡ true → IsSome others) → IsSome (meaning_or number o others)
some_meaning number (Some body) b others e h = refl
some_meaning number None b others e h = h e

shown_some : (number : ℕ) (units : List (List Item)) (name : List ℕ) → list_any (is_shown name) units ≡ true → IsSome (shown_by number units name)
shown_some number [] name e = absurd (cc)
shown_some number (unit ∷ units) name e = some_meaning number (shown unit name) (list_any (is_shown name) units) (shown_by (suc number) units name) e (λ h. shown_some (suc number) units name h)

pub main_some : (units : List (List Item)) → Linkable units → IsSome (main_of units)
main_some units e = shown_some 0 units (codes "main") (main_shown units 0 units (not_doubled [] 0 units (unresolved units 0 units) e))

unit_at : (units : List (List Item)) (i : ℕ) (items : List Item) → slice_get units i ≡ Some items → slice_index_or units i [] ≡ items
unit_at [] i items at = absurd (cc)
unit_at (unit ∷ units) zero items at = cc
unit_at (unit ∷ units) (suc i) items at = unit_at units i items at

not_not : (b : Bool) → not b ≡ false → b ≡ true
not_not true e = refl
not_not false e = absurd (cc)

own_or_shared : (number : ℕ) (o : Option (List SmallStmt)) (others : Option Meaning) → (o ≡ None → IsSome others) → IsSome (meaning_or number o others)
own_or_shared number None others h = h refl
own_or_shared number (Some body) others h = refl

-- a called name means a function
pub call_means : (units : List (List Item)) (i : ℕ) (items : List Item) (place : ℕ) (item : Item) (name : List ℕ) → Linkable units → slice_get units i ≡ Some items → CallsAreDeclared items → IsAt items place item → HasCall item.body name → IsSome (means units i name)
call_means units i items place item name e at declared here call =
    own_or_shared i (own (slice_index_or units i []) name) (shown_by 0 units name)
    (λ none.
    let d = declared place item name here call in
    let undefined : own items name ≡ None = ap (λ (is : List Item). own is name) (sym (unit_at units i items at)) ∙ none in
    let among : Among name (names_of items) = let P : List ℕ → Type 0 = λ n. Among n (names_of items) in subst P d.named (named items d.where_at d.item d.at) in
    let calls : list_any (λ a. has_call_of name a.body) items ≡ true = any_at (λ a. has_call_of name a.body) items place item here (has_call item.body name call) in
    let wanted : is_wanted name items ≡ true =
    ap (λ (b : Bool). b && not (is_some (own items name))) calls ∙ ap (λ (o : Option (List SmallStmt)). true && not (is_some o)) undefined in
    let found = resolved_at units 0 units i items (not_doubled [] 0 units (unresolved units 0 units) e) at in
    shown_some 0 units name (not_not (list_any (is_shown name) units) (none_found (λ n. not (list_any (is_shown n) units)) (wanted_names items) name found (kept (λ n. is_wanted n items) (names_of items) name among wanted))))

-- units of the form
pub record AreUnits (units : List (List Item)) : Type 0 where
  pub each : (i : ℕ) (items : List Item) → slice_get units i ≡ Some items → All IsItem items
  pub declared : (i : ℕ) (items : List Item) → slice_get units i ≡ Some items → CallsAreDeclared items

-- what an active call has still to do: it ends with a return, and each call in it means a function
abbrev pub Resolves : List (List Item) → ℕ → SmallStmt → Type 0
Resolves units unit (Put n) = Unit {0}
Resolves units unit (Call name) = IsSome (means units unit name)
Resolves units unit (Return n) = Unit {0}

pub record IsLeft (units : List (List Item)) (unit : ℕ) (left : List SmallStmt) : Type 0 where
  pub ends : EndsReturning left
  pub resolves : AllByRecursion (Resolves units unit) left

resolves_all : (units : List (List Item)) (unit : ℕ) (body left : List SmallStmt) → ((name : List ℕ) → Contains body (Call name) → IsSome (means units unit name)) → ((s : SmallStmt) → Contains left s → Contains body s) → AllByRecursion (Resolves units unit) left
resolves_all units unit body [] h c = tt
resolves_all units unit body (s ∷ left) h c =
    (first s (λ name e. h name (c (Call name) (0, (omega arith), e))), resolves_all units unit body left h (λ t k. c t (suc k.0, (omega (arith, k.1)), k.2)))
  where
    first : (s : SmallStmt) → ((name : List ℕ) → s ≡ Call name → IsSome (means units unit name)) → Resolves units unit s
    first (Put n) g = tt
    first (Call name) g = g name refl
    first (Return n) g = tt

-- a definition that was found
record FoundIn (items : List Item) (body : List SmallStmt) : Type 0 where
  pub place : ℕ
  pub item : Item
  pub at : IsAt items place item
  pub is : item.body ≡ Some body

later : (first : Item) (items : List Item) (body : List SmallStmt) → FoundIn items body → FoundIn (first ∷ items) body
later first items body f = record { place = suc f.place; item = f.item; at = f.at; is = f.is }

picked : (b : Bool) (o others : Option (List SmallStmt)) (body : List SmallStmt) → body_or b o others ≡ Some body → (o ≡ Some body) ⊎ (others ≡ Some body)
picked true (Some own_body) others body e = inl e
picked true None others body e = inr e
picked false o others body e = inr e

own_found : (items : List Item) (name : List ℕ) (body : List SmallStmt) → own items name ≡ Some body → FoundIn items body
own_found [] name body e = absurd (cc)
own_found (item ∷ items) name body e =
    elim (picked (bytes_eq item.name name) item.body (own items name) body e) [
      | inl h ↦ record { place = 0; item = item; at = refl; is = h }
      | inr h ↦ later item items body (own_found items name body h)
    ]

shown_found : (items : List Item) (name : List ℕ) (body : List SmallStmt) → shown items name ≡ Some body → FoundIn items body
shown_found [] name body e = absurd (cc)
shown_found (item ∷ items) name body e =
    elim (picked (not item.local && bytes_eq item.name name) item.body (shown items name) body e) [
      | inl h ↦ record { place = 0; item = item; at = refl; is = h }
      | inr h ↦ later item items body (shown_found items name body h)
    ]

record FoundAt (units : List (List Item)) (number : ℕ) (m : Meaning) : Type 0 where
  pub index : ℕ
  pub items : List Item
  pub at : slice_get units index ≡ Some items
  pub number_is : m.unit ≡ number + index
  pub found : FoundIn items m.body

meant_by : (number : ℕ) (o : Option (List SmallStmt)) (others : Option Meaning) (m : Meaning) → meaning_or number o others ≡ Some m → ((o ≡ Some m.body) × (m.unit ≡ number)) ⊎ (others ≡ Some m)
meant_by number None others m e = inr e
meant_by number (Some body) others m e =
    let made : Meaning = record { unit = number; body = body } in
    let same : made ≡ m = cc in
    inl (ap (λ (x : Meaning). Some x.body) same, ap (λ (x : Meaning). x.unit) (sym same))

shown_by_found : (number : ℕ) (units : List (List Item)) (name : List ℕ) (m : Meaning) → shown_by number units name ≡ Some m → FoundAt units number m
shown_by_found number [] name m e = absurd (cc)
shown_by_found number (unit ∷ units) name m e =
    elim (meant_by number (shown unit name) (shown_by (suc number) units name) m e) [
      | inl h ↦ record { index = 0; items = unit; at = refl; number_is = omega (arith, h.1); found = shown_found unit name m.body h.0 }
      | inr h ↦
          let f = shown_by_found (suc number) units name m h in
          record { index = suc f.index; items = f.items; at = f.at; number_is = omega (arith, f.number_is); found = f.found }
    ]

some_unit : (units : List (List Item)) (i : ℕ) (name : List ℕ) (body : List SmallStmt) → own (slice_index_or units i []) name ≡ Some body → (items : List Item) × (slice_get units i ≡ Some items) × (own items name ≡ Some body)
some_unit [] i name body e = absurd (cc)
some_unit (unit ∷ units) zero name body e = (unit, refl, e)
some_unit (unit ∷ units) (suc i) name body e = some_unit units i name body e

means_found : (units : List (List Item)) (i : ℕ) (name : List ℕ) (m : Meaning) → means units i name ≡ Some m → FoundAt units 0 m
means_found units i name m e =
    elim (meant_by i (own (slice_index_or units i []) name) (shown_by 0 units name) m e) [
      | inl h ↦
          let u = some_unit units i name m.body h.0 in
          record { index = i; items = u.0; at = u.1; number_is = omega (arith, h.1); found = own_found u.0 name m.body u.2 }
      | inr h ↦ shown_by_found 0 units name m h
    ]

body_ends : (o : Option (List SmallStmt)) (body : List SmallStmt) → IsBodyIfAny o → o ≡ Some body → EndsReturning body
body_ends None body h e = absurd (cc)
body_ends (Some ss) body h e = let same : ss ≡ body = cc in let P : List SmallStmt → Type 0 = EndsReturning in subst P same h.ends

item_at : (items : List Item) (place : ℕ) (item : Item) → AllByRecursion IsItem items → IsAt items place item → IsItem item
item_at [] place item a at = absurd (cc)
item_at (first ∷ items) zero item a at = let same : first ≡ item = cc in let P : Item → Type 0 = IsItem in subst P same a.0
item_at (first ∷ items) (suc place) item a at = item_at items place item a.1 at

found_left : (units : List (List Item)) (m : Meaning) → Linkable units → AreUnits units → FoundAt units 0 m → IsLeft units m.unit m.body
found_left units m l u f =
    let here : m.unit ≡ f.index = omega (arith, f.number_is) in
    let is : IsItem f.found.item = item_at f.items f.found.place f.found.item (recursion_from_All IsItem f.items (u.each f.index f.items f.at)) f.found.at in
    let P : Option (List SmallStmt) → Type 0 = λ o. (name : List ℕ) → HasCall o name → IsSome (means units f.index name) in
    let means_some : (name : List ℕ) → Contains m.body (Call name) → IsSome (means units f.index name) =
    subst P f.found.is (λ name call. call_means units f.index f.items f.found.place f.found.item name l f.at (u.declared f.index f.items f.at) f.found.at call) in
    let Q : ℕ → Type 0 = λ k. (name : List ℕ) → Contains m.body (Call name) → IsSome (means units k name) in
    record { ends = body_ends f.found.item.body m.body is.body f.found.is; resolves = resolves_all units m.unit m.body m.body (subst Q (sym here) means_some) (λ s c. c) }

-- a run that has not gone wrong, and whose active calls have what they are to have
abbrev pub AllLeft : List (List Item) → List Frame → Type 0
AllLeft units [] = Unit {0}
AllLeft units (frame ∷ frames) = IsLeft units frame.unit frame.left × AllLeft units frames

abbrev pub IsRight : List (List Item) → Run → Type 0
IsRight units (Going frames acts) = (0 < length frames) × AllLeft units frames
IsRight units (Over how acts) = how ≢ Wrong

entered_right : (units : List (List Item)) (frame : Frame) (frames : List Frame) (acts : List Act) (b : Bool) → AllLeft units (frame ∷ frames) → IsRight units (cond b (Going (frame ∷ frames) acts) (Over Deep acts))
entered_right units frame frames acts true a = (omega arith, a)
entered_right units frame frames acts false a = λ e. cc

called_right : (units : List (List Item)) (o : Option Meaning) (frames : List Frame) (acts : List Act) → IsSome o → ((m : Meaning) → o ≡ Some m → IsLeft units m.unit m.body) → AllLeft units frames → IsRight units (called o frames acts)
called_right units None frames acts s h a = absurd (cc)
called_right units (Some m) frames acts s h a = entered_right units (frame_of m) frames acts (nat_le (needs (frame_of m ∷ frames)) stack_room) (h m refl, a)

turn_of_right : (units : List (List Item)) → Linkable units → AreUnits units → (frame : Frame) (frames : List Frame) (acts : List Act) (left : List SmallStmt) → IsLeft units frame.unit left → AllLeft units frames → IsRight units (turn_of units frame frames acts left)
turn_of_right units l u frame frames acts [] h a = absurd h.ends
turn_of_right units l u frame frames acts (Put n ∷ left) h a = (omega arith, (record { ends = h.ends; resolves = h.resolves.1 }, a))
turn_of_right units l u frame frames acts (Call name ∷ left) h a =
    called_right units (means units frame.unit name) (record frame { left = left } ∷ frames) acts h.resolves.0
    (λ m e. found_left units m l u (means_found units frame.unit name m e))
    (record { ends = h.ends; resolves = h.resolves.1 }, a)
turn_of_right units l u frame [] acts (Return n ∷ left) h a = λ e. cc
turn_of_right units l u frame (next ∷ frames) acts (Return n ∷ left) h a = (omega arith, a)

turn_right : (units : List (List Item)) → Linkable units → AreUnits units → (r : Run) → IsRight units r → IsRight units (turn units r)
turn_right units l u (Going [] acts) h = absurd (omega (arith, h.0))
turn_right units l u (Going (frame ∷ frames) acts) h = turn_of_right units l u frame frames acts frame.left h.1.0 h.1.1
turn_right units l u (Over how acts) h = h

pub run_right : (units : List (List Item)) → Linkable units → AreUnits units → (n : ℕ) → IsRight units (run_after units n)
run_right units l u zero = called_right units (main_of units) [] [] (main_some units l) (λ m e. found_left units m l u (shown_by_found 0 units (codes "main") m e)) tt
run_right units l u (suc n) = turn_right units l u (run_after units n) (run_right units l u n)

right_seen : (units : List (List Item)) (r : Run) → IsRight units r → (seen_of r).outcome ≢ Wrong
right_seen units (Going frames acts) h = λ e. cc
right_seen units (Over how acts) h = h

-- linked units of the form never go wrong
pub never_wrong : (units : List (List Item)) → Linkable units → AreUnits units → (n : ℕ) → (second_after units n).outcome ≢ Wrong
never_wrong units l u n = right_seen units (run_after units n) (run_right units l u n)
