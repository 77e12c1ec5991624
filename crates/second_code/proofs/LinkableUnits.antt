-- Units are a program where nothing is wrong with the names of their objects.
use Rattle.std.specs.Prelude.{◌≡◌, ◌≢◌, slice_get, zero, ℕ, suc, ◌+◌, ◌<◌, List, [], ◌∷◌, ◌++◌, length, find, get_or, cond, if◌then◌else◌, Contains, All, Option, Some, None, is_some, Bool, true, false, not, ◌&&◌, codes}
use Rattle.std.specs.List.{list_any}
use Rattle.std.specs.Str.{bytes_eq}
use Rattle.std.proofs.Common.{arith, ◌∙◌, ap, sym, refl, subst, inl, inr, length-append, append_assoc}
use Rattle.std.proofs.Math.ListN.{get_or-append}
use Rattle.std.proofs.Math.Seq.{get_or-append_seam}
use Rattle.std.proofs.lemmas.List.{length-map}
use Rattle.std.proofs.lemmas.Option.{none-some}
use Rattle.std.proofs.lemmas.List.Elements.{All-head, All-tail, filter_passes}
use Rattle.std.proofs.lemmas.List.Folds.{list_any_at}
use Rattle.std.proofs.lemmas.Slice.Eq.{bytes_eq-Decides}
use Rattle.cc_base.specs.Faces.{first_answer}
use Rattle.second_form.specs.declared.second_items.SmallStmt.{SmallStmt}
use Rattle.second_form.specs.declared.second_items.SmallStmt.TheVariants.{Put, Call, Return}
use Rattle.second_form.specs.declared.second_items.Item.{Item}
use Rattle.second_form.specs.SecondForm.{reserved_words, IsItem, IsBodyIfAny, CallsName}
use Rattle.second_form.specs.SecondFaults.{is_call_of, has_call_of, is_shown, is_wanted, shown_names, wanted_names, SourceFault, Doubled, Unresolved, fault_or, doubled_or, unresolved, Linkable}
use Rattle.cc_base.specs.declared.run.Outcome.TheVariants.{Wrong}
use Rattle.second_form.specs.laws.Links.{never_wrong}
use Rattle.second_form.specs.SecondRun.{own, shown, second_after}
use Rattle.elf_file.specs.Object.{Object, object_of, no_symbol}
use Rattle.elf_file.specs.declared.parts.SymbolPart.{SymbolPart}
use Rattle.elf_linker.specs.declared.fault.LinkFault.{LinkFault}
use Rattle.elf_linker.specs.declared.fault.LinkFault.TheVariants as linking
use Rattle.elf_linker.specs.Linked.{object_at}
use Rattle.elf_linker.specs.Names.{is_use, is_defined, doubled, link_fault}
use Rattle.elf_linker.specs.Names.{unresolved as unresolved_in}
use Rattle.elf_linker.specs.Runtime.{runtime, main_symbol}
use Rattle.second_code.specs.LinkedObjects.{IsUnit, unit_object, linked_objects}
use Rattle.second_code.specs.LinkedUnits.{unit_at}
use Rattle.second_code.specs.Parts as Parts
use Rattle.second_code.proofs.FirstAnswers.{or_none, first_none}
use Rattle.second_code.proofs.OneDefinition.{no_answer, one_object}
use Rattle.second_code.proofs.PartsFit.{In, numbered, in_table, unit_among, all_in}
use Rattle.second_code.proofs.PlacedUnits.{unit_object_at, runtime_object_at, objects_counted}
use Rattle.second_code.proofs.ShownDefinitions.{defined_shown, shown_defined, shown_number}
use Rattle.second_code.proofs.UnitSymbols.{ShownAt, shown_at, symbol_numbered, none_defined}
use Rattle.second_code.proofs.Tests.{or_first, or_later, one_of, both_of, find_none}

-- a name that statements call is used, and is no reserved word
used_first : (xs ys : List Parts.Use) (name : List ℕ) → Parts.is_used xs name ≡ true → Parts.is_used (xs ++ ys) name ≡ true
used_first [] ys name e = let clash : false ≡ true = e in cc
used_first (x ∷ xs) ys name e =
    elim (one_of (bytes_eq x.callee name) (Parts.is_used xs name) e) [
      | inl here ↦ or_first (bytes_eq x.callee name) (Parts.is_used (xs ++ ys) name) here
      | inr more ↦ or_later (bytes_eq x.callee name) (Parts.is_used (xs ++ ys) name) (used_first xs ys name more)
    ]

used_second : (xs ys : List Parts.Use) (name : List ℕ) → Parts.is_used ys name ≡ true → Parts.is_used (xs ++ ys) name ≡ true
used_second [] ys name e = e
used_second (x ∷ xs) ys name e = or_later (bytes_eq x.callee name) (Parts.is_used (xs ++ ys) name) (used_second xs ys name e)

body_uses : (body : List SmallStmt) (at : ℕ) (name : List ℕ) → list_any (is_call_of name) body ≡ true → Parts.is_used (Parts.uses_from at body) name ≡ true
body_uses [] at name e = let clash : false ≡ true = e in cc
body_uses (Put n ∷ body) at name e = or_later (bytes_eq (codes "putbyte") name) (Parts.is_used (Parts.uses_from (at + 12) body) name) (body_uses body (at + 12) name e)
body_uses (Call called ∷ body) at name e =
    elim (one_of (bytes_eq called name) (list_any (is_call_of name) body) e) [
      | inl here ↦ or_first (bytes_eq called name) (Parts.is_used (Parts.uses_from (at + 5) body) name) here
      | inr more ↦ or_later (bytes_eq called name) (Parts.is_used (Parts.uses_from (at + 5) body) name) (body_uses body (at + 5) name more)
    ]
body_uses (Return n ∷ body) at name e = body_uses body (at + 6) name e

any_uses : (o : Option (List SmallStmt)) (at : ℕ) (name : List ℕ) → has_call_of name o ≡ true → Parts.is_used (Parts.uses_from at (Parts.body_of o)) name ≡ true
any_uses None at name e = let clash : false ≡ true = e in cc
any_uses (Some body) at name e = body_uses body at name e

pub unit_uses : (items : List Item) (at : ℕ) (name : List ℕ) → list_any (λ item. has_call_of name item.body) items ≡ true → Parts.is_used (Parts.unit_uses_from at items) name ≡ true
unit_uses [] at name e = let clash : false ≡ true = e in cc
unit_uses (item ∷ items) at name e =
    let own = Parts.uses_from at (Parts.body_of item.body) in
    let to = at + Parts.body_size (Parts.body_of item.body) in
    elim (one_of (has_call_of name item.body) (list_any (λ item. has_call_of name item.body) items) e) [
      | inl here ↦ used_first own (Parts.unit_uses_from to items) name (any_uses item.body at name here)
      | inr more ↦ used_second own (Parts.unit_uses_from to items) name (unit_uses items to name more)
    ]

used_in : (calls : List Parts.Use) (names : List (List ℕ)) (name : List ℕ) → All (λ call. In call.callee names) calls → Parts.is_used calls name ≡ true → In name names
used_in [] names name a e = let clash : false ≡ true = e in cc
used_in (call ∷ calls) names name a e =
    elim (one_of (bytes_eq call.callee name) (Parts.is_used calls name) e) [
      | inl here ↦ let P : List ℕ → Type 0 = λ n. In n names in subst P ((bytes_eq-Decides call.callee name).0 here) (All-head (λ (c : Parts.Use). In c.callee names) call calls a)
      | inr more ↦ used_in calls names name (All-tail (λ (c : Parts.Use). In c.callee names) call calls a) more
    ]

body_free : (body : List SmallStmt) (name : List ℕ) → All CallsName body → list_any (is_call_of name) body ≡ true → ¬ Contains reserved_words name
body_free [] name a e = let clash : false ≡ true = e in cc
body_free (Put n ∷ body) name a e = body_free body name (All-tail CallsName (Put n) body a) e
body_free (Call called ∷ body) name a e =
    elim (one_of (bytes_eq called name) (list_any (is_call_of name) body) e) [
      | inl here ↦ let P : List ℕ → Type 0 = λ n. ¬ Contains reserved_words n in subst P ((bytes_eq-Decides called name).0 here) (All-head CallsName (Call called) body a).free
      | inr more ↦ body_free body name (All-tail CallsName (Call called) body a) more
    ]
body_free (Return n ∷ body) name a e = body_free body name (All-tail CallsName (Return n) body a) e

any_free : (o : Option (List SmallStmt)) (name : List ℕ) → IsBodyIfAny o → has_call_of name o ≡ true → ¬ Contains reserved_words name
any_free None name is e = let clash : false ≡ true = e in cc
any_free (Some body) name is e = body_free body name is.names e

pub unit_free : (items : List Item) (name : List ℕ) → All IsItem items → list_any (λ item. has_call_of name item.body) items ≡ true → ¬ Contains reserved_words name
unit_free [] name a e = let clash : false ≡ true = e in cc
unit_free (item ∷ items) name a e =
    elim (one_of (has_call_of name item.body) (list_any (λ item. has_call_of name item.body) items) e) [
      | inl here ↦ any_free item.body name (All-head IsItem item items a).body here
      | inr more ↦ unit_free items name (All-tail IsItem item items a) more
    ]

pub main_free : ¬ Contains reserved_words (codes "main")
main_free c =
    let found : list_any (bytes_eq (codes "main")) reserved_words ≡ true = list_any_at (bytes_eq (codes "main")) reserved_words c.0 (codes "main") c.1 ((bytes_eq-Decides (codes "main") _).1 (sym c.2)) in
    let clash : true ≡ false = sym found in cc

record Passes (p : List Item → Bool) (units : List (List Item)) : Type 0 where
  place : ℕ
  inside : place < length units
  is : p (unit_at units place) ≡ true

later_passes : (p : List Item → Bool) (unit : List Item) (units : List (List Item)) → Passes p units → Passes p (unit ∷ units)
later_passes p unit units w = record { place = suc w.place; inside = (let h = w.inside in omega (arith, h)); is = w.is }

any_passes : (p : List Item → Bool) (units : List (List Item)) → list_any p units ≡ true → Passes p units
any_passes p [] e = let clash : false ≡ true = e in cc
any_passes p (unit ∷ units) e =
    elim (one_of (p unit) (list_any p units) e) [
      | inl here ↦ record { place = 0; inside = omega arith; is = here }
      | inr more ↦ later_passes p unit units (any_passes p units more)
    ]

body_shown : (o : Option (List SmallStmt)) → is_some o ≡ true → (body : List SmallStmt) × (o ≡ Some body)
body_shown None e = let clash : false ≡ true = e in cc
body_shown (Some body) e = (body, refl)

pub is_none : (o : Option (List SmallStmt)) → not (is_some o) ≡ true → o ≡ None
is_none None e = refl
is_none (Some body) e = let clash : false ≡ true = e in cc

not_false : (b : Bool) → not b ≡ false → b ≡ true
not_false true e = refl
not_false false e = let clash : true ≡ false = e in cc

unit_got : (units : List (List Item)) → All IsUnit units → (i : ℕ) (items : List Item) → slice_get units i ≡ Some items → IsUnit items
unit_got [] are i items at = absurd (none-some items at)
unit_got (unit ∷ units) are zero items at = let same : unit ≡ items = cc in subst IsUnit same (All-head IsUnit unit units are)
unit_got (unit ∷ units) are (suc i) items at = unit_got units (All-tail IsUnit unit units are) i items at

module _ (units : List (List Item)) (are : All IsUnit units) (fine : link_fault (linked_objects units) ≡ None) where
  abbrev objects : List Object
  objects = linked_objects units

  is_unit : (unit : ℕ) → unit < length units → IsUnit (unit_at units unit)
  is_unit unit h = are unit [] h

  -- two units do not show one name
  not_twice : (i n : ℕ) (name : List ℕ) → i < n → n < length units → is_shown name (unit_at units i) ≡ true → is_shown name (unit_at units n) ≡ true → ⊥
  not_twice i n name l h s t =
      let k : i < length units = omega (arith, l, h) in
      let a = body_shown (shown (unit_at units i) name) s in
      let b = body_shown (shown (unit_at units n) name) t in
      let first : ShownAt 0 (unit_at units i) name = shown_at (unit_at units i) 0 name a.0 (is_unit i k).form.rules.alike a.1 in
      let second : ShownAt 0 (unit_at units n) name = shown_at (unit_at units n) 0 name b.0 (is_unit n h).form.rules.alike b.1 in
      let one = shown_defined units i name a.0 first k a.1 in
      let other = shown_defined units n name b.0 second h b.1 in
      let same : i ≡ n = sym (shown_number units i name a.0 first k a.1) ∙ one_object objects fine name _ _ one other ∙ shown_number units n name b.0 second h b.1 in
      absurd (omega (arith, l, same))

  unit_here : (before rest : List (List Item)) (unit : List Item) → units ≡ before ++ unit ∷ rest → unit_at units (length before) ≡ unit
  unit_here before rest unit e = ap (λ (us : List (List Item)). unit_at us (length before)) e ∙ get_or-append_seam before unit rest []

  here_inside : (before rest : List (List Item)) (unit : List Item) → units ≡ before ++ unit ∷ rest → length before < length units
  here_inside before rest unit e = let n = ap length e ∙ length-append before (unit ∷ rest) in omega (arith, n)

  -- no earlier unit shows a name that a unit shows
  alone : (before rest : List (List Item)) (unit : List Item) → units ≡ before ++ unit ∷ rest → (name : List ℕ) → is_shown name unit ≡ true → list_any (is_shown name) before ≡ false
  alone before rest unit e name t = by (list_any (is_shown name) before) refl
    where
      by : (b : Bool) → list_any (is_shown name) before ≡ b → b ≡ false
      by false s = refl
      by true s =
          let w = any_passes (is_shown name) before s in
          let here : unit_at units w.place ≡ unit_at before w.place = ap (λ (us : List (List Item)). unit_at us w.place) e ∙ get_or-append before (unit ∷ rest) [] w.place w.inside in
          absurd (not_twice w.place (length before) name w.inside (here_inside before rest unit e) (ap (is_shown name) here ∙ w.is) (ap (is_shown name) (unit_here before rest unit e) ∙ t))

  no_doubled : (before after : List (List Item)) (number : ℕ) (others : Option SourceFault) → units ≡ before ++ after → others ≡ None → doubled_or before number after others ≡ None
  no_doubled before [] number others e o = o
  no_doubled before (unit ∷ after) number others e o =
      let names = shown_names unit in
      let p : List ℕ → Bool = λ name. list_any (is_shown name) before in
      let none : find p names ≡ None = find_none p names (λ k d h. alone before after unit e (get_or names k d) (filter_passes (λ name. is_shown name unit) _ k d h)) in
      let more = no_doubled (before ++ unit ∷ []) after (suc number) others (e ∙ sym (append_assoc before (unit ∷ []) after)) o in
      λ i. fault_or (Doubled number) (none i) (more i)

  -- the linker finds no use that is unresolved
  all_resolved : (number : ℕ) (object : Object) → number < length objects → object_at objects number ≡ object → unresolved_in objects number object ≡ None
  all_resolved number object h e =
      let rest = (or_none (first_answer (doubled objects) 0 objects) _ fine).1 in
      let none : first_answer (unresolved_in objects) 0 objects ≡ None = (or_none (first_answer (unresolved_in objects) 0 objects) _ rest).0 in
      let P : Object → Type 0 = λ o. unresolved_in objects number o ≡ None in
      subst P e (first_none (unresolved_in objects) 0 objects none number number _ (omega arith) h)

  resolved : (number place : ℕ) (symbols : List SymbolPart) (symbol : SymbolPart) → place < length symbols → get_or symbols place no_symbol ≡ symbol → is_use symbol ≡ true
      → first_answer (λ place (s : SymbolPart). cond (is_use s && not (is_defined objects s.name)) (Some (linking.Unresolved number place)) None) 0 symbols ≡ None → is_defined objects symbol.name ≡ true
  resolved number place symbols symbol h e use_there none =
      let ask : ℕ → SymbolPart → Option LinkFault = λ place s. cond (is_use s && not (is_defined objects s.name)) (Some (linking.Unresolved number place)) None in
      let answer : ask place symbol ≡ None = ap (ask place) (sym e) ∙ first_none ask 0 symbols none place place no_symbol (omega arith) h in
      let test : (is_use symbol && not (is_defined objects symbol.name)) ≡ false = no_answer _ (linking.Unresolved number place) answer in
      not_false (is_defined objects symbol.name) (ap (λ (b : Bool). b && not (is_defined objects symbol.name)) (sym use_there) ∙ test)

  shown_or : (name : List ℕ) → ¬ Contains reserved_words name → is_defined objects name ≡ true → list_any (is_shown name) units ≡ true
  shown_or name free t = elim (defined_shown units name t) [ inl s ↦ s | inr r ↦ absurd (free r) ]

  -- a name that a unit wants is shown
  wanted_shown : (unit : ℕ) → unit < length units → (name : List ℕ) → is_wanted name (unit_at units unit) ≡ true → list_any (is_shown name) units ≡ true
  wanted_shown unit h name t =
      let items = unit_at units unit in
      let parts = both_of (list_any (λ item. has_call_of name item.body) items) (not (is_some (own items name))) t in
      let undefined = none_defined items 0 name (is_none (own items name) parts.1) in
      let used = unit_uses items 0 name parts.0 in
      let each = (is_unit unit h).form.each in
      let named : In name (Parts.named items) = used_in (Parts.unit_uses_from 0 items) (Parts.named items) name (unit_among items 0) used in
      let names = Parts.symbol_names items in
      let known : In name names = in_table items each name (Parts.is_static (Parts.definition_from 0 items name)) refl (all_in name [] (Parts.named items) named) used in
      let number = Parts.number_in names name in
      let inside = numbered names name known in
      let long = length-map names (Parts.symbol_of items) in
      let symbol : get_or (unit_object items).symbols number no_symbol ≡ Parts.symbol_from name None = symbol_numbered (Parts.symbol_of items) names name no_symbol no_symbol known ∙ ap (Parts.symbol_from name) undefined in
      shown_or name (unit_free items name each parts.0)
      (resolved unit number (unit_object items).symbols (Parts.symbol_from name None) (omega (arith, inside.1, long)) symbol refl
      (all_resolved unit (unit_object items) (let n = objects_counted units in omega (arith, h, n)) (unit_object_at units unit _ h)))

  -- and so is `main`
  main_shown : list_any (is_shown (codes "main")) units ≡ true
  main_shown =
      shown_or (codes "main") main_free
      (resolved (length units) 2 (object_of runtime).symbols main_symbol (omega arith) refl refl
      (all_resolved (length units) (object_of runtime) (let n = objects_counted units in omega (arith, n)) (runtime_object_at units _)))

  no_unresolved : (before after : List (List Item)) (number : ℕ) → units ≡ before ++ after → unresolved units number after ≡ None
  no_unresolved before [] number e = ap (λ (b : Bool). if b then None else Some (Unresolved number (codes "main"))) main_shown
  no_unresolved before (unit ∷ after) number e =
      let names = wanted_names unit in
      let p : List ℕ → Bool = λ name. not (list_any (is_shown name) units) in
      let here = unit_here before after unit e in
      let each : (name : List ℕ) → is_wanted name unit ≡ true → p name ≡ false = λ name t. ap not (wanted_shown (length before) (here_inside before after unit e) name (ap (is_wanted name) here ∙ t)) in
      let none : find p names ≡ None = find_none p names (λ k d h. each (get_or names k d) (filter_passes (λ name. is_wanted name unit) _ k d h)) in
      let more = no_unresolved (before ++ unit ∷ []) after (suc number) (e ∙ sym (append_assoc before (unit ∷ []) after)) in
      λ i. fault_or (Unresolved number) (none i) (more i)

  pub units_linkable : Linkable units
  units_linkable = no_doubled [] units 0 (unresolved units 0 units) refl (no_unresolved [] units 0 refl)

  -- and what they mean never goes wrong
  pub units_right : (n : ℕ) → (second_after units n).outcome ≢ Wrong
  units_right n =
      never_wrong units units_linkable
      (record {
        each = λ i items at. (unit_got units are i items at).form.each;
        declared = λ i items at. (unit_got units are i items at).form.rules.declared;
      })
      n
