-- What the linker finds in the object of a unit is what is wrong with the unit.
use Rattle.std.specs.Prelude.{◌≡◌, ℕ, suc, List, [], ◌∷◌, ◌++◌, length, map, find, take, get_or, cond, Contains, All, Option, Some, None, is_some, Bool, true, false, not, ◌&&◌, ◌||◌, codes}
use Rattle.std.specs.List.{list_any}
use Rattle.std.proofs.Common.{arith, ◌∙◌, ap, sym, refl, subst, length-append}
use Rattle.std.proofs.Math.ListN.{get_or-append}
use Rattle.std.proofs.Math.Seq.{get_or-append_seam}
use Rattle.std.proofs.lemmas.Option.{none-some}
use Rattle.std.proofs.lemmas.List.Folds.{list_any-append}
use Rattle.second_form.specs.declared.second_items.Item.{Item}
use Rattle.second_form.specs.SecondForm.{reserved_words, IsItem, StaticAlike}
use Rattle.second_form.specs.SecondRun.{own}
use Rattle.second_form.specs.SecondFaults.{has_call_of, is_shown, is_wanted, names_of, shown_names, wanted_names}
use Rattle.elf_file.specs.Object.{Object}
use Rattle.elf_file.specs.declared.parts.SymbolPart.{SymbolPart}
use Rattle.elf_linker.specs.declared.fault.LinkFault.{LinkFault}
use Rattle.elf_linker.specs.declared.fault.LinkFault.TheVariants as linking
use Rattle.elf_linker.specs.Names.{is_definition, is_use, defines, all_symbols, is_defined, defined_before, doubled}
use Rattle.elf_linker.specs.Names.{unresolved as unresolved_in}
use Rattle.second_code.specs.LinkedObjects.{IsUnit, unit_object, linked_objects}
use Rattle.second_code.specs.Parts as Parts
use Rattle.second_code.specs.declared.definitions.Definition.{Definition}
use Rattle.second_code.proofs.LinkableUnits.{unit_free}
use Rattle.second_code.proofs.NameOrder.{find_both, order_same}
use Rattle.second_code.proofs.Tests.{both_of}
use Rattle.second_code.proofs.Sizes.{symbol_name}
use Rattle.second_code.proofs.SymbolFaults.{definition_is, units_define, use_is, shown_definition}
use Rattle.second_code.proofs.TableFaults.{AsksOf, Finds, table_finds, no_own, named_in}
use Rattle.second_code.proofs.UnitSymbols.{ShownAt, none_defined}
use Rattle.second_code.proofs.LinkableUnits.{is_none, unit_uses}
use Rattle.second_code.proofs.WholeLinking.{not_reserved}

named : (items : List Item) (name : List ℕ) → (Parts.symbol_of items name).name ≡ name
named items name = symbol_name name (Parts.definition_from 0 items name)

-- no unit shows a reserved word
pub shows_free : (units : List (List Item)) (name : List ℕ) → All IsUnit units → Contains reserved_words name → list_any (is_shown name) units ≡ false
shows_free [] name are c = refl
shows_free (unit ∷ units) name are c =
    let form = (are 0 [] (omega arith)).form in
    ap (λ (b : Bool). b || list_any (is_shown name) units) (by form.each form.rules.alike (is_shown name unit) refl) ∙ shows_free units name (λ k d h. are (suc k) d (omega (arith, h))) c
  where
    by : All IsItem unit → StaticAlike unit → (b : Bool) → is_shown name unit ≡ b → b ≡ false
    by each alike true t = let s = shown_definition unit name alike t in absurd (none-some s.definition (sym (not_reserved unit 0 name each c) ∙ s.is))
    by each alike false t = refl

module _ (units : List (List Item)) (are : All IsUnit units) where
  abbrev objects : List Object
  objects = linked_objects units

  pub objects_before : (before after : List (List Item)) → units ≡ before ++ after → take (length before) objects ≡ map unit_object before
  objects_before before after e =
      ap (λ (us : List (List Item)). take (length before) (linked_objects us)) e ∙ taken before after
    where
      taken : (before after : List (List Item)) → take (length before) (linked_objects (before ++ after)) ≡ map unit_object before
      taken [] after = refl
      taken (unit ∷ before) after = ap (λ (os : List Object). unit_object unit ∷ os) (taken before after)

  are_before : (before after : List (List Item)) → units ≡ before ++ after → All IsUnit before
  are_before before after e =
      λ k d h. subst IsUnit (ap (λ (us : List (List Item)). get_or us k d) e ∙ get_or-append before after d k h) (are k d (let n = ap length e ∙ length-append before after in omega (arith, h, n)))

  is_unit : (before after : List (List Item)) (unit : List Item) → units ≡ before ++ unit ∷ after → IsUnit unit
  is_unit before after unit e =
      let at : get_or units (length before) [] ≡ unit = ap (λ (us : List (List Item)). get_or us (length before) []) e ∙ get_or-append_seam before unit after [] in
      subst IsUnit at (are (length before) [] (let n = ap length e ∙ length-append before (unit ∷ after) in omega (arith, n)))

  -- the first doubled definition of a unit
  pub unit_doubled : (before after : List (List Item)) (unit : List Item) (number : ℕ) → number ≡ length before → units ≡ before ++ unit ∷ after
      → Finds (linking.Doubled number) (unit_object unit).symbols (find (λ name. list_any (is_shown name) before) (shown_names unit)) (doubled objects number (unit_object unit))
  unit_doubled before after unit number at e =
      let form = (is_unit before after unit e).form in
      let names = Parts.symbol_names unit in
      let symbols = (unit_object unit).symbols in
      let q : List ℕ → Bool = λ name. is_shown name unit && list_any (is_shown name) before in
      let ask : ℕ → SymbolPart → Option LinkFault = λ place s. cond (is_definition s && defined_before objects number symbols place s.name) (Some (linking.Doubled number place)) None in
      let earlier : (name : List ℕ) → list_any (defines name) (all_symbols (take number objects)) ≡ list_any (is_shown name) before =
      λ name. ap (λ (n : ℕ). list_any (defines name) (all_symbols (take n objects))) at ∙ ap (λ (os : List Object). list_any (defines name) (all_symbols os)) (objects_before before (unit ∷ after) e) ∙ units_define before name (are_before before (unit ∷ after) e) in
      let asks : AsksOf (Parts.symbol_of unit) (linking.Doubled number) ask q names =
      λ first last name split.
      let place = suc (length first) in
      let before_is : defined_before objects number symbols place (Parts.symbol_of unit name).name ≡ list_any (is_shown name) before =
      ap (defined_before objects number symbols place) (named unit name) ∙ list_any-append (defines name) (all_symbols (take number objects)) (take place symbols)
      ∙ (λ i. earlier name i || no_own unit first last name (named unit) split i) ∙ or_false (list_any (is_shown name) before) in
      λ i. cond (definition_is unit name form.rules.alike i && before_is i) (Some (linking.Doubled number place)) None in
      let same : find q names ≡ find (λ name. list_any (is_shown name) before) (shown_names unit) =
      order_same q unit (ap (λ (b : Bool). b && list_any (is_shown (codes "putbyte")) before) (hidden unit form.each form.rules.alike)) form.rules.declared
      (λ name t. let s = shown_definition unit name form.rules.alike (both_of (is_shown name unit) (list_any (is_shown name) before) t).0 in shared_when unit name s)
      (λ name t. let s = shown_definition unit name form.rules.alike (both_of (is_shown name unit) (list_any (is_shown name) before) t).0 in ap Parts.is_static s.is ∙ s.global)
      ∙ sym (find_both (λ name. is_shown name unit) (λ name. list_any (is_shown name) before) (names_of unit)) in
      let P : Option (List ℕ) → Type 0 = λ o. Finds (linking.Doubled number) symbols o (doubled objects number (unit_object unit)) in
      subst P same (table_finds (Parts.symbol_of unit) (named unit) (linking.Doubled number) ask q names asks refl)
    where
      or_false : (b : Bool) → (b || false) ≡ b
      or_false true = refl
      or_false false = refl

      hidden : (items : List Item) → All IsItem items → StaticAlike items → is_shown (codes "putbyte") items ≡ false
      hidden items each alike = by (is_shown (codes "putbyte") items) refl
        where
          by : (b : Bool) → is_shown (codes "putbyte") items ≡ b → b ≡ false
          by true t = let s = shown_definition items (codes "putbyte") alike t in absurd (none-some s.definition (sym (not_reserved items 0 (codes "putbyte") each (1, omega arith, refl)) ∙ s.is))
          by false t = refl

      shared_when : (items : List Item) (name : List ℕ) → ShownAt 0 items name → Parts.is_shared items name ≡ true
      shared_when items name s =
          let used = Parts.is_used (Parts.unit_uses_from 0 items) name in
          ap (λ (o : Option Definition). not (Parts.is_static o) && (is_some o || used)) s.is ∙ ap (λ (b : Bool). not b && true) s.global

  -- the first unresolved use of a unit
  pub unit_unresolved : (before after : List (List Item)) (unit : List Item) (number : ℕ) → units ≡ before ++ unit ∷ after
      → Finds (linking.Unresolved number) (unit_object unit).symbols (find (λ name. not (list_any (is_shown name) units)) (wanted_names unit)) (unresolved_in objects number (unit_object unit))
  unit_unresolved before after unit number e =
      let form = (is_unit before after unit e).form in
      let names = Parts.symbol_names unit in
      let q : List ℕ → Bool = λ name. is_wanted name unit && not (list_any (is_shown name) units) in
      let ask : ℕ → SymbolPart → Option LinkFault = λ place s. cond (is_use s && not (is_defined objects s.name)) (Some (linking.Unresolved number place)) None in
      let asks : AsksOf (Parts.symbol_of unit) (linking.Unresolved number) ask q names =
      λ first last name split.
      let place = suc (length first) in
      ap (λ (n : List ℕ). cond (is_use (Parts.symbol_of unit name) && not (is_defined objects n)) (Some (linking.Unresolved number place)) None) (named unit name)
      ∙ ap (λ (b : Bool). cond b (Some (linking.Unresolved number place)) None) (use_is units unit name are form.each (named_in unit first last name split)) in
      let same : find q names ≡ find (λ name. not (list_any (is_shown name) units)) (wanted_names unit) =
      order_same q unit (ap (λ (b : Bool). b && not (list_any (is_shown (codes "putbyte")) units)) (unwanted unit form.each)) form.rules.declared
      (λ name t. let w = (both_of (is_wanted name unit) (not (list_any (is_shown name) units)) t).0 in shared_when unit name w)
      (λ name t. let w = (both_of (is_wanted name unit) (not (list_any (is_shown name) units)) t).0 in ap Parts.is_static (undefined unit name w))
      ∙ sym (find_both (λ name. is_wanted name unit) (λ name. not (list_any (is_shown name) units)) (names_of unit)) in
      let P : Option (List ℕ) → Type 0 = λ o. Finds (linking.Unresolved number) (unit_object unit).symbols o (unresolved_in objects number (unit_object unit)) in
      subst P same (table_finds (Parts.symbol_of unit) (named unit) (linking.Unresolved number) ask q names asks refl)
    where
      undefined : (items : List Item) (name : List ℕ) → is_wanted name items ≡ true → Parts.definition_from 0 items name ≡ None
      undefined items name t = none_defined items 0 name (is_none (own items name) (both_of (list_any (λ item. has_call_of name item.body) items) (not (is_some (own items name))) t).1)

      shared_when : (items : List Item) (name : List ℕ) → is_wanted name items ≡ true → Parts.is_shared items name ≡ true
      shared_when items name t =
          let used = Parts.is_used (Parts.unit_uses_from 0 items) name in
          let calls = (both_of (list_any (λ item. has_call_of name item.body) items) (not (is_some (own items name))) t).0 in
          ap (λ (o : Option Definition). not (Parts.is_static o) && (is_some o || used)) (undefined items name t) ∙ unit_uses items 0 name calls

      unwanted : (items : List Item) → All IsItem items → is_wanted (codes "putbyte") items ≡ false
      unwanted items each = by (is_wanted (codes "putbyte") items) refl
        where
          by : (b : Bool) → is_wanted (codes "putbyte") items ≡ b → b ≡ false
          by true t = absurd (unit_free items (codes "putbyte") each (both_of (list_any (λ item. has_call_of (codes "putbyte") item.body) items) (not (is_some (own items (codes "putbyte")))) t).0 (1, omega arith, refl))
          by false t = refl
