-- The linker finds in the objects of units what is wrong with the units.
use Rattle.std.specs.Prelude.{◌≡◌, ℕ, suc, ◌+◌, List, [], ◌∷◌, ◌++◌, length, map, find, take, get_or, cond, if◌then◌else◌, option_and_then, Contains, All, Option, Some, None, Bool, true, false, not, ◌&&◌, ◌||◌, codes}
use Rattle.std.specs.List.{list_any}
use Rattle.std.specs.Option.{option_or}
use Rattle.std.proofs.Common.{arith, ◌∙◌, ap, sym, refl, subst, length-append, append_assoc, append-nil}
use Rattle.std.proofs.Math.Seq.{get_or-append_seam}
use Rattle.std.proofs.lemmas.List.Elements.{All-head, All-tail, All-map}
use Rattle.std.proofs.lemmas.List.Folds.{list_any-append}
use Rattle.cc_base.specs.Faces.{first_answer}
use Rattle.second_form.specs.declared.second_items.Item.{Item}
use Rattle.second_form.specs.SecondForm.{reserved_words}
use Rattle.second_form.specs.SecondFaults.{is_shown, shown_names, wanted_names, SourceFault, Doubled, Unresolved, fault_or, doubled_or, unresolved, source_fault}
use Rattle.elf_file.specs.Object.{Object, object_of, symbol_of}
use Rattle.elf_file.specs.declared.parts.SymbolPart.{SymbolPart}
use Rattle.elf_linker.specs.declared.fault.LinkFault.{LinkFault}
use Rattle.elf_linker.specs.declared.fault.LinkFault.TheVariants as linking
use Rattle.elf_linker.specs.Linked.{object_at}
use Rattle.elf_linker.specs.Names.{is_use, defines, all_symbols, defined_before, doubled, size_differs, definition, sized, too_long, link_fault}
use Rattle.elf_linker.specs.Names.{unresolved as unresolved_in}
use Rattle.elf_linker.specs.Runtime.{runtime, main_symbol}
use Rattle.second_code.specs.FoundFaults.{IsFoundAs}
use Rattle.second_code.specs.LinkedObjects.{IsUnit, unit_object, linked_objects}
use Rattle.second_code.specs.LinkedUnits.{unit_at}
use Rattle.second_code.specs.Parts as Parts
use Rattle.second_code.specs.declared.definitions.Definition.{Definition}
use Rattle.second_code.proofs.LinkableUnits.{main_free}
use Rattle.second_code.proofs.PlacedUnits.{unit_object_at, runtime_object_at}
use Rattle.second_code.proofs.SymbolFaults.{units_define, defined_is}
use Rattle.second_code.proofs.TableFaults.{Finds}
use Rattle.second_code.proofs.UnitFaults.{shows_free, objects_before, unit_doubled, unit_unresolved}

module _ (units : List (List Item)) (are : All IsUnit units) where
  abbrev objects : List Object
  objects = linked_objects units

  -- the same fault
  abbrev Same : Option SourceFault → Option LinkFault → Type 0
  Same None None = Unit {0}
  Same None (Some fault) = ⊥
  Same (Some fault) None = ⊥
  Same (Some (Doubled unit name)) (Some fault) = (symbol : ℕ) × (fault ≡ linking.Doubled unit symbol) × ((symbol_of (object_at objects unit) symbol).name ≡ name)
  Same (Some (Unresolved unit name)) (Some fault) = (symbol : ℕ) × (fault ≡ linking.Unresolved unit symbol) × ((symbol_of (object_at objects unit) symbol).name ≡ name)

  object_here : (before after : List (List Item)) (unit : List Item) (number : ℕ) → number ≡ length before → units ≡ before ++ unit ∷ after → object_at objects number ≡ unit_object unit
  object_here before after unit number at e =
      ap (λ (n : ℕ). object_at objects n) at ∙ unit_object_at units (length before) _ (let n = ap length e ∙ length-append before (unit ∷ after) in omega (arith, n))
      ∙ ap unit_object (ap (λ (us : List (List Item)). unit_at us (length before)) e ∙ get_or-append_seam before unit after [])

  or_or : (a b c : Option LinkFault) → option_or (option_or a b) c ≡ option_or a (option_or b c)
  or_or None b c = refl
  or_or (Some x) b c = refl

  doubled_first : (number : ℕ) (object : Object) → object_at objects number ≡ object → (o : Option (List ℕ)) (answer : Option LinkFault) → Finds (linking.Doubled number) object.symbols o answer
      → (others : Option SourceFault) (more : Option LinkFault) → Same others more → Same (fault_or (Doubled number) o others) (option_or answer more)
  doubled_first number object e None None f others more s = s
  doubled_first number object e None (Some x) f others more s = elim f [ ]
  doubled_first number object e (Some name) None f others more s = elim f [ ]
  doubled_first number object e (Some name) (Some x) f others more s = (f.0, f.1, ap (λ (o : Object). (symbol_of o f.0).name) e ∙ f.2)

  unresolved_first : (number : ℕ) (object : Object) → object_at objects number ≡ object → (o : Option (List ℕ)) (answer : Option LinkFault) → Finds (linking.Unresolved number) object.symbols o answer
      → (others : Option SourceFault) (more : Option LinkFault) → Same others more → Same (fault_or (Unresolved number) o others) (option_or answer more)
  unresolved_first number object e None None f others more s = s
  unresolved_first number object e None (Some x) f others more s = elim f [ ]
  unresolved_first number object e (Some name) None f others more s = elim f [ ]
  unresolved_first number object e (Some name) (Some x) f others more s = (f.0, f.1, ap (λ (o : Object). (symbol_of o f.0).name) e ∙ f.2)

  -- the runtime doubles nothing
  runtime_doubled : (number : ℕ) → number ≡ length units → doubled objects number (object_of runtime) ≡ None
  runtime_doubled number at =
      let symbols = (object_of runtime).symbols in
      let all : take number objects ≡ map unit_object units = ap (λ (n : ℕ). take n objects) at ∙ objects_before units are units [] (sym (append-nil units)) in
      let earlier : (name : List ℕ) → Contains reserved_words name → list_any (defines name) (all_symbols (take number objects)) ≡ false =
      λ name c. ap (λ (os : List Object). list_any (defines name) (all_symbols os)) all ∙ units_define units name are ∙ shows_free units name are c in
      let free : (name : List ℕ) (place : ℕ) → Contains reserved_words name → list_any (defines name) (take place symbols) ≡ false → defined_before objects number symbols place name ≡ false =
      λ name place c f. list_any-append (defines name) (all_symbols (take number objects)) (take place symbols) ∙ (λ i. earlier name c i || f i) in
      let one = free (codes "_start") 1 (2, omega arith, refl) refl in
      let two = free (codes "getbyte") 3 (0, omega arith, refl) refl in
      let three = free (codes "putbyte") 4 (1, omega arith, refl) refl in
      λ i. option_or (cond (one i) (Some (linking.Doubled number 1)) None) (option_or (cond (two i) (Some (linking.Doubled number 3)) None) (option_or (cond (three i) (Some (linking.Doubled number 4)) None) None))

  -- all doubled definitions, and then what else there is
  all_doubled : (before after : List (List Item)) (number : ℕ) → number ≡ length before → units ≡ before ++ after → (others : Option SourceFault) (more : Option LinkFault) → Same others more
      → Same (doubled_or before number after others) (option_or (first_answer (doubled objects) number (map unit_object after ++ object_of runtime ∷ [])) more)
  all_doubled before [] number at e others more s =
      let whole : units ≡ before = e ∙ append-nil before in
      let none = runtime_doubled number (at ∙ ap length (sym whole)) in
      let P : Option LinkFault → Type 0 = λ o. Same others (option_or (option_or o None) more) in
      subst P (sym none) s
  all_doubled before (unit ∷ after) number at e others more s =
      let rest = first_answer (doubled objects) (number + 1) (map unit_object after ++ object_of runtime ∷ []) in
      let here = doubled objects number (unit_object unit) in
      let step : number + 1 ≡ suc number = omega arith in
      let later : Same (doubled_or (before ++ unit ∷ []) (number + 1) after others) (option_or rest more) =
      all_doubled (before ++ unit ∷ []) after (number + 1) (let n = length-append before (unit ∷ []) in omega (arith, at, n)) (e ∙ sym (append_assoc before (unit ∷ []) after)) others more s in
      let P : ℕ → Type 0 = λ n. Same (doubled_or (before ++ unit ∷ []) n after others) (option_or rest more) in
      let Q : Option LinkFault → Type 0 = λ o. Same (doubled_or before number (unit ∷ after) others) o in
      subst Q (sym (or_or here rest more))
      (doubled_first number (unit_object unit) (object_here before after unit number at e) (find (λ name. list_any (is_shown name) before) (shown_names unit)) here (unit_doubled units are before after unit number at e)
      (doubled_or (before ++ unit ∷ []) (suc number) after others) (option_or rest more) (subst P step later))

  -- the runtime's use of `main`
  main_use : (number : ℕ) → number ≡ length units → (b : Bool) → Same (if b then None else Some (Unresolved number (codes "main"))) (cond (not b) (Some (linking.Unresolved number 2)) None)
  main_use number at true = tt
  main_use number at false =
      (2, refl, ap (λ (n : ℕ). (symbol_of (object_at objects n) 2).name) at ∙ ap (λ (o : Object). (symbol_of o 2).name) (runtime_object_at units _))

  or_none_right : (o : Option LinkFault) → option_or o None ≡ o
  or_none_right None = refl
  or_none_right (Some x) = refl

  -- all unresolved uses
  all_unresolved : (before after : List (List Item)) (number : ℕ) → number ≡ length before → units ≡ before ++ after
      → Same (unresolved units number after) (first_answer (unresolved_in objects) number (map unit_object after ++ object_of runtime ∷ []))
  all_unresolved before [] number at e =
      let whole : units ≡ before = e ∙ append-nil before in
      let b = list_any (is_shown (codes "main")) units in
      let answer : unresolved_in objects number (object_of runtime) ≡ cond (not b) (Some (linking.Unresolved number 2)) None =
      ap (λ (d : Bool). option_or (cond (not d) (Some (linking.Unresolved number 2)) None) None) (defined_is units (codes "main") are main_free) ∙ or_none_right _ in
      let P : Option LinkFault → Type 0 = Same (unresolved units number []) in
      subst P (sym (or_none_right (unresolved_in objects number (object_of runtime)) ∙ answer)) (main_use number (at ∙ ap length (sym whole)) b)
  all_unresolved before (unit ∷ after) number at e =
      let rest = first_answer (unresolved_in objects) (number + 1) (map unit_object after ++ object_of runtime ∷ []) in
      let step : number + 1 ≡ suc number = omega arith in
      let later : Same (unresolved units (number + 1) after) rest =
      all_unresolved (before ++ unit ∷ []) after (number + 1) (let n = length-append before (unit ∷ []) in omega (arith, at, n)) (e ∙ sym (append_assoc before (unit ∷ []) after)) in
      let P : ℕ → Type 0 = λ n. Same (unresolved units n after) rest in
      unresolved_first number (unit_object unit) (object_here before after unit number at e) (find (λ name. not (list_any (is_shown name) units)) (wanted_names unit)) (unresolved_in objects number (unit_object unit))
      (unit_unresolved units are before after unit number e) (unresolved units (suc number) after) rest (subst P step later)

  -- no use states a size
  no_answers : {A R : Type 0} (ask : ℕ → A → Option R) (k : ℕ) (xs : List A) → ((n : ℕ) → All (λ x. ask n x ≡ None) xs) → first_answer ask k xs ≡ None
  no_answers ask k [] a = refl
  no_answers {A} {R} ask k (x ∷ xs) a =
      ap (λ (o : Option R). option_or o (first_answer ask (k + 1) xs)) (All-head (λ (x : A). ask k x ≡ None) x xs (a k)) ∙ no_answers ask (k + 1) xs (λ n. All-tail (λ (x : A). ask n x ≡ None) x xs (a n))

  abbrev ask_size : ℕ → ℕ → SymbolPart → Option LinkFault
  ask_size number place s = cond (is_use s) (option_and_then (size_differs number place s.size) (definition objects s.name)) None

  and_then_none : (f : SymbolPart → Option LinkFault) → ((s : SymbolPart) → f s ≡ None) → (o : Option SymbolPart) → option_and_then f o ≡ None
  and_then_none f h None = refl
  and_then_none f h (Some s) = h s

  cond_none : (b : Bool) (o : Option LinkFault) → (b ≡ true → o ≡ None) → cond b o None ≡ None
  cond_none true o h = h refl
  cond_none false o h = refl

  use_size : (name : List ℕ) (o : Option Definition) → is_use (Parts.symbol_from name o) ≡ true → (Parts.symbol_from name o).size ≡ 0
  use_size name None t = refl
  use_size name (Some d) t = absurd (by d.local t)
    where
      by : (b : Bool) → (not b && false) ≡ true → ⊥
      by true t = let clash : false ≡ true = t in cc
      by false t = let clash : false ≡ true = t in cc

  no_size : (number place : ℕ) (s : SymbolPart) → (is_use s ≡ true → s.size ≡ 0) → ask_size number place s ≡ None
  no_size number place s h =
      cond_none (is_use s) (option_and_then (size_differs number place s.size) (definition objects s.name))
      (λ t. and_then_none (size_differs number place s.size) (λ found. ap (λ (n : ℕ). size_differs number place n found) (h t)) (definition objects s.name))

  unit_sized : (number : ℕ) (items : List Item) → sized objects number (unit_object items) ≡ None
  unit_sized number items =
      no_answers (ask_size number) 1 (map (Parts.symbol_of items) (Parts.symbol_names items))
      (λ n. All-map (λ (s : SymbolPart). ask_size number n s ≡ None) (Parts.symbol_of items) (Parts.symbol_names items) (λ k d h. let name = get_or (Parts.symbol_names items) k d in no_size number n (Parts.symbol_of items name) (use_size name (Parts.definition_from 0 items name))))

  runtime_sized : (number : ℕ) → sized objects number (object_of runtime) ≡ None
  runtime_sized number =
      let main : ask_size number 2 main_symbol ≡ None = no_size number 2 main_symbol (λ t. refl) in
      ap (λ (o : Option LinkFault). option_or o None) main

  all_sized : (after : List (List Item)) (number : ℕ) → first_answer (sized objects) number (map unit_object after ++ object_of runtime ∷ []) ≡ None
  all_sized [] number = ap (λ (o : Option LinkFault). option_or o None) (runtime_sized number)
  all_sized (unit ∷ after) number = λ i. option_or (unit_sized number unit i) (all_sized after (number + 1) i)

  -- the whole
  found_as : (s : Option SourceFault) (o : Option LinkFault) → Same s o → IsFoundAs objects s (option_or o (too_long objects))
  found_as None None f = refl
  found_as None (Some x) f = elim f [ ]
  found_as (Some s) None f = by s f
    where
      by : (s : SourceFault) → Same (Some s) None → IsFoundAs objects (Some s) (too_long objects)
      by (Doubled unit name) f = elim f [ ]
      by (Unresolved unit name) f = elim f [ ]
  found_as (Some (Doubled unit name)) (Some x) f = (f.0, ap (λ (l : LinkFault). Some l) f.1, f.2)
  found_as (Some (Unresolved unit name)) (Some x) f = (f.0, ap (λ (l : LinkFault). Some l) f.1, f.2)

  pub same_fault : IsFoundAs objects (source_fault units) (link_fault objects)
  same_fault =
      let d = first_answer (doubled objects) 0 objects in
      let u = first_answer (unresolved_in objects) 0 objects in
      let none : first_answer (sized objects) 0 objects ≡ None = all_sized units 0 in
      let P : Option LinkFault → Type 0 = IsFoundAs objects (source_fault units) in
      let whole : Same (source_fault units) (option_or d u) = all_doubled [] units 0 refl refl (unresolved units 0 units) u (all_unresolved [] units 0 refl refl) in
      subst P (or_or d u (too_long objects) ∙ ap (λ (o : Option LinkFault). option_or d (option_or u (option_or o (too_long objects)))) (sym none)) (found_as (source_fault units) (option_or d u) whole)
