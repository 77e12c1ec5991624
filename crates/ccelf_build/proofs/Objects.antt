-- Files that are objects of units, what linking them comes to, and the image that is run.
use Rattle.std.proofs.Common.{◌≡◌, ◌⊎◌, ◌<◌, ◌∷◌, [], ℕ, List, Option, Some, None, map, Result, Ok, Err, Bool, true, false, refl, inl, inr, ap, ◌∙◌, sym, subst, arith}
use Rattle.std.specs.Prelude.{All, cond, nat_lt}
use Rattle.std.proofs.lemmas.List.Elements.{All-cons}
use Rattle.std.proofs.lemmas.Option.{same_Some, none-some}
use Rattle.second_form.specs.declared.second_items.Item.{Item}
use Rattle.second_form.specs.SecondFaults.{source_fault, SourceFault}
use Rattle.second_form.specs.SecondFaults as source
use Rattle.elf_file.specs.Object.{Object, object_of}
use Rattle.elf_file.specs.Read.{IsFileOf}
use Rattle.elf_file.specs.Image.{end_address, IsImageOf}
use Rattle.elf_file.specs.declared.image.ImageParts.{ImageParts}
use Rattle.elf_linker.specs.Linked.{Linked}
use Rattle.elf_linker.specs.Names.{link_fault, too_long}
use Rattle.elf_linker.specs.Placement.{whole_end}
use Rattle.elf_linker.specs.declared.fault.LinkFault.{LinkFault}
use Rattle.elf_linker.specs.declared.fault.LinkFault.TheVariants as linking
use Rattle.elf_loader.specs.Load.{load_fault}
use Rattle.elf_loader.specs.declared.fault.LoadFault.{LoadFault}
use Rattle.second_code.specs.Parts.{parts_of}
use Rattle.second_code.specs.LinkedObjects.{IsUnit, unit_object, linked_objects}
use Rattle.second_code.specs.FoundFaults.{IsFoundAs}
use Rattle.commands.specs.declared.answer.Answer.{Answer}
use Rattle.commands.specs.declared.answer.Answer.TheVariants as answer
use Rattle.commands.specs.Doing.{Outside}
use Rattle.commands.specs.Steps.{IsObjectFile, AreObjectFiles, IsFirstNoObject, this, later, LinkedFrom, LinkedBy, file_name, symbol_name, Runs, RunsBy}
use Rattle.ccelf_build.specs.Laws.{Laws}
use Rattle.ccelf_build.proofs.Made.{AreMadeOf}
use Rattle.ccelf_build.proofs.Runnings.{runs_by}

-- objects of units are units
pub are_units : (units : List (List Item)) (files : List (List ℕ)) → AreMadeOf units files → All IsUnit units
are_units [] files h = λ k d l. absurd (no_place k l)
  where
    no_place : (k : ℕ) → k < 0 → ⊥
    no_place k l = omega arith
are_units (items ∷ units) [] h = absurd h
are_units (items ∷ units) (file ∷ files) h = All-cons IsUnit items units (record { tree = h.0.form.tree; form = h.0.form.form }) (are_units units files h.1)

-- a file is one object
object_is : Laws → (items : List Item) (file : List ℕ) (object : Object) → IsFileOf (parts_of items) file → IsObjectFile file object → object ≡ unit_object items
object_is laws items file object w o = o.is ∙ ap object_of (laws.one_object o.parts (parts_of items) file o.file_of w)

pub objects_are : Laws → (units : List (List Item)) (files : List (List ℕ)) (objects : List Object) → AreMadeOf units files → AreObjectFiles files objects → objects ≡ map unit_object units
objects_are laws [] [] [] h k = refl
objects_are laws [] [] (o ∷ objects) h k = absurd k
objects_are laws [] (file ∷ files) objects h k = absurd h
objects_are laws (items ∷ units) [] objects h k = absurd h
objects_are laws (items ∷ units) (file ∷ files) [] h k = absurd k
objects_are laws (items ∷ units) (file ∷ files) (o ∷ objects) h k =
    let e : o ≡ unit_object items = object_is laws items file o h.0.written k.0 in
    let f : objects ≡ map unit_object units = objects_are laws units files objects h.1 k.1 in
    cc

-- a list of objects of units has none that is no object
pub none_is_none : (units : List (List Item)) (names files : List (List ℕ)) (which : List ℕ) → AreMadeOf units files → IsFirstNoObject names files which → ⊥
none_is_none [] names files which h (this name file ns fs n) = h
none_is_none [] names files which h (later name file w ns fs object o rest) = h
none_is_none (items ∷ units) names files which h (this name file ns fs n) = n (parts_of items) h.0.written
none_is_none (items ∷ units) names files which h (later name file w ns fs object o rest) = none_is_none units ns fs which h.1 rest

-- what linking the objects of units comes to
abbrev pub UnitsLinked : List (List ℕ) → List (List Item) → Result (List ℕ) Answer → Type 0
UnitsLinked names units (Ok bytes) = (image : ImageParts) × Linked (linked_objects units) image × (link_fault (linked_objects units) ≡ None) × IsImageOf image bytes
UnitsLinked names units (Err (answer.Doubled name file)) = (unit : ℕ) × (source_fault units ≡ Some (source.Doubled unit name)) × (file ≡ file_name names unit)
UnitsLinked names units (Err (answer.Unresolved name file)) = (unit : ℕ) × (source_fault units ≡ Some (source.Unresolved unit name)) × (file ≡ file_name names unit)
UnitsLinked names units (Err (answer.Range end)) = (source_fault units ≡ None) × (too_long (linked_objects units) ≡ Some (linking.Range end))
UnitsLinked names units (Err answer.Memory) = Unit {0}
UnitsLinked names units (Err _) = ⊥

-- what is wrong where the units are a program is that there are too many bytes
range_only : (b : Bool) (end : ℕ) (fault : LinkFault) → cond b (Some (linking.Range end)) None ≡ Some fault → fault ≡ linking.Range end
range_only true end fault e = sym (same_Some (linking.Range end) fault e)
range_only false end fault e = absurd (none-some fault e)

module _ (units : List (List Item)) where
  abbrev objects : List Object
  objects = linked_objects units

  doubled_is : (number symbol : ℕ) (fault : Option SourceFault) → IsFoundAs objects fault (link_fault objects) → link_fault objects ≡ Some (linking.Doubled number symbol) → fault ≡ Some (source.Doubled number (symbol_name objects number symbol))
  doubled_is number symbol None found e = let clash : linking.Doubled number symbol ≡ linking.Range (whole_end objects) = range_only (nat_lt end_address (whole_end objects)) (whole_end objects) (linking.Doubled number symbol) (sym found ∙ e) in cc
  doubled_is number symbol (Some (source.Doubled unit name)) found e =
      let same = same_Some _ _ (sym e ∙ found.1) in
      let a : number ≡ unit = cc in let b : symbol ≡ found.0 = cc in
      (λ i. Some (source.Doubled (sym a i) (sym found.2 i))) ∙ (λ i. Some (source.Doubled number (symbol_name objects (sym a i) (sym b i))))
  doubled_is number symbol (Some (source.Unresolved unit name)) found e = let clash = same_Some _ _ (sym e ∙ found.1) in cc

  unresolved_is : (number symbol : ℕ) (fault : Option SourceFault) → IsFoundAs objects fault (link_fault objects) → link_fault objects ≡ Some (linking.Unresolved number symbol) → fault ≡ Some (source.Unresolved number (symbol_name objects number symbol))
  unresolved_is number symbol None found e = let clash : linking.Unresolved number symbol ≡ linking.Range (whole_end objects) = range_only (nat_lt end_address (whole_end objects)) (whole_end objects) (linking.Unresolved number symbol) (sym found ∙ e) in cc
  unresolved_is number symbol (Some (source.Unresolved unit name)) found e =
      let same = same_Some _ _ (sym e ∙ found.1) in
      let a : number ≡ unit = cc in let b : symbol ≡ found.0 = cc in
      (λ i. Some (source.Unresolved (sym a i) (sym found.2 i))) ∙ (λ i. Some (source.Unresolved number (symbol_name objects (sym a i) (sym b i))))
  unresolved_is number symbol (Some (source.Doubled unit name)) found e = let clash = same_Some _ _ (sym e ∙ found.1) in cc

  no_sized : (number symbol stated defined : ℕ) (fault : Option SourceFault) → IsFoundAs objects fault (link_fault objects) → link_fault objects ≡ Some (linking.Sized number symbol stated defined) → ⊥
  no_sized number symbol stated defined None found e =
      let clash : linking.Sized number symbol stated defined ≡ linking.Range (whole_end objects) = range_only (nat_lt end_address (whole_end objects)) (whole_end objects) (linking.Sized number symbol stated defined) (sym found ∙ e) in cc
  no_sized number symbol stated defined (Some (source.Doubled unit name)) found e = let clash = same_Some _ _ (sym e ∙ found.1) in cc
  no_sized number symbol stated defined (Some (source.Unresolved unit name)) found e = let clash = same_Some _ _ (sym e ∙ found.1) in cc

  range_is : (end : ℕ) (fault : Option SourceFault) → IsFoundAs objects fault (link_fault objects) → link_fault objects ≡ Some (linking.Range end) → (fault ≡ None) × (too_long objects ≡ Some (linking.Range end))
  range_is end None found e = (refl, sym found ∙ e)
  range_is end (Some (source.Doubled unit name)) found e = let clash = same_Some _ _ (sym e ∙ found.1) in cc
  range_is end (Some (source.Unresolved unit name)) found e = let clash = same_Some _ _ (sym e ∙ found.1) in cc

  pub none_is : (fault : Option SourceFault) → IsFoundAs objects fault (link_fault objects) → link_fault objects ≡ None → (fault ≡ None) × (too_long objects ≡ None)
  none_is None found e = (refl, sym found ∙ e)
  none_is (Some (source.Doubled unit name)) found e = let clash : ◌≡◌ {A = Option LinkFault} None (Some (linking.Doubled unit found.0)) = sym e ∙ found.1 in cc
  none_is (Some (source.Unresolved unit name)) found e = let clash : ◌≡◌ {A = Option LinkFault} None (Some (linking.Unresolved unit found.0)) = sym e ∙ found.1 in cc

  -- where the source has no fault, the linker finds too many bytes or nothing
  pub found_none : (fault : Option SourceFault) → IsFoundAs objects fault (link_fault objects) → fault ≡ None → link_fault objects ≡ too_long objects
  found_none None found e = found
  found_none (Some fault) found e = let clash : ◌≡◌ {A = Option SourceFault} (Some fault) None = e in cc

  module _ (names : List (List ℕ)) (found : IsFoundAs objects (source_fault units) (link_fault objects)) where
    by_objects : (result : Result (List ℕ) Answer) → LinkedBy names (map unit_object units) result → UnitsLinked names units result
    by_objects (Ok bytes) h = (h.image, h.linked, h.no_fault, h.written)
    by_objects (Err (answer.Doubled name file)) h =
        (h.0, doubled_is h.0 h.1 (source_fault units) found h.2 ∙ ap (λ (n : List ℕ). Some (source.Doubled h.0 n)) (sym h.3), h.4)
    by_objects (Err (answer.Unresolved name file)) h =
        (h.0, unresolved_is h.0 h.1 (source_fault units) found h.2 ∙ ap (λ (n : List ℕ). Some (source.Unresolved h.0 n)) (sym h.3), h.4)
    by_objects (Err (answer.Sized name file stated defined)) h = no_sized h.0 h.1 stated defined (source_fault units) found h.2
    by_objects (Err (answer.Range end)) h = range_is end (source_fault units) found h
    by_objects (Err answer.Memory) h = tt
    by_objects (Err _) h = h

-- what linking the objects of units comes to
pub units_linked : Laws → (names files : List (List ℕ)) (units : List (List Item)) → AreMadeOf units files → (result : Result (List ℕ) Answer) → LinkedFrom names files result → UnitsLinked names units result
units_linked laws names files units made result h = by_result result h
  where
    found : IsFoundAs (linked_objects units) (source_fault units) (link_fault (linked_objects units))
    found = laws.faults units (are_units units files made)

    from : (r : Result (List ℕ) Answer) (objects : List Object) → AreObjectFiles files objects → LinkedBy names objects r → UnitsLinked names units r
    from r objects are by = let P : List Object → Type 0 = λ os. LinkedBy names os r in by_objects units names found r (subst P (objects_are laws units files objects made are) by)

    by_result : (r : Result (List ℕ) Answer) → LinkedFrom names files r → UnitsLinked names units r
    by_result (Ok bytes) h = from (Ok bytes) h.0 h.1 h.2
    by_result (Err (answer.ObjectForm which)) h = none_is_none units names files which made h
    by_result (Err answer.Memory) h = tt
    by_result (Err (answer.Doubled name file)) h = from (Err (answer.Doubled name file)) h.0 h.1 h.2
    by_result (Err (answer.Unresolved name file)) h = from (Err (answer.Unresolved name file)) h.0 h.1 h.2
    by_result (Err (answer.Sized name file stated defined)) h = from (Err (answer.Sized name file stated defined)) h.0 h.1 h.2
    by_result (Err (answer.Range end)) h = from (Err (answer.Range end)) h.0 h.1 h.2
    by_result (Err _) h = absurd h.2

-- running the bytes of an image that can be loaded
pub runs_loaded : Laws → (steps : ℕ) (name bytes : List ℕ) (image : ImageParts) → IsImageOf image bytes → load_fault image ≡ None → (old new : Outside) (told : Answer) → Runs steps name bytes old told new
    → RunsBy image steps old told new ⊎ ((told ≡ answer.Memory) × (new ≡ old))
runs_loaded laws steps name bytes image is loads old new told h =
    runs_by steps name bytes old (λ a end. RunsBy image steps old a end ⊎ ((a ≡ answer.Memory) × (end ≡ old)))
    (λ none. absurd (none image is))
    (λ other index other_is fault. absurd (clash other other_is fault))
    (λ other other_is fault. absurd (clash other other_is fault))
    (inr (refl, refl))
    (λ other other_is fine a end r. let P : ImageParts → Type 0 = λ i. RunsBy i steps old a end in inl (subst P (laws.one_image other image bytes other_is is) r))
    told new h
  where
    clash : (other : ImageParts) {fault : LoadFault} → IsImageOf other bytes → load_fault other ≡ Some fault → ⊥
    clash other {fault} other_is e = none-some fault (sym loads ∙ ap load_fault (sym (laws.one_image other image bytes other_is is)) ∙ e)
