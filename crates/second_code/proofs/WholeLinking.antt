-- An image that is linked from the objects of units does what the linked units mean.
use Rattle.std.specs.Prelude.{◌≡◌, ℕ, ◌+◌, ◌-◌, ◌%◌, ◌<◌, ◌≤◌, ◌^◌, List, [], ◌∷◌, ◌++◌, length, map, All, Contains, Option, Some, None, Bool, true, false, zero, suc, codes}
use Rattle.std.specs.Str.{bytes_eq}
use Rattle.std.proofs.Common.{arith, ◌∙◌, ap, sym, refl, subst, append-nil}
use Rattle.std.proofs.lemmas.Option.{same_Some}
use Rattle.std.proofs.lemmas.List.Elements.{All-head, All-tail}
use Rattle.std.proofs.lemmas.Slice.Eq.{bytes_eq-Decides}
use Rattle.second_form.specs.declared.second_items.SmallStmt.{SmallStmt}
use Rattle.second_form.specs.declared.second_items.Item.{Item}
use Rattle.second_form.specs.SecondForm.{IsItem, StaticAlike, reserved_words}
use Rattle.second_form.specs.SecondRun.{Meaning, own, meaning_or, shown_by, second_after}
use Rattle.elf_file.specs.Object.{Object}
use Rattle.elf_file.specs.declared.image.ImageParts.{ImageParts}
use Rattle.elf_linker.specs.Placement.{text_address}
use Rattle.elf_linker.specs.Linked.{Linked, IsDefinedAt}
use Rattle.elf_linker.specs.Names.{link_fault}
use Rattle.i386_machine.specs.Machine.{State, started, stack_region}
use Rattle.i386_machine.specs.Regions.{zeros, length-zeros}
use Rattle.i386_machine.specs.Runs.{seen_of, after}
use Rattle.elf_loader.specs.Load.{loaded, region_of, stack_size, image_after}
use Rattle.pass_core.specs.Refines.{Refines}
use Rattle.i386_steps.specs.laws.Hops.{machine_at, words}
use Rattle.i386_steps.specs.laws.StackAndCode.{Here}
use Rattle.second_code.specs.Code.{Places, putbyte_code}
use Rattle.second_code.specs.LinkedObjects.{IsUnit, unit_object, linked_objects}
use Rattle.second_code.specs.LinkedUnits.{unit_at, IsAddressOf, LinkedUnits}
use Rattle.second_code.specs.Parts as Parts
use Rattle.second_code.specs.declared.definitions.Definition.{Definition}
use Rattle.second_code.proofs.Linking.{ShownBy, shows_by, own_inside, linked_refines}
use Rattle.second_code.proofs.PartsFit.{definition_within}
use Rattle.second_code.proofs.OneDefinition.{one_address}
use Rattle.second_code.proofs.SharedNames.{shared_address, shared_address-is}
use Rattle.second_code.proofs.UnitSymbols.{ShownAt, shown_at, own_definition, none_defined}
use Rattle.second_code.proofs.ShownDefinitions.{shown_defined}
use Rattle.second_code.proofs.PlacedUnits.{unit_object_at, objects_counted, origin_of, name_address, name_address-small, name_address-own, name_address-shared, code_short, inside_code, unit_placed}
use Rattle.second_code.proofs.LinkedRuntime.{runtime_inside, start_defined, putbyte_defined, start_here, putbyte_here}

-- no unit defines a reserved word
free_first : (item : Item) (name : List ℕ) (at : ℕ) (rest : Option Definition) → IsItem item → Contains reserved_words name → rest ≡ None
    → (b : Bool) → bytes_eq item.name name ≡ b → Parts.definition_or b item.local at item.body rest ≡ None
free_first item name at rest is reserved more true e = absurd (is.name.free (let P : List ℕ → Type 0 = Contains reserved_words in subst P (sym ((bytes_eq-Decides item.name name).0 e)) reserved))
free_first item name at rest is reserved more false e = more

pub not_reserved : (items : List Item) (at : ℕ) (name : List ℕ) → All IsItem items → Contains reserved_words name → Parts.definition_from at items name ≡ None
not_reserved [] at name each reserved = refl
not_reserved (item ∷ items) at name each reserved =
    let to = at + Parts.body_size (Parts.body_of item.body) in
    free_first item name at (Parts.definition_from to items name) (All-head IsItem item items each) reserved (not_reserved items to name (All-tail IsItem item items each) reserved) (bytes_eq item.name name) refl

putbyte_reserved : Contains reserved_words (codes "putbyte")
putbyte_reserved = (1, omega arith, refl)

no_putbyte : (units : List (List Item)) → All IsUnit units → (unit : ℕ) → Parts.definition_from 0 (unit_at units unit) (codes "putbyte") ≡ None
no_putbyte [] are unit = refl
no_putbyte (first ∷ units) are zero = not_reserved first 0 (codes "putbyte") (All-head IsUnit first units are).form.each putbyte_reserved
no_putbyte (first ∷ units) are (suc unit) = no_putbyte units (All-tail IsUnit first units are) unit

-- an address in the code has 32 bits
plain : (address at begin long code : ℕ) → 0x08049000 ≤ at → address ≡ at + begin → begin ≤ long → at - 0x08049000 + long ≤ code → code < 2 ^ 24 → address % 4294967296 ≡ 0x08049000 + (at - 0x08049000 + begin)
plain address at begin long code a e b c d = omega (arith, a, e, b, c, d)

zeros_none : zeros 0 ≡ []
unfolding zeros
zeros_none = refl

module _ (units : List (List Item)) (image : ImageParts) (linked : Linked (linked_objects units) image) (fine : link_fault (linked_objects units) ≡ None) (are : All IsUnit units) where
  abbrev objects : List Object
  objects = linked_objects units

  abbrev code : List ℕ
  code = linked.code

  abbrev origin : ℕ → ℕ
  origin = origin_of units

  each : (unit : ℕ) → unit < length units → All IsItem (unit_at units unit) × StaticAlike (unit_at units unit)
  each unit h = let u : IsUnit (unit_at units unit) = are unit [] h in (u.form.each, u.form.rules.alike)

  text_there : (unit : ℕ) → unit < length units → (0x08049000 ≤ text_address objects unit) × (origin unit + length (Parts.text_of (unit_at units unit)) ≤ length code)
  text_there unit h = inside_code units image linked fine unit (unit_object (unit_at units unit)) (let n = objects_counted units in omega (arith, h, n)) (unit_object_at units unit _ h)

  -- the address of a definition in the code
  defined_address : (unit : ℕ) (name : List ℕ) (definition : Definition) (address : ℕ) → unit < length units → Parts.definition_from 0 (unit_at units unit) name ≡ Some definition
      → address ≡ text_address objects unit + definition.begin → address % 4294967296 ≡ 0x08049000 + (origin unit + definition.begin)
  defined_address unit name definition address h e a =
      let there = text_there unit h in
      let within = definition_within (unit_at units unit) 0 name definition e in
      plain address (text_address objects unit) definition.begin (length (Parts.text_of (unit_at units unit))) (length code) there.0 a (omega (arith, within)) there.1 (code_short units image linked fine)

  -- the address of a name that a unit shows
  shown_bound : (name : List ℕ) (meaning : Meaning) → shown_by 0 units name ≡ Some meaning → IsAddressOf units origin meaning.unit name (shared_address objects name % 4294967296)
  shown_bound name meaning e =
      let w : ShownBy 0 units name meaning = shows_by 0 units name meaning e in
      let s : ShownAt 0 (unit_at units w.place) name = shown_at (unit_at units w.place) 0 name meaning.body (each w.place w.inside).1 w.is in
      let d : IsDefinedAt objects name (text_address objects w.place + s.definition.begin) = shown_defined units w.place name meaning.body s w.inside w.is in
      let shared : shared_address objects name ≡ text_address objects w.place + s.definition.begin = shared_address-is objects name fine (text_address objects w.place + s.definition.begin) d in
      let P : ℕ → Type 0 = λ unit. IsAddressOf units origin unit name (shared_address objects name % 4294967296) in
      let u = w.unit_is in
      subst P (let same : w.place ≡ meaning.unit = omega (arith, u) in same) (record {
        definition = s.definition;
        defines = s.is;
        address_is = defined_address w.place name s.definition (shared_address objects name) w.inside s.is shared;
      })

  -- the address of what a name means
  bound_by : (unit : ℕ) (name : List ℕ) (meaning : Meaning) (o : Option (List SmallStmt)) → own (unit_at units unit) name ≡ o → meaning_or unit o (shown_by 0 units name) ≡ Some meaning
      → IsAddressOf units origin meaning.unit name (name_address units unit name)
  bound_by unit name meaning None n e =
      let P : ℕ → Type 0 = λ address. IsAddressOf units origin meaning.unit name address in
      subst P (sym (name_address-shared units unit name (none_defined (unit_at units unit) 0 name n))) (shown_bound name meaning e)
  bound_by unit name meaning (Some body) n e =
      let d = own_definition (unit_at units unit) 0 name body n in
      let inside = own_inside units unit name body n in
      let there = text_there unit inside in
      let same : record { unit = unit; body = body } ≡ meaning = same_Some (record { unit = unit; body = body }) meaning e in
      let P : Meaning → Type 0 = λ m. IsAddressOf units origin m.unit name (name_address units unit name) in
      let at : 0x08049000 + (origin unit + d.0.begin) ≡ text_address objects unit + d.0.begin = back (text_address objects unit) d.0.begin there.0 in
      subst P same (record {
        definition = d.0;
        defines = d.1;
        address_is = name_address-own units unit name d.0 d.1 ∙ defined_address unit name d.0 (0x08049000 + (origin unit + d.0.begin)) inside d.1 at;
      })
    where
      back : (at begin : ℕ) → 0x08049000 ≤ at → 0x08049000 + (at - 0x08049000 + begin) ≡ at + begin
      back at begin l = omega (arith, l)

  abbrev start : ℕ
  start = 0x08049000 + origin (length units)

  abbrev places : Places
  places = record { function = name_address units; putbyte = shared_address objects (codes "putbyte") % 4294967296 }

  abbrev main_at : ℕ
  main_at = shared_address objects (codes "main") % 4294967296

  putbyte_there : (behind : List ℕ) × Here code places.putbyte (putbyte_code ++ behind)
  putbyte_there =
      let h = putbyte_here units image linked fine in
      let room = runtime_inside units image linked fine in
      let short = code_short units image linked fine in
      let shared : shared_address objects (codes "putbyte") ≡ 0x08049000 + origin (length units) + 70 = shared_address-is objects (codes "putbyte") fine (0x08049000 + origin (length units) + 70) (putbyte_defined units image linked fine) in
      let P : ℕ → Type 0 = λ address. (behind : List ℕ) × Here code address (putbyte_code ++ behind) in
      subst P (same (shared_address objects (codes "putbyte")) (origin (length units)) (length code) shared room short) h
    where
      same : (address origin long : ℕ) → address ≡ 0x08049000 + origin + 70 → origin + 94 ≤ long → long < 2 ^ 24 → 0x08049000 + (origin + 70) ≡ address % 4294967296
      same address origin long a b c = omega (arith, a, b, c)

  units_linked : LinkedUnits units origin places start main_at code
  units_linked =
      let runtime = putbyte_there in
      let first = start_here units image linked fine in
      record {
        short = code_short units image linked fine;
        placed = λ unit h. unit_placed units image linked fine unit h (each unit h).0;
        bound = λ unit name meaning e. bound_by unit name meaning (own (unit_at units unit) name) refl e;
        main_bound = λ meaning e. shown_bound (codes "main") meaning e;
        near = name_address-small units;
        puts = λ unit. name_address-shared units unit (codes "putbyte") (no_putbyte units are unit);
        behind_runtime = runtime.0;
        runtime = runtime.1;
        behind_start = first.0;
        start_there = first.1;
      }

  -- the machine that the image gives
  pub entry_is : image.entry ≡ start
  entry_is =
      one_address objects fine (codes "_start") image.entry (start + 0) linked.entry (start_defined units image linked fine)
      ∙ (let none : start + 0 ≡ start = omega arith in none)

  loaded_is : loaded image ≡ machine_at code start (words 0 0 0 0 3221225456 0 0 0) (zeros 1048576)
  loaded_is =
      let none : length code - length code ≡ 0 = omega arith in
      let whole : code ++ zeros (length code - length code) ≡ code = ap (λ (n : ℕ). code ++ zeros n) none ∙ ap (λ (z : List ℕ). code ++ z) zeros_none ∙ append-nil code in
      (λ i. started (entry_is i) (stack_region stack_size ∷ map region_of (linked.segments i)))
      ∙ ap (λ (bytes : List ℕ). machine_at bytes start (words 0 0 0 0 3221225456 0 0 0) (zeros 1048576)) whole

  -- and it does what the units mean
  pub whole_linking : (input : List ℕ) → Refines (second_after units) (image_after image input)
  whole_linking input =
      let P : State → Type 0 = λ m. Refines (second_after units) (λ n. seen_of (after m input n)) in
      subst P (sym loaded_is) (linked_refines units origin places start main_at code units_linked each (zeros 1048576) (length-zeros 1048576) input)
