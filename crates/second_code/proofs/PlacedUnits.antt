-- Where objects of units are linked, the text of each unit is placed.
use Rattle.std.specs.Prelude.{◌≡◌, ℕ, ◌+◌, ◌-◌, ◌%◌, ◌<◌, ◌≤◌, ◌^◌, List, [], ◌∷◌, length, map, take, drop, get_or, All, Option, Some, None, true}
use Rattle.std.proofs.Common.{arith, ◌∙◌, ap, sym, refl, subst, length-append}
use Rattle.std.proofs.Math.ListN.{get_or-append}
use Rattle.std.proofs.Math.Seq.{get_or-append_seam}
use Rattle.std.proofs.lemmas.List.{length-map, get_or-map}
use Rattle.std.proofs.lemmas.List.Elements.{All-map}
use Rattle.cc_base.specs.Words.{word_bytes, add32, sub32}
use Rattle.second_form.specs.declared.second_items.Item.{Item}
use Rattle.second_form.specs.SecondForm.{IsItem}
use Rattle.elf_file.specs.Image.{first_address}
use Rattle.elf_file.specs.Places.{word_at}
use Rattle.elf_file.specs.Object.{Object, object_of, symbol_of, no_symbol}
use Rattle.elf_file.specs.declared.parts.RelocPart.{RelocPart}
use Rattle.elf_file.specs.declared.parts.SymbolPart.{SymbolPart}
use Rattle.elf_file.specs.declared.image.ImageParts.{ImageParts}
use Rattle.elf_linker.specs.Placement.{text_of, text_address, texts_end, whole_end}
use Rattle.elf_linker.specs.Linked.{Linked, IsPlaced, HasAddress, stored, offset, Covers, object_at}
use Rattle.elf_linker.specs.Linked.{IsRelocated as IsWordOf}
use Rattle.elf_linker.specs.Names.{link_fault}
use Rattle.elf_linker.specs.Runtime.{runtime}
use Rattle.second_code.specs.LinkedObjects.{unit_object, linked_objects}
use Rattle.second_code.specs.LinkedUnits.{unit_at}
use Rattle.second_code.specs.Parts as Parts
use Rattle.second_code.specs.Placed.{IsRelocated, Placed}
use Rattle.second_code.specs.declared.definitions.Definition.{Definition}
use Rattle.second_code.proofs.Placing.{All-to}
use Rattle.second_code.proofs.PartsFit.{In, in_table, unit_among, all_used, all_in}
use Rattle.second_code.proofs.TextPlaces.{aligned_from, text_inside}
use Rattle.second_code.proofs.SharedNames.{shared_address, shared_address-is}
use Rattle.second_code.proofs.UnitSymbols.{symbol_numbered}
use Rattle.second_code.proofs.OpenCalls.{IsOpen, calls_open}

-- what is placed of an object
pub record RelocatedAs (objects : List Object) (code : List ℕ) (number : ℕ) (object : Object) (reloc : RelocPart) : Type 0 where
  pub address : ℕ
  pub has : HasAddress objects number (symbol_of object reloc.symbol) (symbol_of object reloc.symbol).place address
  pub holds : take 4 (drop (offset (text_address objects number) + reloc.offset) code) ≡ word_bytes (stored reloc.kind address (word_at (text_of object).bytes reloc.offset) (text_address objects number + reloc.offset))

pub record PlacedAs (objects : List Object) (code : List ℕ) (number : ℕ) (object : Object) : Type 0 where
  pub relocated : All (RelocatedAs objects code number object) object.relocs
  pub others : (byte : ℕ) → byte < (text_of object).size → All (λ reloc. ¬ Covers byte reloc) object.relocs → get_or code (offset (text_address objects number) + byte) 0 ≡ get_or (text_of object).bytes byte 0

pub placed_as : (objects : List Object) (code : List ℕ) (number : ℕ) (object : Object) → object_at objects number ≡ object → IsPlaced objects code number → PlacedAs objects code number object
placed_as objects code number object e p =
    subst (PlacedAs objects code number) e (record {
      relocated = All-to (IsWordOf objects code number) (RelocatedAs objects code number (object_at objects number)) (λ reloc r. record { address = r.address; has = r.has; holds = r.holds }) (object_at objects number).relocs p.relocated;
      others = p.others;
    })

-- the objects
pub unit_object_at : (units : List (List Item)) (unit : ℕ) (d : Object) → unit < length units → get_or (linked_objects units) unit d ≡ unit_object (unit_at units unit)
unit_object_at units unit d h =
    get_or-append (map unit_object units) (object_of runtime ∷ []) d unit (omega (arith, h, length-map units unit_object)) ∙ get_or-map unit_object units unit [] d h

pub runtime_object_at : (units : List (List Item)) (d : Object) → get_or (linked_objects units) (length units) d ≡ object_of runtime
runtime_object_at units d =
    ap (λ (n : ℕ). get_or (linked_objects units) n d) (sym (length-map units unit_object)) ∙ get_or-append_seam (map unit_object units) (object_of runtime) [] d

pub objects_counted : (units : List (List Item)) → length (linked_objects units) ≡ length units + 1
objects_counted units = omega (arith, length-append (map unit_object units) (object_of runtime ∷ []), length-map units unit_object)

-- where the text of a unit begins, behind the first address
abbrev pub origin_of : List (List Item) → ℕ → ℕ
origin_of units unit = offset (text_address (linked_objects units) unit)

-- the address of a name in a unit: that of its own definition, and else that of the one that others see
abbrev address_or : ℕ → ℕ → Option Definition → ℕ
address_or shared origin None = shared
address_or shared origin (Some definition) = 0x08049000 + (origin + definition.begin)

pub name_address : List (List Item) → ℕ → List ℕ → ℕ
name_address units unit name = address_or (shared_address (linked_objects units) name) (origin_of units unit) (Parts.definition_from 0 (unit_at units unit) name) % 4294967296

pub name_address-small : (units : List (List Item)) (unit : ℕ) (name : List ℕ) → name_address units unit name < 2 ^ 32
unfolding name_address
name_address-small units unit name = omega arith

pub name_address-own : (units : List (List Item)) (unit : ℕ) (name : List ℕ) (definition : Definition) → Parts.definition_from 0 (unit_at units unit) name ≡ Some definition
    → name_address units unit name ≡ (0x08049000 + (origin_of units unit + definition.begin)) % 4294967296
unfolding name_address
name_address-own units unit name definition e = ap (λ (o : Option Definition). address_or (shared_address (linked_objects units) name) (origin_of units unit) o % 4294967296) e

pub name_address-shared : (units : List (List Item)) (unit : ℕ) (name : List ℕ) → Parts.definition_from 0 (unit_at units unit) name ≡ None → name_address units unit name ≡ shared_address (linked_objects units) name % 4294967296
unfolding name_address
name_address-shared units unit name e = ap (λ (o : Option Definition). address_or (shared_address (linked_objects units) name) (origin_of units unit) o % 4294967296) e

All-unmap : {X Y : Type 0} (P : Y → Type 0) (f : X → Y) (xs : List X) → All P (map f xs) → All (λ x. P (f x)) xs
All-unmap P f xs a = λ k d h. subst P (get_or-map f xs k d (f d) h) (a k (f d) (omega (arith, h, length-map xs f)))

-- words
pub word_same : (address function addend place other : ℕ) → addend ≡ 0xfffffffc → function ≡ address % 4294967296 → place ≡ other → sub32 (add32 address addend) place ≡ sub32 (add32 function 0xfffffffc) other
word_same address function addend place other a f p = omega (arith, a, f, p)

module _ (units : List (List Item)) (image : ImageParts) (linked : Linked (linked_objects units) image) (fine : link_fault (linked_objects units) ≡ None) where
  abbrev objects : List Object
  objects = linked_objects units

  pub code_short : length linked.code < 2 ^ 24
  code_short =
      let e = linked.ends in let i = linked.inside in let a : texts_end objects ≤ whole_end objects = aligned_from 4096 (texts_end objects) in
      below_24 (length linked.code) (texts_end objects) (whole_end objects) e a i
    where
      below_24 : (size end whole : ℕ) → 0x08049000 + size ≡ end → end ≤ whole → whole ≤ 0x09048000 → size < 2 ^ 24
      below_24 size end whole e a i = omega (arith, e, a, i)

  -- an object's text lies in the code
  pub inside_code : (number : ℕ) (object : Object) → number < length objects → object_at objects number ≡ object
      → (0x08049000 ≤ text_address objects number) × (offset (text_address objects number) + (text_of object).size ≤ length linked.code)
  inside_code number object h e =
      let t = text_inside first_address objects number (record { sections = []; symbols = []; relocs = [] }) h in
      let ends = linked.ends in
      let P : Object → Type 0 = λ o. text_address objects number + (text_of o).size ≤ texts_end objects in
      let n : text_address objects number + (text_of object).size ≤ texts_end objects = subst P e t.1 in
      (t.0, within (text_address objects number) (text_of object).size (texts_end objects) (length linked.code) t.0 n ends)
    where
      within : (at size end long : ℕ) → 0x08049000 ≤ at → at + size ≤ end → 0x08049000 + long ≡ end → at - 0x08049000 + size ≤ long
      within at size end long a b e = omega (arith, a, b, e)

  module _ (unit : ℕ) (is_unit : unit < length units) (each : All IsItem (unit_at units unit)) where
    abbrev items : List Item
    items = unit_at units unit

    abbrev names : List (List ℕ)
    names = Parts.symbol_names items

    is_object : unit < length objects
    is_object = omega (arith, is_unit, objects_counted units)

    placed : PlacedAs objects linked.code unit (unit_object items)
    placed = placed_as objects linked.code unit (unit_object items) (unit_object_at units unit _ is_unit) (linked.placed unit is_object)

    text_there : (0x08049000 ≤ text_address objects unit) × (origin_of units unit + length (Parts.text_of items) ≤ length linked.code)
    text_there = inside_code unit (unit_object items) is_object (unit_object_at units unit _ is_unit)

    -- where a name is
    named_at : (name : List ℕ) (address : ℕ) (o : Option Definition) → Parts.definition_from 0 items name ≡ o → HasAddress objects unit (Parts.symbol_from name o) (Parts.symbol_from name o).place address
        → name_address units unit name ≡ address % 4294967296
    named_at name address None e a = name_address-shared units unit name e ∙ ap (λ (n : ℕ). n % 4294967296) (shared_address-is objects name fine address a)
    named_at name address (Some definition) e a =
        let there = text_there.0 in
        let same : 0x08049000 + (origin_of units unit + definition.begin) ≡ address = moved (text_address objects unit) definition.begin address there a in
        name_address-own units unit name definition e ∙ ap (λ (n : ℕ). n % 4294967296) same
      where
        moved : (at begin address : ℕ) → 0x08049000 ≤ at → address ≡ at + begin → 0x08049000 + (at - 0x08049000 + begin) ≡ address
        moved at begin address l e = omega (arith, l, e)

    word_there : (call : Parts.Use) → In call.callee names → IsOpen (Parts.text_of items) call → RelocatedAs objects linked.code unit (unit_object items) (Parts.reloc_of names call)
        → IsRelocated linked.code (origin_of units unit) (name_address units unit) call
    word_there call known open_word r =
        let symbol : symbol_of (unit_object items) (Parts.number_in names call.callee) ≡ Parts.symbol_of items call.callee = symbol_numbered (Parts.symbol_of items) names call.callee no_symbol no_symbol known in
        let P : SymbolPart → Type 0 = λ s. HasAddress objects unit s s.place r.address in
        let named : name_address units unit call.callee ≡ r.address % 4294967296 = named_at call.callee r.address (Parts.definition_from 0 items call.callee) refl (subst P symbol r.has) in
        let there = text_there.0 in
        let place : text_address objects unit + call.place ≡ 0x08049000 + (origin_of units unit + call.place) = moved (text_address objects unit) call.place there in
        r.holds ∙ ap word_bytes (word_same r.address (name_address units unit call.callee) (word_at (Parts.text_of items) call.place) (text_address objects unit + call.place) (0x08049000 + (origin_of units unit + call.place)) open_word named place)
      where
        moved : (at place : ℕ) → 0x08049000 ≤ at → at + place ≡ 0x08049000 + (at - 0x08049000 + place)
        moved at place l = omega (arith, l)

    known : (call : Parts.Use) → In call.callee (Parts.named items) → Parts.is_used (Parts.unit_uses_from 0 items) call.callee ≡ true → In call.callee names
    known call named used = in_table items each call.callee (Parts.is_static (Parts.definition_from 0 items call.callee)) refl (all_in call.callee [] (Parts.named items) named) used

    pub unit_placed : Placed linked.code (origin_of units unit) (name_address units unit) items
    unit_placed =
        let calls = Parts.unit_uses_from 0 items in
        let relocs = All-unmap (RelocatedAs objects linked.code unit (unit_object items)) (Parts.reloc_of names) calls placed.relocated in
        record {
          inside = text_there.1;
          words = λ k d h. word_there (get_or calls k d) (known (get_or calls k d) (unit_among items 0 k d h) (all_used calls k d h)) (calls_open items k d h) (relocs k d h);
          others = λ byte h apart. placed.others byte h (All-map (λ (reloc : RelocPart). ¬ Covers byte reloc) (Parts.reloc_of names) calls apart);
        }
