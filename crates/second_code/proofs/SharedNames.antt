-- The address of a name that other objects see, as a function of the name.
use Rattle.std.specs.Prelude.{◌≡◌, ℕ, ◌+◌, List, [], Option, Some, None, Bool, true, false, not}
use Rattle.std.specs.Str.{bytes_eq}
use Rattle.std.proofs.Common.{arith, ◌∙◌, ap, sym, refl}
use Rattle.std.proofs.lemmas.Option.{none-some, same_Some}
use Rattle.std.proofs.lemmas.Slice.Eq.{bytes_eq-Decides}
use Rattle.cc_base.specs.Faces.{first_answer}
use Rattle.elf_file.specs.Object.{Object, no_symbol, symbol_of}
use Rattle.elf_file.specs.declared.parts.SymbolPart.{SymbolPart}
use Rattle.elf_file.specs.declared.parts.SymbolPlace.{SymbolPlace}
use Rattle.elf_file.specs.declared.parts.SymbolPlace.TheVariants.{Undefined, At, Absolute}
use Rattle.elf_linker.specs.Placement.{section_address}
use Rattle.elf_linker.specs.Names.{link_fault}
use Rattle.elf_linker.specs.Linked.{object_at, IsDefinedAt}
use Rattle.second_code.proofs.FirstAnswers.{first_none, AnswersAt, answers_at}
use Rattle.second_code.proofs.OneDefinition.{one_address}

-- where a symbol's place is in a section
abbrev address_at : List Object → ℕ → ℕ → SymbolPlace → Option ℕ
address_at objects number value Undefined = None
address_at objects number value (At section) = Some (section_address objects number section + value)
address_at objects number value Absolute = None

abbrev address_if : Bool → Option ℕ → Option ℕ
address_if true o = o
address_if false o = None

abbrev symbol_address : List Object → List ℕ → ℕ → ℕ → SymbolPart → Option ℕ
symbol_address objects name number place s = address_if (not s.local) (address_if (bytes_eq s.name name) (address_at objects number s.value s.place))

abbrev object_address : List Object → List ℕ → ℕ → Object → Option ℕ
object_address objects name number object = first_answer (symbol_address objects name number) 0 object.symbols

abbrev address_found : List Object → List ℕ → Option ℕ
address_found objects name = first_answer (object_address objects name) 0 objects

abbrev or_zero : Option ℕ → ℕ
or_zero None = 0
or_zero (Some address) = address

-- the address of the first definition of the name, and 0 where there is none
pub shared_address : List Object → List ℕ → ℕ
shared_address objects name = or_zero (address_found objects name)

-- what a symbol with an address is
record HasSection (objects : List Object) (number value : ℕ) (place : SymbolPlace) (address : ℕ) : Type 0 where
  section : ℕ
  is : place ≡ At section
  address_is : address ≡ section_address objects number section + value

has_section : (objects : List Object) (number value : ℕ) (place : SymbolPlace) (address : ℕ) → address_at objects number value place ≡ Some address → HasSection objects number value place address
has_section objects number value Undefined address e = absurd (none-some address e)
has_section objects number value (At section) address e = record { section = section; is = refl; address_is = sym (same_Some (section_address objects number section + value) address e) }
has_section objects number value Absolute address e = absurd (none-some address e)

passed : (b : Bool) (o : Option ℕ) (address : ℕ) → address_if b o ≡ Some address → (b ≡ true) × (o ≡ Some address)
passed true o address e = (refl, e)
passed false o address e = absurd (none-some address e)

not_true : (b : Bool) → not b ≡ true → b ≡ false
not_true true e = let clash : false ≡ true = e in cc
not_true false e = refl

module _ (objects : List Object) (name : List ℕ) where
  -- what is found is the address of a definition
  found_defines : (address : ℕ) → address_found objects name ≡ Some address → IsDefinedAt objects name address
  found_defines address e =
      let a : AnswersAt (object_address objects name) 0 objects address = answers_at (object_address objects name) 0 objects address e in
      let object = object_at objects a.number in
      let counts = a.counts in let inside = a.inside in
      let same : a.place ≡ a.number = omega (arith, counts) in
      let inner : object_address objects name a.number object ≡ Some address =
      ap (λ (n : ℕ). object_address objects name a.number (object_at objects n)) (sym same) ∙ a.is (record { sections = []; symbols = []; relocs = [] }) in
      let s : AnswersAt (symbol_address objects name a.number) 0 object.symbols address = answers_at (symbol_address objects name a.number) 0 object.symbols address inner in
      let symbol = symbol_of object s.place in
      let seen = passed (not symbol.local) (address_if (bytes_eq symbol.name name) (address_at objects a.number symbol.value symbol.place)) address (s.is no_symbol) in
      let named = passed (bytes_eq symbol.name name) (address_at objects a.number symbol.value symbol.place) address seen.1 in
      let stands = has_section objects a.number symbol.value symbol.place address named.1 in
      record {
        number = a.number;
        symbol = s.place;
        section = stands.section;
        in_objects = omega (arith, counts, inside);
        in_table = s.inside;
        shown = not_true symbol.local seen.0;
        named = (bytes_eq-Decides symbol.name name).0 named.0;
        at = (stands.is, stands.address_is);
      }

  -- and where a definition is something is found
  something_found : (address : ℕ) → IsDefinedAt objects name address → address_found objects name ≡ None → ⊥
  something_found address d none =
      let object = object_at objects d.number in
      let symbol = symbol_of object d.symbol in
      let inner : object_address objects name d.number object ≡ None = first_none (object_address objects name) 0 objects none d.number d.number (record { sections = []; symbols = []; relocs = [] }) (omega arith) d.in_objects in
      let nothing : symbol_address objects name d.number d.symbol symbol ≡ None = first_none (symbol_address objects name d.number) 0 object.symbols inner d.symbol d.symbol no_symbol (omega arith) d.in_table in
      let something : symbol_address objects name d.number d.symbol symbol ≡ Some (section_address objects d.number d.section + symbol.value) =
      ap (λ (b : Bool). address_if (not b) (address_if (bytes_eq symbol.name name) (address_at objects d.number symbol.value symbol.place))) d.shown
      ∙ ap (λ (b : Bool). address_if b (address_at objects d.number symbol.value symbol.place)) ((bytes_eq-Decides symbol.name name).1 d.named)
      ∙ ap (address_at objects d.number symbol.value) d.at.0 in
      none-some (section_address objects d.number d.section + symbol.value) (sym nothing ∙ something)

  address_is : link_fault objects ≡ None → (address : ℕ) → IsDefinedAt objects name address → (o : Option ℕ) → address_found objects name ≡ o → or_zero o ≡ address
  address_is fine address d None e = absurd (something_found address d e)
  address_is fine address d (Some found) e = one_address objects fine name found address (found_defines found e) d

  -- the address of a definition is the name's
  pub shared_address-is : link_fault objects ≡ None → (address : ℕ) → IsDefinedAt objects name address → shared_address objects name ≡ address
  unfolding shared_address
  shared_address-is fine address d = address_is fine address d (address_found objects name) refl
