-- A name that a unit shows is one that its object defines, and no other name is.
use Rattle.std.specs.Prelude.{◌≡◌, ◌⊎◌, ℕ, ◌+◌, ◌<◌, List, [], ◌∷◌, ◌++◌, length, map, Contains, Option, Some, None, is_some, Bool, true, false, not, ◌&&◌, ◌||◌, codes}
use Rattle.std.specs.List.{list_any}
use Rattle.std.specs.Str.{bytes_eq}
use Rattle.std.proofs.Common.{arith, ◌∙◌, ap, sym, refl, subst, inl, inr}
use Rattle.std.proofs.lemmas.Option.{none-some, same_Some}
use Rattle.std.proofs.lemmas.List.{length-map}
use Rattle.std.proofs.lemmas.List.Folds.{list_any-append}
use Rattle.std.proofs.lemmas.Slice.Eq.{bytes_eq-Decides}
use Rattle.second_form.specs.declared.second_items.SmallStmt.{SmallStmt}
use Rattle.second_form.specs.declared.second_items.Item.{Item}
use Rattle.second_form.specs.SecondForm.{reserved_words}
use Rattle.second_form.specs.SecondFaults.{is_shown}
use Rattle.second_form.specs.SecondRun.{shown, body_or}
use Rattle.elf_file.specs.Object.{Object, object_of, symbol_of, no_symbol}
use Rattle.elf_file.specs.declared.parts.SymbolPart.{SymbolPart}
use Rattle.elf_linker.specs.Placement.{text_address}
use Rattle.elf_linker.specs.Linked.{IsDefinedAt, object_at}
use Rattle.elf_linker.specs.Names.{is_definition, defines, all_symbols, is_defined}
use Rattle.elf_linker.specs.Runtime.{runtime}
use Rattle.second_code.specs.LinkedObjects.{unit_object, linked_objects}
use Rattle.second_code.specs.LinkedUnits.{unit_at}
use Rattle.second_code.specs.Parts as Parts
use Rattle.second_code.specs.declared.definitions.Definition.{Definition}
use Rattle.second_code.proofs.PartsFit.{numbered}
use Rattle.second_code.proofs.Sizes.{symbol_name}
use Rattle.second_code.proofs.UnitSymbols.{ShownAt, shown_in_table, symbol_numbered}
use Rattle.second_code.proofs.PlacedUnits.{unit_object_at, objects_counted}
use Rattle.second_code.proofs.Tests.{or_later, one_of, both_of}

-- a unit shows what it defines and is not static
shown_here : (local same : Bool) (at : ℕ) (o others : Option (List SmallStmt)) (rest : Option Definition) (d : Definition) → (rest ≡ Some d → is_some others ≡ true)
    → Parts.definition_or same local at o rest ≡ Some d → d.local ≡ false → is_some (body_or (not local && same) o others) ≡ true
shown_here false true at (Some b) others rest d more e l = refl
shown_here true true at (Some b) others rest d more e l =
    let same = same_Some (record { local = true; begin = at; extent = Parts.body_size b }) d e in
    let clash : true ≡ false = ap (λ (x : Definition). x.local) same ∙ l in cc
shown_here false true at None others rest d more e l = more e
shown_here true true at None others rest d more e l = more e
shown_here false false at o others rest d more e l = more e
shown_here true false at o others rest d more e l = more e

pub definition_shown : (items : List Item) (at : ℕ) (name : List ℕ) (d : Definition) → Parts.definition_from at items name ≡ Some d → d.local ≡ false → is_shown name items ≡ true
definition_shown [] at name d e l = absurd (none-some d e)
definition_shown (item ∷ items) at name d e l =
    let to = at + Parts.body_size (Parts.body_of item.body) in
    shown_here item.local (bytes_eq item.name name) at item.body (shown items name) (Parts.definition_from to items name) d (λ e. definition_shown items to name d e l) e l

-- what a symbol defines
pub symbol_shows : (items : List Item) (name : List ℕ) (o : Option Definition) → Parts.definition_from 0 items name ≡ o → is_definition (Parts.symbol_from name o) ≡ true → is_shown name items ≡ true
symbol_shows items name None e t = let clash : false ≡ true = t in cc
symbol_shows items name (Some d) e t = definition_shown items 0 name d e (local_not d.local t)
  where
    local_not : (b : Bool) → (not b && true) ≡ true → b ≡ false
    local_not true t = let clash : false ≡ true = t in cc
    local_not false t = refl

pub table_shows : (items : List Item) (names : List (List ℕ)) (name : List ℕ) → list_any (defines name) (map (Parts.symbol_of items) names) ≡ true → is_shown name items ≡ true
table_shows items [] name t = let clash : false ≡ true = t in cc
table_shows items (first ∷ names) name t =
    elim (one_of (defines name (Parts.symbol_of items first)) (list_any (defines name) (map (Parts.symbol_of items) names)) t) [
      | inl here ↦
          let parts = both_of (is_definition (Parts.symbol_of items first)) (bytes_eq (Parts.symbol_of items first).name name) here in
          let same : first ≡ name = sym (symbol_name first (Parts.definition_from 0 items first)) ∙ (bytes_eq-Decides (Parts.symbol_of items first).name name).0 parts.1 in
          let P : List ℕ → Type 0 = λ n. is_shown n items ≡ true in
          subst P same (symbol_shows items first (Parts.definition_from 0 items first) refl parts.0)
      | inr more ↦ table_shows items names name more
    ]

-- what the runtime defines are reserved words
runtime_reserved : (name : List ℕ) → list_any (defines name) (object_of runtime).symbols ≡ true → Contains reserved_words name
runtime_reserved name t =
    elim (one_of (bytes_eq (codes "_start") name) (bytes_eq (codes "getbyte") name || (bytes_eq (codes "putbyte") name || false)) t) [
      | inl a ↦ reserved (codes "_start") a (2, omega arith, refl)
      | inr t ↦
          elim (one_of (bytes_eq (codes "getbyte") name) (bytes_eq (codes "putbyte") name || false) t) [
            | inl b ↦ reserved (codes "getbyte") b (0, omega arith, refl)
            | inr t ↦ elim (one_of (bytes_eq (codes "putbyte") name) false t) [ inl c ↦ reserved (codes "putbyte") c (1, omega arith, refl) | inr f ↦ let clash : false ≡ true = f in cc ]
          ]
    ]
  where
    reserved : (word : List ℕ) → bytes_eq word name ≡ true → Contains reserved_words word → Contains reserved_words name
    reserved word e c = let P : List ℕ → Type 0 = Contains reserved_words in subst P ((bytes_eq-Decides word name).0 e) c

-- a name that the objects define is one that a unit shows, or a reserved word
pub defined_shown : (units : List (List Item)) (name : List ℕ) → is_defined (linked_objects units) name ≡ true → (list_any (is_shown name) units ≡ true) ⊎ Contains reserved_words name
defined_shown [] name t = inr (runtime_reserved name (let n : list_any (defines name) ((object_of runtime).symbols ++ []) ≡ true = t in n))
defined_shown (unit ∷ units) name t =
    let table = map (Parts.symbol_of unit) (Parts.symbol_names unit) in
    let more = all_symbols (linked_objects units) in
    elim (one_of (list_any (defines name) (no_symbol ∷ table)) (list_any (defines name) more) (sym (list_any-append (defines name) (no_symbol ∷ table) more) ∙ t)) [
      | inl here ↦ inl (ap (λ (b : Bool). b || list_any (is_shown name) units) (table_shows unit (Parts.symbol_names unit) name here))
      | inr there ↦ elim (defined_shown units name there) [ inl s ↦ inl (or_later (is_shown name unit) (list_any (is_shown name) units) s) | inr r ↦ inr r ]
    ]

-- a name that a unit shows has an address
pub shown_defined : (units : List (List Item)) (unit : ℕ) (name : List ℕ) (body : List SmallStmt) (s : ShownAt 0 (unit_at units unit) name) → unit < length units → shown (unit_at units unit) name ≡ Some body
    → IsDefinedAt (linked_objects units) name (text_address (linked_objects units) unit + s.definition.begin)
shown_defined units unit name body s h e =
    let objects = linked_objects units in
    let items = unit_at units unit in
    let names = Parts.symbol_names items in
    let known = shown_in_table items name body s e in
    let number = Parts.number_in names name in
    let object : object_at objects unit ≡ unit_object items = unit_object_at units unit _ h in
    let symbol : symbol_of (object_at objects unit) number ≡ Parts.symbol_from name (Some s.definition) =
    ap (λ (o : Object). symbol_of o number) object ∙ symbol_numbered (Parts.symbol_of items) names name no_symbol no_symbol known ∙ ap (Parts.symbol_from name) s.is in
    let L : Object → Type 0 = λ o. number < length o.symbols in
    let inside = numbered names name known in
    let long = length-map names (Parts.symbol_of items) in
    record {
      number = unit;
      symbol = number;
      section = 1;
      in_objects = (let n = objects_counted units in omega (arith, h, n));
      in_table = subst L (sym object) (omega (arith, inside.1, long));
      shown = ap (λ (x : SymbolPart). x.local) symbol ∙ s.global;
      named = ap (λ (x : SymbolPart). x.name) symbol;
      at = (ap (λ (x : SymbolPart). x.place) symbol, ap (λ (x : SymbolPart). text_address objects unit + x.value) (sym symbol));
    }

pub shown_number : (units : List (List Item)) (unit : ℕ) (name : List ℕ) (body : List SmallStmt) (s : ShownAt 0 (unit_at units unit) name) (h : unit < length units) (e : shown (unit_at units unit) name ≡ Some body)
    → (shown_defined units unit name body s h e).number ≡ unit
unfolding shown_defined
shown_number units unit name body s h e = refl
