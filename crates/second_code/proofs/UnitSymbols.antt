-- The symbols of a unit's object: the one of a name, and that of a definition that others see.
use Rattle.std.specs.Prelude.{◌≡◌, ℕ, zero, suc, ◌+◌, List, [], ◌∷◌, map, get_or, Option, Some, None, is_some, Bool, true, false, not, ◌&&◌, ◌||◌, if◌then◌else◌}
use Rattle.std.specs.Str.{bytes_eq}
use Rattle.std.proofs.Common.{◌∙◌, ap, sym, refl, subst, inl, inr}
use Rattle.std.proofs.lemmas.Option.{none-some}
use Rattle.std.proofs.lemmas.Slice.Eq.{bytes_eq-Decides}
use Rattle.second_form.specs.declared.second_items.SmallStmt.{SmallStmt}
use Rattle.second_form.specs.declared.second_items.Item.{Item}
use Rattle.second_form.specs.SecondForm.{StaticAlike, IsAt}
use Rattle.second_form.specs.SecondRun.{own, shown, body_or}
use Rattle.elf_file.specs.declared.parts.SymbolPart.{SymbolPart}
use Rattle.second_code.specs.Parts as Parts
use Rattle.second_code.specs.declared.definitions.Definition.{Definition}
use Rattle.second_code.proofs.Linking.{shown_item, alike_tail}
use Rattle.second_code.proofs.PartsFit.{In, in-right, in-filter, all_in}

-- the symbol with the number of a name
numbered_first : (f : List ℕ → SymbolPart) (first name : List ℕ) (rest : List (List ℕ)) (z d : SymbolPart) → ((z d : SymbolPart) → In name rest → get_or (z ∷ map f rest) (Parts.number_in rest name) d ≡ f name)
    → (b : Bool) → bytes_eq first name ≡ b → In name (first ∷ rest) → get_or (z ∷ f first ∷ map f rest) (if b then 1 else suc (Parts.number_in rest name)) d ≡ f name
numbered_first f first name rest z d more true e h = ap f ((bytes_eq-Decides first name).0 e)
numbered_first f first name rest z d more false e (inl same) = let clash : true ≡ false = sym ((bytes_eq-Decides first name).1 (sym same)) ∙ e in cc
numbered_first f first name rest z d more false e (inr h) = more (f first) d h

pub symbol_numbered : (f : List ℕ → SymbolPart) (names : List (List ℕ)) (name : List ℕ) (z d : SymbolPart) → In name names → get_or (z ∷ map f names) (Parts.number_in names name) d ≡ f name
symbol_numbered f [] name z d h = elim h [ ]
symbol_numbered f (first ∷ rest) name z d h = numbered_first f first name rest z d (λ z d h. symbol_numbered f rest name z d h) (bytes_eq first name) refl h

-- an own definition has its place, and where there is none there is no place
own_first : (same local : Bool) (at : ℕ) (o : Option (List SmallStmt)) (others : Option (List SmallStmt)) (rest : Option Definition) (body : List SmallStmt) → (others ≡ Some body → (d : Definition) × (rest ≡ Some d))
    → body_or same o others ≡ Some body → (d : Definition) × (Parts.definition_or same local at o rest ≡ Some d)
own_first true local at (Some b) others rest body more e = (record { local = local; begin = at; extent = Parts.body_size b }, refl)
own_first true local at None others rest body more e = more e
own_first false local at o others rest body more e = more e

pub own_definition : (items : List Item) (at : ℕ) (name : List ℕ) (body : List SmallStmt) → own items name ≡ Some body → (d : Definition) × (Parts.definition_from at items name ≡ Some d)
own_definition [] at name body e = absurd (none-some body e)
own_definition (item ∷ items) at name body e =
    own_first (bytes_eq item.name name) item.local at item.body (own items name) (Parts.definition_from (at + Parts.body_size (Parts.body_of item.body)) items name) body
    (own_definition items (at + Parts.body_size (Parts.body_of item.body)) name body) e

none_first : (same local : Bool) (at : ℕ) (o : Option (List SmallStmt)) (others : Option (List SmallStmt)) (rest : Option Definition) → (others ≡ None → rest ≡ None) → body_or same o others ≡ None → Parts.definition_or same local at o rest ≡ None
none_first true local at (Some b) others rest more e = absurd (none-some b (sym e))
none_first true local at None others rest more e = more e
none_first false local at o others rest more e = more e

pub none_defined : (items : List Item) (at : ℕ) (name : List ℕ) → own items name ≡ None → Parts.definition_from at items name ≡ None
none_defined [] at name e = refl
none_defined (item ∷ items) at name e =
    none_first (bytes_eq item.name name) item.local at item.body (own items name) (Parts.definition_from (at + Parts.body_size (Parts.body_of item.body)) items name)
    (none_defined items (at + Parts.body_size (Parts.body_of item.body)) name) e

-- what a unit shows is its definition, and that is not static
pub record ShownAt (at : ℕ) (items : List Item) (name : List ℕ) : Type 0 where
  pub definition : Definition
  pub is : Parts.definition_from at items name ≡ Some definition
  pub global : definition.local ≡ false

shown_first : (item : Item) (items : List Item) (at : ℕ) (name : List ℕ) (body : List SmallStmt) → StaticAlike (item ∷ items)
    → (rest : Option Definition) → (shown items name ≡ Some body → (d : Definition) × (rest ≡ Some d) × (d.local ≡ false))
    → (local : Bool) → item.local ≡ local → (same : Bool) → bytes_eq item.name name ≡ same → (o : Option (List SmallStmt)) → body_or (not local && same) o (shown items name) ≡ Some body
    → (d : Definition) × (Parts.definition_or same local at o rest ≡ Some d) × (d.local ≡ false)
shown_first item items at name body alike rest more false l true s (Some b) h = (record { local = false; begin = at; extent = Parts.body_size b }, refl, refl)
shown_first item items at name body alike rest more false l true s None h = more h
shown_first item items at name body alike rest more false l false s o h = more h
shown_first item items at name body alike rest more true l false s o h = more h
shown_first item items at name body alike rest more true l true s o h =
    let w = shown_item items name body h in
    let same_name : item.name ≡ w.item.name = (bytes_eq-Decides item.name name).0 s ∙ sym ((bytes_eq-Decides w.item.name name).0 w.named) in
    let clash : true ≡ false = sym l ∙ alike 0 (suc w.place) item w.item refl w.at same_name ∙ w.global in cc

shown_parts : (items : List Item) (at : ℕ) (name : List ℕ) (body : List SmallStmt) → StaticAlike items → shown items name ≡ Some body → (d : Definition) × (Parts.definition_from at items name ≡ Some d) × (d.local ≡ false)
shown_parts [] at name body alike e = absurd (none-some body e)
shown_parts (item ∷ items) at name body alike e =
    let to = at + Parts.body_size (Parts.body_of item.body) in
    shown_first item items at name body alike (Parts.definition_from to items name) (shown_parts items to name body (alike_tail item items alike)) item.local refl (bytes_eq item.name name) refl item.body e

pub shown_at : (items : List Item) (at : ℕ) (name : List ℕ) (body : List SmallStmt) → StaticAlike items → shown items name ≡ Some body → ShownAt at items name
shown_at items at name body alike e = let d = shown_parts items at name body alike e in record { definition = d.0; is = d.1; global = d.2 }

-- an item's name is named, and a shown definition has a symbol
item_named : (items : List Item) (place : ℕ) (item : Item) → IsAt items place item → In item.name (Parts.named items)
item_named [] place item at = absurd (none-some item at)
item_named (first ∷ items) zero item at = let same : first ≡ item = cc in inl (ap (λ (i : Item). i.name) (sym same))
item_named (first ∷ items) (suc place) item at = inr (in-right item.name _ (Parts.named items) (item_named items place item at))

shown_named : (items : List Item) (name : List ℕ) (body : List SmallStmt) → shown items name ≡ Some body → In name (Parts.named items)
shown_named items name body e =
    let w = shown_item items name body e in
    let P : List ℕ → Type 0 = λ n. In n (Parts.named items) in
    subst P ((bytes_eq-Decides w.item.name name).0 w.named) (item_named items w.place w.item w.at)

pub shown_in_table : (items : List Item) (name : List ℕ) (body : List SmallStmt) → ShownAt 0 items name → shown items name ≡ Some body → In name (Parts.symbol_names items)
shown_in_table items name body s e =
    let used = Parts.is_used (Parts.unit_uses_from 0 items) name in
    let shared : Parts.is_shared items name ≡ true =
    ap (λ (o : Option Definition). not (Parts.is_static o) && (is_some o || used)) s.is ∙ ap (λ (b : Bool). not b && true) s.global in
    in-right name _ _ (in-filter (Parts.is_shared items) name (Parts.first_sights items) (all_in name [] (Parts.named items) (shown_named items name body e)) shared)
