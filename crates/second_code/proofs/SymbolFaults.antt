-- What the linker asks of the symbol of a name is what is asked of the name.
use Rattle.std.specs.Prelude.{◌≡◌, ◌⊎◌, ℕ, suc, ◌+◌, List, [], ◌∷◌, ◌++◌, map, get_or, Contains, All, Option, Some, None, is_some, Bool, true, false, not, ◌&&◌, ◌||◌, codes}
use Rattle.std.specs.List.{list_any}
use Rattle.std.specs.Str.{bytes_eq}
use Rattle.std.proofs.Common.{arith, ◌∙◌, ap, sym, refl, subst, inl, inr}
use Rattle.std.proofs.lemmas.Option.{none-some}
use Rattle.std.proofs.lemmas.List.{length-map}
use Rattle.std.proofs.lemmas.List.Folds.{list_any_at, list_any-append}
use Rattle.std.proofs.lemmas.Slice.Eq.{bytes_eq-Decides}
use Rattle.second_form.specs.declared.second_items.SmallStmt.{SmallStmt}
use Rattle.second_form.specs.declared.second_items.SmallStmt.TheVariants.{Put, Call, Return}
use Rattle.second_form.specs.declared.second_items.Item.{Item}
use Rattle.second_form.specs.SecondForm.{reserved_words, IsItem, StaticAlike}
use Rattle.second_form.specs.SecondFaults.{is_call_of, has_call_of, is_shown, is_wanted}
use Rattle.second_form.specs.SecondRun.{own, shown}
use Rattle.elf_file.specs.Object.{no_symbol}
use Rattle.elf_linker.specs.Names.{is_definition, is_use, defines, all_symbols, is_defined}
use Rattle.second_code.specs.LinkedObjects.{IsUnit, unit_object, linked_objects}
use Rattle.second_code.specs.Parts as Parts
use Rattle.second_code.specs.declared.definitions.Definition.{Definition}
use Rattle.second_code.proofs.OneDefinition.{defines_when}
use Rattle.second_code.proofs.PartsFit.{In, numbered}
use Rattle.second_code.proofs.ShownDefinitions.{table_shows, symbol_shows, defined_shown}
use Rattle.second_code.proofs.LinkableUnits.{unit_free, is_none}
use Rattle.second_code.proofs.UnitSymbols.{ShownAt, shown_at, shown_in_table, symbol_numbered, own_definition, none_defined}
use Rattle.second_code.proofs.Tests.{or_later, one_of, both_of, same_tests}

some_of : (o : Option (List SmallStmt)) → is_some o ≡ true → (body : List SmallStmt) × (o ≡ Some body)
some_of None e = let clash : false ≡ true = e in cc
some_of (Some body) e = (body, refl)

pub shown_definition : (items : List Item) (name : List ℕ) → StaticAlike items → is_shown name items ≡ true → ShownAt 0 items name
shown_definition items name alike t = let b = some_of (shown items name) t in shown_at items 0 name b.0 alike b.1

-- a name is shown where its symbol is a definition, and where some symbol of the table defines it
pub definition_is : (items : List Item) (name : List ℕ) → StaticAlike items → is_definition (Parts.symbol_of items name) ≡ is_shown name items
definition_is items name alike =
    same_tests (is_definition (Parts.symbol_of items name)) (is_shown name items) (symbol_shows items name (Parts.definition_from 0 items name) refl)
    (λ t. let s = shown_definition items name alike t in
    ap (λ (o : Option Definition). is_definition (Parts.symbol_from name o)) s.is ∙ ap (λ (b : Bool). not b && true) s.global)

table_is : (items : List Item) (name : List ℕ) → StaticAlike items → list_any (defines name) (unit_object items).symbols ≡ is_shown name items
table_is items name alike =
    same_tests (list_any (defines name) (unit_object items).symbols) (is_shown name items) (table_shows items (Parts.symbol_names items) name)
    (λ t.
    let s = shown_definition items name alike t in
    let b = some_of (shown items name) t in
    let names = Parts.symbol_names items in
    let known : In name names = shown_in_table items name b.0 s b.1 in
    let inside = numbered names name known in
    let long = length-map names (Parts.symbol_of items) in
    let symbol : get_or (unit_object items).symbols (Parts.number_in names name) no_symbol ≡ Parts.symbol_from name (Some s.definition) =
    symbol_numbered (Parts.symbol_of items) names name no_symbol no_symbol known ∙ ap (Parts.symbol_from name) s.is in
    list_any_at (defines name) (unit_object items).symbols (Parts.number_in names name) no_symbol (omega (arith, inside.1, long))
    (ap (defines name) symbol ∙ defines_when name (Parts.symbol_from name (Some s.definition)) 1 s.global refl refl))

pub units_define : (units : List (List Item)) (name : List ℕ) → All IsUnit units → list_any (defines name) (all_symbols (map unit_object units)) ≡ list_any (is_shown name) units
units_define [] name are = refl
units_define (unit ∷ units) name are =
    list_any-append (defines name) (unit_object unit).symbols (all_symbols (map unit_object units))
    ∙ (λ i. table_is unit name (are 0 [] (omega arith)).form.rules.alike i || units_define units name (λ k d h. are (suc k) d (omega (arith, h))) i)

-- the objects define what the units show, and the names of the runtime
shown_defines : (units : List (List Item)) (name : List ℕ) → All IsUnit units → list_any (is_shown name) units ≡ true → is_defined (linked_objects units) name ≡ true
shown_defines [] name are t = let clash : false ≡ true = t in cc
shown_defines (unit ∷ units) name are t =
    list_any-append (defines name) (unit_object unit).symbols (all_symbols (linked_objects units))
    ∙ elim (one_of (is_shown name unit) (list_any (is_shown name) units) t) [
      | inl here ↦ ap (λ (b : Bool). b || list_any (defines name) (all_symbols (linked_objects units))) (table_is unit name (are 0 [] (omega arith)).form.rules.alike ∙ here)
      | inr more ↦ or_later (list_any (defines name) (unit_object unit).symbols) (list_any (defines name) (all_symbols (linked_objects units))) (shown_defines units name (λ k d h. are (suc k) d (omega (arith, h))) more)
    ]

pub defined_is : (units : List (List Item)) (name : List ℕ) → All IsUnit units → ¬ Contains reserved_words name → is_defined (linked_objects units) name ≡ list_any (is_shown name) units
defined_is units name are free =
    same_tests (is_defined (linked_objects units) name) (list_any (is_shown name) units)
    (λ t. elim (defined_shown units name t) [ inl s ↦ s | inr r ↦ absurd (free r) ]) (shown_defines units name are)

putbyte_defined : (units : List (List Item)) → is_defined (linked_objects units) (codes "putbyte") ≡ true
putbyte_defined [] = refl
putbyte_defined (unit ∷ units) =
    list_any-append (defines (codes "putbyte")) (unit_object unit).symbols (all_symbols (linked_objects units))
    ∙ or_later (list_any (defines (codes "putbyte")) (unit_object unit).symbols) (list_any (defines (codes "putbyte")) (all_symbols (linked_objects units))) (putbyte_defined units)

-- a used name is called, or it is `putbyte`
used_split : (xs ys : List Parts.Use) (name : List ℕ) → Parts.is_used (xs ++ ys) name ≡ true → (Parts.is_used xs name ≡ true) ⊎ (Parts.is_used ys name ≡ true)
used_split [] ys name t = inr t
used_split (x ∷ xs) ys name t =
    elim (one_of (bytes_eq x.callee name) (Parts.is_used (xs ++ ys) name) t) [
      | inl here ↦ inl (ap (λ (b : Bool). b || Parts.is_used xs name) here)
      | inr more ↦ elim (used_split xs ys name more) [ inl a ↦ inl (or_later (bytes_eq x.callee name) (Parts.is_used xs name) a) | inr b ↦ inr b ]
    ]

abbrev IsCalled : List ℕ → Bool → Type 0
IsCalled name called = (codes "putbyte" ≡ name) ⊎ (called ≡ true)

called_later : (name : List ℕ) (a b : Bool) → IsCalled name b → IsCalled name (a || b)
called_later name true b c = inr refl
called_later name false b c = c

body_called : (body : List SmallStmt) (at : ℕ) (name : List ℕ) → Parts.is_used (Parts.uses_from at body) name ≡ true → IsCalled name (list_any (is_call_of name) body)
body_called [] at name t = let clash : false ≡ true = t in cc
body_called (Put n ∷ body) at name t =
    elim (one_of (bytes_eq (codes "putbyte") name) (Parts.is_used (Parts.uses_from (at + 12) body) name) t) [
      | inl here ↦ inl ((bytes_eq-Decides (codes "putbyte") name).0 here)
      | inr more ↦ body_called body (at + 12) name more
    ]
body_called (Call called ∷ body) at name t =
    elim (one_of (bytes_eq called name) (Parts.is_used (Parts.uses_from (at + 5) body) name) t) [
      | inl here ↦ inr (ap (λ (b : Bool). b || list_any (is_call_of name) body) here)
      | inr more ↦ called_later name (bytes_eq called name) (list_any (is_call_of name) body) (body_called body (at + 5) name more)
    ]
body_called (Return n ∷ body) at name t = body_called body (at + 6) name t

any_called : (o : Option (List SmallStmt)) (at : ℕ) (name : List ℕ) → Parts.is_used (Parts.uses_from at (Parts.body_of o)) name ≡ true → IsCalled name (has_call_of name o)
any_called None at name t = let clash : false ≡ true = t in cc
any_called (Some body) at name t = body_called body at name t

unit_called : (items : List Item) (at : ℕ) (name : List ℕ) → Parts.is_used (Parts.unit_uses_from at items) name ≡ true → IsCalled name (list_any (λ item. has_call_of name item.body) items)
unit_called [] at name t = let clash : false ≡ true = t in cc
unit_called (item ∷ items) at name t =
    let to = at + Parts.body_size (Parts.body_of item.body) in
    let more = list_any (λ item. has_call_of name item.body) items in
    elim (used_split (Parts.uses_from at (Parts.body_of item.body)) (Parts.unit_uses_from to items) name t) [
      | inl here ↦ elim (any_called item.body at name here) [ inl p ↦ inl p | inr c ↦ inr (ap (λ (b : Bool). b || more) c) ]
      | inr later ↦ called_later name (has_call_of name item.body) more (unit_called items to name later)
    ]

-- a symbol that is a use is that of a name with no definition
use_none : (name : List ℕ) (o : Option Definition) → is_use (Parts.symbol_from name o) ≡ true → o ≡ None
use_none name None t = refl
use_none name (Some d) t = absurd (by d.local t)
  where
    by : (b : Bool) → (not b && false) ≡ true → ⊥
    by true t = let clash : false ≡ true = t in cc
    by false t = let clash : false ≡ true = t in cc

own_none : (items : List Item) (name : List ℕ) → Parts.definition_from 0 items name ≡ None → (o : Option (List SmallStmt)) → own items name ≡ o → not (is_some o) ≡ true
own_none items name e None f = refl
own_none items name e (Some body) f = let d = own_definition items 0 name body f in absurd (none-some d.0 (sym e ∙ d.1))

shared_used : (items : List Item) (name : List ℕ) → Parts.definition_from 0 items name ≡ None → Parts.is_shared items name ≡ true → Parts.is_used (Parts.unit_uses_from 0 items) name ≡ true
shared_used items name e t =
    let used = Parts.is_used (Parts.unit_uses_from 0 items) name in
    sym (ap (λ (o : Option Definition). not (Parts.is_static o) && (is_some o || used)) e) ∙ t

static_some : (o : Option Definition) → Parts.is_static o ≡ true → o ≡ None → ⊥
static_some o t e = let clash : true ≡ false = sym t ∙ ap Parts.is_static e in cc

-- a use that no object defines is a name that the unit wants and no unit shows
pub use_is : (units : List (List Item)) (items : List Item) (name : List ℕ) → All IsUnit units → All IsItem items
    → (Parts.is_static (Parts.definition_from 0 items name) ≡ true) ⊎ (Parts.is_shared items name ≡ true)
    → (is_use (Parts.symbol_of items name) && not (is_defined (linked_objects units) name)) ≡ (is_wanted name items && not (list_any (is_shown name) units))
use_is units items name are each has =
    same_tests (is_use (Parts.symbol_of items name) && not (is_defined (linked_objects units) name)) (is_wanted name items && not (list_any (is_shown name) units))
    (λ t.
    let parts = both_of (is_use (Parts.symbol_of items name)) (not (is_defined (linked_objects units) name)) t in
    let none = use_none name (Parts.definition_from 0 items name) parts.0 in
    elim has [
      | inl static ↦ absurd (static_some (Parts.definition_from 0 items name) static none)
      | inr shared ↦
          elim (unit_called items 0 name (shared_used items name none shared)) [
            | inl p ↦ absurd (clash_of (is_defined (linked_objects units) name) (let P : List ℕ → Type 0 = λ n. is_defined (linked_objects units) n ≡ true in subst P p (putbyte_defined units)) parts.1)
            | inr called ↦
                let free = unit_free items name each called in
                let wanted : is_wanted name items ≡ true = ap (λ (b : Bool). b && not (is_some (own items name))) called ∙ own_none items name none (own items name) refl in
                ap (λ (b : Bool). b && not (list_any (is_shown name) units)) wanted ∙ ap not (sym (defined_is units name are free)) ∙ parts.1
          ]
    ])
    (λ t.
    let parts = both_of (is_wanted name items) (not (list_any (is_shown name) units)) t in
    let wanted = both_of (list_any (λ item. has_call_of name item.body) items) (not (is_some (own items name))) parts.0 in
    let free = unit_free items name each wanted.0 in
    let none = none_defined items 0 name (is_none (own items name) wanted.1) in
    ap (λ (o : Option Definition). is_use (Parts.symbol_from name o) && not (is_defined (linked_objects units) name)) none ∙ ap not (defined_is units name are free) ∙ parts.1)
  where
    clash_of : (b : Bool) → b ≡ true → not b ≡ true → ⊥
    clash_of true e t = let clash : false ≡ true = t in cc
    clash_of false e t = let clash : false ≡ true = e in cc
