-- The addresses of symbols.
use Rattle.std.proofs.Common.{◌≡◌, ℕ, zero, suc, ◌+◌, ◌<◌, ◌≤◌, List, [], ◌∷◌, Option, None, Some, Bool, true, false, get_or, length, ap, ◌∙◌, sym, refl, subst, arith}
use Rattle.std.specs.Prelude.{◌==◌, ◌&&◌, not, cond, find, All, if◌then◌else◌}
use Rattle.std.specs.List.{list_any}
use Rattle.std.specs.Str.{bytes_eq}
use Rattle.std.proofs.lemmas.Option.{none-some, same_Some}
use Rattle.std.proofs.lemmas.Slice.Eq.{bytes_eq-Decides}
use Rattle.elf_file.specs.Image.{end_address}
use Rattle.elf_file.specs.Object.{Object, object_of, symbol_of, no_symbol}
use Rattle.elf_file.specs.Read.{OnlyText}
use Rattle.elf_file.specs.WellFormed.{IsPlaced as IsPlacedIn, SymbolFits, section_sizes}
use Rattle.elf_file.specs.declared.parts.ObjectParts.{ObjectParts}
use Rattle.elf_file.specs.declared.parts.SymbolPart.{SymbolPart}
use Rattle.elf_file.specs.declared.parts.SymbolPlace.{SymbolPlace}
use Rattle.elf_file.specs.declared.parts.SymbolPlace.TheVariants.{Undefined, At, Absolute}
use Rattle.elf_linker.specs.Placement.{text_of, text_address, whole_end, section_address}
use Rattle.elf_linker.specs.Names.{defines, is_in_section}
use Rattle.elf_linker.specs.Linked.{object_at}
use Rattle.elf_linker.specs.LinkSteps.{AreObjects, symbol_at, IsNoted, IsFirst}
use Rattle.elf_linker.specs.declared.definitions.Site.{Site}
use Rattle.elf_linker.proofs.Noting.{any-find}
use Rattle.elf_linker.proofs.Placing.{object_read, text_size, near}

-- a place in one of the sections of an object with text alone, behind an address of text or behind all text
place_inside : (parts : ObjectParts) → OnlyText parts → (symbol : SymbolPart) (section : ℕ) → IsPlacedIn (section_sizes parts) symbol (At section) → (text behind : ℕ)
    → text + length parts.text ≤ end_address → behind ≤ end_address → (if section == 1 then text else behind) + symbol.value ≤ end_address
place_inside parts only symbol zero p text behind t b = let h : ⊥ = (let some = p.0 in omega (arith, some)) in absurd h
place_inside parts only symbol (suc zero) p text behind t b = let h = p.2 in omega (arith, h, t)
place_inside parts only symbol (suc (suc zero)) p text behind t b = let h = p.2 in let n = ap (λ (xs : List ℕ). length xs) only.fixed in omega (arith, h, n, b)
place_inside parts only symbol (suc (suc (suc zero))) p text behind t b = let h = p.2 in let n = ap (λ (xs : List ℕ). length xs) only.held in omega (arith, h, n, b)
place_inside parts only symbol (suc (suc (suc (suc zero)))) p text behind t b = let h = p.2 in let n = only.zeros in omega (arith, h, n, b)
place_inside parts only symbol (suc (suc (suc (suc (suc n))))) p text behind t b = let h : ⊥ = (let few = p.1 in omega (arith, few)) in absurd h

no_place : (section : ℕ) → Undefined ≡ At section → ⊥
no_place section e = let clash : Undefined ≡ At section = e in cc

symbol_inside : (parts : ObjectParts) → OnlyText parts → All (SymbolFits (section_sizes parts)) parts.symbols → (symbol section : ℕ) → symbol < length parts.symbols + 1
    → (symbol_of (object_of parts) symbol).place ≡ At section → (text behind : ℕ) → text + length parts.text ≤ end_address → behind ≤ end_address
    → (if section == 1 then text else behind) + (symbol_of (object_of parts) symbol).value ≤ end_address
symbol_inside parts only fits zero section l e text behind t b = absurd (no_place section e)
symbol_inside parts only fits (suc symbol) section l e text behind t b =
    let s = get_or parts.symbols symbol no_symbol in
    let fit : SymbolFits (section_sizes parts) s = fits symbol no_symbol (omega (arith, l)) in
    let P : SymbolPlace → Type 0 = λ p. IsPlacedIn (section_sizes parts) s p in
    place_inside parts only s section (subst P e fit.placed) text behind t b

-- the address of a symbol in a section is inside the image
pub address_inside : (objects : List Object) → AreObjects objects → whole_end objects ≤ end_address → (number symbol section : ℕ) → number < length objects → symbol < length (object_at objects number).symbols
    → (symbol_at objects number symbol).place ≡ At section → section_address objects number section + (symbol_at objects number symbol).value ≤ end_address
address_inside objects are inside number symbol section l s e =
    let i = object_read objects are number l in
    let n = near objects are inside number l in
    let size = text_size (object_at objects number) i ∙ ap (λ (o : Object). length (text_of o).bytes) i.is in
    let P : Object → Type 0 = λ o. symbol < length o.symbols → (symbol_of o symbol).place ≡ At section → section_address objects number section + (symbol_of o symbol).value ≤ end_address in
    let to = n.to in
    subst P (sym i.is)
    (λ t p. symbol_inside i.parts i.only_text i.well_formed.symbols symbol section (omega (arith, t)) p (text_address objects number) (whole_end objects) (omega (arith, to, size)) inside)
    s e

-- what is noted defines the name
found_passes_by : (p : SymbolPart → Bool) (x y : SymbolPart) (rest : Option SymbolPart) → (rest ≡ Some y → p y ≡ true) → (b : Bool) → p x ≡ b → cond b (Some x) rest ≡ Some y → p y ≡ true
found_passes_by p x y rest more true t e = subst (λ (z : SymbolPart). p z ≡ true) (same_Some x y e) t
found_passes_by p x y rest more false t e = more e

pub found_passes : (p : SymbolPart → Bool) (xs : List SymbolPart) (y : SymbolPart) → find p xs ≡ Some y → p y ≡ true
found_passes p [] y e = absurd (none-some y e)
found_passes p (x ∷ xs) y e = found_passes_by p x y (find p xs) (found_passes p xs y) (p x) refl e

pub record Defines (name : List ℕ) (symbol : SymbolPart) : Type 0 where
  pub shown : symbol.local ≡ false
  pub placed : is_in_section symbol.place ≡ true
  pub named : symbol.name ≡ name

defines_by : (name : List ℕ) (symbol : SymbolPart) (local placed : Bool) → symbol.local ≡ local → is_in_section symbol.place ≡ placed → ((not local && placed) && bytes_eq symbol.name name) ≡ true → Defines name symbol
defines_by name symbol true placed a b e = let clash : false ≡ true = e in cc
defines_by name symbol false false a b e = let clash : false ≡ true = e in cc
defines_by name symbol false true a b e = record { shown = a; placed = b; named = (bytes_eq-Decides symbol.name name).0 e }

pub defines-is : (name : List ℕ) (symbol : SymbolPart) → defines name symbol ≡ true → Defines name symbol
defines-is name symbol e = defines_by name symbol symbol.local (is_in_section symbol.place) refl refl e

pub noted_site : (objects : List Object) (symbols : List SymbolPart) (name : List ℕ) (o : Option Site) (site : Site) → IsNoted objects symbols name o → o ≡ Some site → IsFirst objects symbols name site
noted_site objects symbols name o site n e = let P : Option Site → Type 0 = λ x. IsNoted objects symbols name x in subst P e n

pub noted_defines : (objects : List Object) (symbols : List SymbolPart) (name : List ℕ) (site : Site) → IsFirst objects symbols name site → Defines name (symbol_at objects site.object site.symbol)
noted_defines objects symbols name site f = defines-is name (symbol_at objects site.object site.symbol) (found_passes (defines name) symbols (symbol_at objects site.object site.symbol) f.first)

-- a name that is defined is noted
pub noted_is : (objects : List Object) (symbols : List SymbolPart) (name : List ℕ) (o : Option Site) → IsNoted objects symbols name o → list_any (defines name) symbols ≡ true → o ≡ None → ⊥
noted_is objects symbols name o n t e =
    let P : Option Site → Type 0 = λ x. IsNoted objects symbols name x in
    let f = (any-find (defines name) symbols).0 (subst P e n) in let clash : false ≡ true = sym f ∙ t in cc

pub not_undefined : (place : SymbolPlace) → is_in_section place ≡ true → place ≡ Undefined → ⊥
not_undefined place t e = let clash : true ≡ false = sym t ∙ ap is_in_section e in cc

pub not_absolute : (place : SymbolPlace) → is_in_section place ≡ true → place ≡ Absolute → ⊥
not_absolute place t e = let clash : true ≡ false = sym t ∙ ap is_in_section e in cc
