-- From the checks of names to what relocation needs, and the runtime as the last object.
use Rattle.std.proofs.Common.{◌≡◌, ◌≢◌, ℕ, zero, suc, ◌+◌, ◌-◌, ◌<◌, ◌≤◌, List, [], ◌∷◌, ◌++◌, Option, None, Some, Bool, true, false, length, get_or, refl, sym, ap, ◌∙◌, subst, arith, length-append}
use Rattle.std.specs.Prelude.{All, cond, not, ◌&&◌}
use Rattle.std.specs.Option.{option_or}
use Rattle.std.proofs.Math.Seq.{get_or-append_seam}
use Rattle.std.proofs.lemmas.Option.{none-some}
use Rattle.std.proofs.lemmas.List.Elements.{All-append, All-from_recursion}
use Rattle.cc_base.specs.Faces.{first_answer}
use Rattle.elf_file.specs.Image.{first_address}
use Rattle.elf_file.specs.Object.{Object, object_of, symbol_of, no_symbol}
use Rattle.elf_file.specs.Read.{IsObject}
use Rattle.elf_file.specs.WellFormed.{SymbolFits, IsPlaced as IsPlacedIn, section_sizes}
use Rattle.elf_file.specs.declared.parts.ObjectParts.{ObjectParts}
use Rattle.elf_file.specs.declared.parts.SymbolPart.{SymbolPart}
use Rattle.elf_file.specs.declared.parts.RelocPart.{RelocPart}
use Rattle.elf_file.specs.declared.parts.SymbolPlace.{SymbolPlace}
use Rattle.elf_file.specs.declared.parts.SymbolPlace.TheVariants.{Undefined, At, Absolute}
use Rattle.elf_linker.specs.Runtime.{runtime}
use Rattle.elf_linker.specs.Placement.{text_of, texts_end}
use Rattle.elf_linker.specs.Inputs.{AreInputs}
use Rattle.elf_linker.specs.Names.{is_use, is_nowhere, is_defined, unresolved}
use Rattle.elf_linker.specs.Linked.{object_at}
use Rattle.elf_linker.specs.LinkSteps.{AreObjects, AreAnswered, IsAnswered, unresolved_at, HasRuntime}
use Rattle.elf_linker.specs.declared.fault.LinkFault.{LinkFault}
use Rattle.elf_linker.specs.declared.fault.LinkFault.TheVariants.{Unresolved}
use Rattle.elf_linker.proofs.Placing.{object_read, stands, ends_inside}

-- where no item has an answer
none_of_both : {R : Type 0} (a b : Option R) → option_or a b ≡ None → (a ≡ None) × (b ≡ None)
none_of_both None b e = (refl, e)
none_of_both (Some x) b e = absurd (none-some x (sym e))

none_each : {A R : Type 0} (ask : ℕ → A → Option R) (k : ℕ) (xs : List A) → first_answer ask k xs ≡ None → (i : ℕ) (d : A) → i < length xs → ask (k + i) (get_or xs i d) ≡ None
none_each ask k [] e i d l = let no : ⊥ = omega (arith, l) in absurd no
none_each {A} {R} ask k (x ∷ xs) e zero d l = ap (λ (n : ℕ). ask n x) (let z : k + zero ≡ k = omega arith in z) ∙ (none_of_both (ask k x) (first_answer ask (k + 1) xs) e).0
none_each {A} {R} ask k (x ∷ xs) e (suc i) d l =
    ap (λ (n : ℕ). ask n (get_or xs i d)) (let z : k + suc i ≡ k + 1 + i = omega arith in z) ∙ none_each ask (k + 1) xs (none_of_both (ask k x) (first_answer ask (k + 1) xs) e).1 i d (omega (arith, l))

none_at : {A R : Type 0} (ask : ℕ → A → Option R) (xs : List A) → first_answer ask 0 xs ≡ None → (i : ℕ) (d : A) → i < length xs → ask i (get_or xs i d) ≡ None
none_at {A} ask xs e i d l = ap (λ (n : ℕ). ask n (get_or xs i d)) (let z : i ≡ 0 + i = omega arith in z) ∙ none_each ask 0 xs e i d l

defined_by : (fault : LinkFault) (used defined : Bool) → used ≡ true → cond (used && not defined) (Some fault) None ≡ None → defined ≡ true
defined_by fault true true u e = refl
defined_by fault true false u e = absurd (none-some fault (sym e))
defined_by fault false defined u e = let clash : false ≡ true = u in cc

shown_use : (symbol : SymbolPart) → symbol.local ≡ false → symbol.place ≡ Undefined → is_use symbol ≡ true
shown_use symbol local place = ap (λ (b : Bool). not b && is_nowhere symbol.place) local ∙ ap (λ (p : SymbolPlace). is_nowhere p) place

use_of : (parts : ObjectParts) → All (SymbolFits (section_sizes parts)) parts.symbols → (symbol : ℕ) → 0 < symbol → symbol < length parts.symbols + 1 → (symbol_of (object_of parts) symbol).place ≡ Undefined → is_use (symbol_of (object_of parts) symbol) ≡ true
use_of parts fits zero some l e = let no : ⊥ = omega (arith, some) in absurd no
use_of parts fits (suc symbol) some l e =
    let s = get_or parts.symbols symbol no_symbol in
    let fit : SymbolFits (section_sizes parts) s = fits symbol no_symbol (omega (arith, l)) in
    let P : SymbolPlace → Type 0 = λ p. IsPlacedIn (section_sizes parts) s p in
    shown_use s (subst P e fit.placed) e

-- a symbol of an object that is read: one that is undefined is a use
symbol_use : (object : Object) → IsObject object → (symbol : ℕ) → 0 < symbol → symbol < length object.symbols → (symbol_of object symbol).place ≡ Undefined → is_use (symbol_of object symbol) ≡ true
symbol_use object i symbol some l e =
    let P : Object → Type 0 = λ o. symbol < length o.symbols → (symbol_of o symbol).place ≡ Undefined → is_use (symbol_of o symbol) ≡ true in
    subst P (sym i.is) (λ m p. use_of i.parts i.well_formed.symbols symbol some (omega (arith, m)) p) l e

-- the symbol of a relocation
record RelocSymbol (object : Object) (reloc : RelocPart) : Type 0 where
  some : 0 < reloc.symbol
  inside : reloc.symbol < length object.symbols
  against : (symbol_of object reloc.symbol).place ≢ Absolute

against_in : (parts : ObjectParts) (symbol : ℕ) → 0 < symbol → symbol ≤ length parts.symbols → ((d : SymbolPart) → (get_or parts.symbols (symbol - 1) d).place ≢ Absolute) → (symbol_of (object_of parts) symbol).place ≢ Absolute
against_in parts zero some l h = let no : ⊥ = omega (arith, some) in absurd no
against_in parts (suc symbol) some l h =
    let P : ℕ → Type 0 = λ n. (get_or parts.symbols n no_symbol).place ≢ Absolute in subst P (let e : suc symbol - 1 ≡ symbol = omega arith in e) (h no_symbol)

reloc_symbol : (object : Object) → IsObject object → (k : ℕ) (d : RelocPart) → k < length object.relocs → RelocSymbol object (get_or object.relocs k d)
reloc_symbol object i k d l =
    let P : Object → Type 0 = λ o. k < length o.relocs → RelocSymbol o (get_or o.relocs k d) in
    subst P (sym i.is) (λ m.
    let fits = i.well_formed.relocs k d m in let t = fits.in_table in
    record { some = fits.after_zero; inside = omega (arith, t); against = against_in i.parts (get_or i.parts.relocs k d).symbol fits.after_zero fits.in_table fits.against }) l

answer : (objects : List Object) (symbol : SymbolPart) → symbol.place ≢ Absolute → (symbol.place ≡ Undefined → is_defined objects symbol.name ≡ true) → (place : SymbolPlace) → symbol.place ≡ place → IsAnswered objects symbol place
answer objects symbol apart defined Undefined e = defined e
answer objects symbol apart defined (At section) e = tt
answer objects symbol apart defined Absolute e = absurd (apart e)

-- where no use is unresolved, each relocation has an address
pub answered : (objects : List Object) → AreObjects objects → first_answer (unresolved objects) 0 objects ≡ None → AreAnswered objects
answered objects are none number l k d m =
    let object = object_at objects number in let read = object_read objects are number l in
    let reloc = get_or object.relocs k d in
    let fits = reloc_symbol object read k d m in
    answer objects (symbol_of object reloc.symbol) fits.against
    (λ e. defined_by (Unresolved number reloc.symbol) (is_use (symbol_of object reloc.symbol)) (is_defined objects (symbol_of object reloc.symbol).name) (symbol_use object read reloc.symbol fits.some fits.inside e)
    (none_at (unresolved_at objects number) object.symbols (none_at (unresolved objects) objects none number (record { sections = []; symbols = []; relocs = [] }) l) reloc.symbol no_symbol fits.inside))
    (symbol_of object reloc.symbol).place refl

-- the last object is the runtime, whose text is not empty
pub some_text : (objects : List Object) → AreObjects objects → HasRuntime objects → first_address < texts_end objects
some_text objects are has =
    let n = length has.given in
    let count = ap (λ (xs : List Object). length xs) has.is ∙ length-append has.given (object_of runtime ∷ []) in
    let l : n < length objects = omega (arith, count) in
    let last = ap (λ (xs : List Object). object_at xs n) has.is ∙ get_or-append_seam has.given (object_of runtime) [] (record { sections = []; symbols = []; relocs = [] }) in
    let size = ap (λ (o : Object). (text_of o).size) last in
    let s = stands objects are n l in let from = s.from in let to = s.to in
    let a = (ends_inside objects are n (omega (arith, l))).0 in let b = (ends_inside objects are (n + 1) (omega (arith, l))).1 in
    omega (arith, from, to, a, b, size)

-- the objects that are given and the runtime behind them
pub are_objects : (given : List Object) (last : Object) → AreInputs given → IsObject last → AreObjects (given ++ last ∷ [])
are_objects given last are is = record {
  few = (let n = length-append given (last ∷ []) in let f = are.few in omega (arith, n, f));
  read = All-append IsObject given (last ∷ []) are.read (All-from_recursion IsObject (last ∷ []) (is, tt));
}
