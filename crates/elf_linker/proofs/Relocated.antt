-- Relocations inside an object's text.
use Rattle.std.proofs.Common.{◌≡◌, ℕ, zero, suc, ◌+◌, ◌-◌, ◌<◌, ◌≤◌, List, take, drop, get_or, length, ap, ◌∙◌, sym, refl, subst, arith}
use Rattle.std.specs.Prelude.{slice_index}
use Rattle.elf_file.specs.Image.{first_address, end_address}
use Rattle.elf_file.specs.Object.{Object, reloc_of, symbol_of, no_reloc}
use Rattle.elf_file.specs.Places.{word_at}
use Rattle.cc_base.specs.Words.{word_bytes}
use Rattle.elf_file.specs.Read.{IsObject, OnlyText}
use Rattle.elf_file.specs.WellFormed.{RelocFits, section_sizes}
use Rattle.elf_file.specs.declared.parts.ObjectParts.{ObjectParts}
use Rattle.elf_file.specs.declared.parts.RelocPart.{RelocPart}
use Rattle.elf_linker.specs.Placement.{text_of, text_address}
use Rattle.elf_linker.specs.Linked.{object_at, offset, stored, HasAddress, IsRelocated}
use Rattle.elf_linker.specs.LinkSteps.{FitImage}
use Rattle.elf_linker.proofs.Placing.{text_size, object_read, near, stands}

-- the word is inside the text, and the symbol in the table
pub record IsInside (object : Object) (reloc : RelocPart) : Type 0 where
  pub word : reloc.offset + 4 ≤ (text_of object).size
  pub symbol : reloc.symbol < length object.symbols

by_section : (parts : ObjectParts) → OnlyText parts → (reloc : RelocPart) (section : ℕ) → (0 < section) × (section ≤ 3) × (reloc.offset + 4 ≤ slice_index (section_sizes parts) section) → reloc.offset + 4 ≤ length parts.text
by_section parts only reloc zero p = let h : ⊥ = (let some = p.0 in omega (arith, some)) in absurd h
by_section parts only reloc (suc zero) p = p.2
by_section parts only reloc (suc (suc zero)) p = let h = p.2 in let n = ap (λ (xs : List ℕ). length xs) only.fixed in omega (arith, h, n)
by_section parts only reloc (suc (suc (suc zero))) p = let h = p.2 in let n = ap (λ (xs : List ℕ). length xs) only.held in omega (arith, h, n)
by_section parts only reloc (suc (suc (suc (suc n)))) p = let h : ⊥ = (let few = p.1 in omega (arith, few)) in absurd h

text_alone : (parts : ObjectParts) → OnlyText parts → (reloc : RelocPart) (section : ℕ) → reloc.section ≡ section → RelocFits (section_sizes parts) parts.symbols reloc → reloc.offset + 4 ≤ length parts.text
text_alone parts only reloc section e fits =
    let P : ℕ → Type 0 = λ n. (0 < n) × (n ≤ 3) × (reloc.offset + 4 ≤ slice_index (section_sizes parts) n) in
    by_section parts only reloc section (subst P e (fits.from_text, fits.to_writable, fits.inside))

pub reloc_inside : (object : Object) → IsObject object → (index : ℕ) → index < length object.relocs → IsInside object (reloc_of object index)
reloc_inside object i index l =
    let P : Object → Type 0 = λ o. index < length o.relocs → IsInside o (reloc_of o index) in
    subst P (sym i.is) (λ k.
    let fits : RelocFits (section_sizes i.parts) i.parts.symbols (get_or i.parts.relocs index no_reloc) = i.well_formed.relocs index no_reloc k in
    let t = fits.in_table in
    record { word = text_alone i.parts i.only_text (get_or i.parts.relocs index no_reloc) (get_or i.parts.relocs index no_reloc).section refl fits; symbol = omega (arith, t) }) l

-- where a relocation of an object is reached
pub record Reached (objects : List Object) (number : ℕ) (reloc : RelocPart) (text : ℕ) (bytes : List ℕ) : Type 0 where
  pub word : reloc.offset + 4 ≤ length bytes
  pub symbol : reloc.symbol < length (object_at objects number).symbols
  pub from : first_address ≤ text
  pub to : text + reloc.offset + 4 ≤ end_address
  pub copied : reloc.offset + 4 ≤ (text_of (object_at objects number)).size

pub reached : (objects : List Object) → FitImage objects → (number index : ℕ) → number < length objects → index < length (object_at objects number).relocs → (view : Object) → view ≡ object_at objects number
    → (reloc : RelocPart) → reloc ≡ reloc_of view index → (text : ℕ) → text ≡ text_address objects number → (bytes : List ℕ) → bytes ≡ (text_of view).bytes → Reached objects number reloc text bytes
reached objects fit number index l k view v reloc r text t bytes b =
    let read = object_read objects fit.are number l in
    let object = object_at objects number in
    let P : RelocPart → Type 0 = λ x. IsInside object x in
    let i = subst P (sym (r ∙ ap (λ (o : Object). reloc_of o index) v)) (reloc_inside object read index k) in
    let n = near objects fit.are fit.inside number l in let to = n.to in let first = n.first in
    let s = stands objects fit.are number l in let from = s.from in
    let size = text_size object read ∙ ap (λ (xs : List ℕ). length xs) (sym (b ∙ ap (λ (o : Object). (text_of o).bytes) v)) in
    let w = i.word in
    record { word = omega (arith, w, size); symbol = i.symbol; from = omega (arith, t, from, first); to = omega (arith, t, w, to); copied = i.word }

-- a word that is stored at a place of an object is the relocated one
pub relocated_there : (objects : List Object) (code : List ℕ) (number : ℕ) (reloc asked : RelocPart) (text address addend place word at : ℕ) (bytes : List ℕ)
    → asked ≡ reloc → text ≡ text_address objects number → bytes ≡ (text_of (object_at objects number)).bytes → first_address ≤ text
    → HasAddress objects number (symbol_of (object_at objects number) reloc.symbol) (symbol_of (object_at objects number) reloc.symbol).place address
    → addend ≡ word_at bytes reloc.offset → place ≡ text + reloc.offset → word ≡ stored reloc.kind address addend place → at ≡ place - first_address → take 4 (drop at code) ≡ word_bytes word
    → IsRelocated objects code number asked
relocated_there objects code number reloc asked text address addend place word at bytes same t b from has a p w z e =
    let P : RelocPart → Type 0 = λ x. IsRelocated objects code number x in
    subst P (sym same) (record {
      address = address;
      has = has;
      holds = ap (λ (n : ℕ). take 4 (drop n code)) (let n : offset (text_address objects number) + reloc.offset ≡ at = omega (arith, t, p, z, from) in n) ∙ e
          ∙ ap (λ (x : ℕ). word_bytes x) (w ∙ ap (λ (x : ℕ). stored reloc.kind address x place) (a ∙ ap (λ (xs : List ℕ). word_at xs reloc.offset) b) ∙ ap (λ (x : ℕ). stored reloc.kind address (word_at (text_of (object_at objects number)).bytes reloc.offset) x) (p ∙ ap (λ (x : ℕ). x + reloc.offset) t));
    })
