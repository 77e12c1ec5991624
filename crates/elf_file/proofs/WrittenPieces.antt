-- The pieces of a written file stand at their places.
use Rattle.std.proofs.Common.{◌≡◌, sym, ap, subst, ◌∙◌, ℕ, ◌+◌, ◌-◌, ◌<◌, ◌≤◌, List, [], ◌++◌, length, replicate, arith}
use Rattle.std.proofs.lemmas.List.{length-replicate}
use Rattle.std.proofs.lemmas.List.Elements.{recursion_from_All}
use Rattle.elf_file.specs.Places.{Stands}
use Rattle.elf_file.specs.Layout.{fixed_at, held_at, zeros_at, symbols_at, strings_at, names_at, headers_at, places_of}
use Rattle.elf_file.specs.Written.{Written, sizes_of, relocs_of}
use Rattle.elf_file.specs.WellFormed.{WellFormed}
use Rattle.elf_file.specs.Pieces.{joined, contents, tables, ending, pieces_of}
use Rattle.elf_file.specs.declared.parts.ObjectParts.{ObjectParts}
use Rattle.elf_file.specs.declared.parts.RelocPart.{RelocPart}
use Rattle.elf_file.specs.declared.layout.Sizes.{Sizes}
use Rattle.elf_file.specs.declared.layout.Places.{Places}
use Rattle.elf_file.proofs.Joined.{length-joined, joined_stand}
use Rattle.elf_file.proofs.Lengths.{length-reloc_table, length-symbol_table, length-section_table, relocs_of-all}

pub relocs_in_sections : (parts : ObjectParts) → WellFormed parts → relocs_of 1 parts.relocs + relocs_of 2 parts.relocs + relocs_of 3 parts.relocs ≡ length parts.relocs
relocs_in_sections parts w =
    let P : RelocPart → Type 0 = λ reloc. (0 < reloc.section) × (reloc.section ≤ 3) in
    relocs_of-all parts.relocs (recursion_from_All P parts.relocs (λ k d h. let fits = w.relocs k d h in (fits.from_text, fits.to_writable)))

pub length_gap : (from to : ℕ) → length {A = ℕ} (replicate (to - from) 0) ≡ to - from
length_gap from to = length-replicate (to - from) 0

moved : {file bytes : List ℕ} {a : ℕ} → Stands file a bytes → (b : ℕ) → a ≡ b → Stands file b bytes
moved {file} {bytes} s b e = let P : ℕ → Type 0 = λ at. Stands file at bytes in subst P e s

pub Written-pieces : (parts : ObjectParts) → WellFormed parts → Written parts (joined (pieces_of parts))
Written-pieces parts w =
    let sizes = sizes_of parts in
    let s = joined_stand (pieces_of parts) in
    let counts = relocs_in_sections parts w in
    let relocs = length-reloc_table parts.relocs in
    let symbols = length-symbol_table parts.symbols in
    let table = length-section_table sizes in
    let len = length-joined (pieces_of parts) in
    let before_fixed = length_gap (64 + sizes.text) (fixed_at sizes) in
    let before_held = length_gap (fixed_at sizes + sizes.fixed) (held_at sizes) in
    let before_relocs = length_gap (held_at sizes + sizes.held) (zeros_at sizes) in
    let before_headers = length_gap (names_at sizes + 84) (headers_at sizes) in
    let s1 = s.1 in let s2 = s1.1 in let s3 = s2.1 in let s4 = s3.1 in let s5 = s4.1 in let s6 = s5.1 in
    let s7 = s6.1 in let s8 = s7.1 in let s9 = s8.1 in let s10 = s9.1 in let s11 = s10.1 in let s12 = s11.1 in let s13 = s12.1 in
    record {
      header = s.0;
      before_text = moved s1.0 52 (omega arith);
      text = moved s2.0 64 (omega arith);
      before_fixed = moved s3.0 (64 + length parts.text) (omega arith);
      fixed = moved s4.0 (fixed_at sizes) (omega arith);
      before_held = moved s5.0 (fixed_at sizes + length parts.fixed) (omega arith);
      held = moved s6.0 (held_at sizes) (omega arith);
      before_relocs = moved s7.0 (held_at sizes + length parts.held) (omega arith);
      relocs = moved s8.0 (zeros_at sizes) (omega arith);
      symbols = moved s9.0 (symbols_at sizes) (omega arith);
      strings = moved s10.0 (strings_at sizes) (omega arith);
      names = moved s11.0 (names_at sizes) (omega arith);
      before_headers = moved s12.0 (names_at sizes + 84) (omega arith);
      headers = moved s13.0 (headers_at sizes) (omega arith);
      length_is = omega arith;
    }

-- what was appended to nothing, by sizes and places that are those of the parts
pub Written-made : (parts : ObjectParts) (sizes : Sizes) (at : Places) (empty file : List ℕ) → WellFormed parts → empty ≡ [] → sizes ≡ sizes_of parts → at ≡ places_of sizes
    → file ≡ empty ++ joined (contents parts sizes at ++ (tables parts ++ ending sizes at)) → Written parts file
Written-made parts sizes at empty file w nothing s p f =
    let pieces = λ (s : Sizes) (p : Places). joined (contents parts s p ++ (tables parts ++ ending s p)) in
    let whole : file ≡ joined (pieces_of parts) =
    f ∙ ap (λ (xs : List ℕ). xs ++ pieces sizes at) nothing ∙ ap (λ (q : Places). pieces sizes q) p ∙ ap (λ (t : Sizes). pieces t (places_of t)) s in
    let P : List ℕ → Type 0 = λ xs. Written parts xs in
    subst P (sym whole) (Written-pieces parts w)
