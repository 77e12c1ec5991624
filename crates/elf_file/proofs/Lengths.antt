-- How long the tables of a written object are.
use Rattle.std.proofs.Common.{◌≡◌, refl, ℕ, ◌+◌, ◌*◌, ◌<◌, ◌≤◌, List, [], ◌∷◌, length, arith}
use Rattle.std.specs.List.{AllByRecursion}
use Rattle.std.specs.Prelude.{cond, nat_eq as eqb}
use Rattle.std.proofs.lemmas.List.Sums.{sum_by-cons}
use Rattle.std.proofs.lemmas.Bool.Decides.{nat_tests}
use Rattle.std.proofs.lemmas.List.{length-append}
use Rattle.elf_file.specs.Layout.{section_table}
use Rattle.elf_file.specs.Written.{symbol_entries, symbol_table, reloc_entry, reloc_table, relocs_of, section_names}
use Rattle.elf_file.specs.declared.layout.Sizes.{Sizes}
use Rattle.elf_file.specs.declared.parts.SymbolPart.{SymbolPart}
use Rattle.elf_file.specs.declared.parts.RelocPart.{RelocPart}

pub length-reloc_table : (relocs : List RelocPart) → length (reloc_table relocs) ≡ 8 * length relocs
length-reloc_table [] = refl
length-reloc_table (reloc ∷ relocs) = omega (arith, length-append (reloc_entry reloc) (reloc_table relocs), length-reloc_table relocs)

pub length-symbol_entries : (at : ℕ) (symbols : List SymbolPart) → length (symbol_entries at symbols) ≡ 16 * length symbols
length-symbol_entries at [] = refl
length-symbol_entries at (symbol ∷ symbols) = omega (arith, length-symbol_entries (at + (length symbol.name + 1)) symbols)

pub length-symbol_table : (symbols : List SymbolPart) → length (symbol_table symbols) ≡ 16 * (length symbols + 1)
length-symbol_table symbols = omega (arith, length-symbol_entries 1 symbols)

pub length-section_table : (sizes : Sizes) → length (section_table sizes) ≡ 440
unfolding section_table
length-section_table sizes = refl

pub length-section_names : length section_names ≡ 84
length-section_names = refl

-- each relocation changes one of the sections 1 to 3
one_of : (section : ℕ) → 0 < section → section ≤ 3 → cond (eqb section 1) 1 0 + cond (eqb section 2) 1 0 + cond (eqb section 3) 1 0 ≡ 1
one_of section p q = grind (arith, nat_tests)

pub relocs_of-all : (relocs : List RelocPart) → AllByRecursion (λ reloc. (0 < reloc.section) × (reloc.section ≤ 3)) relocs → relocs_of 1 relocs + relocs_of 2 relocs + relocs_of 3 relocs ≡ length relocs
relocs_of-all [] h = refl
relocs_of-all (reloc ∷ relocs) h =
    let a = one_of reloc.section h.0.0 h.0.1 in
    let b = relocs_of-all relocs h.1 in
    let c1 : relocs_of 1 (reloc ∷ relocs) ≡ cond (eqb reloc.section 1) 1 0 + relocs_of 1 relocs = sum_by-cons _ reloc relocs in
    let c2 : relocs_of 2 (reloc ∷ relocs) ≡ cond (eqb reloc.section 2) 1 0 + relocs_of 2 relocs = sum_by-cons _ reloc relocs in
    let c3 : relocs_of 3 (reloc ∷ relocs) ≡ cond (eqb reloc.section 3) 1 0 + relocs_of 3 relocs = sum_by-cons _ reloc relocs in
    omega arith
