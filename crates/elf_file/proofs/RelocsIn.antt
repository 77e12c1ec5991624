-- The relocations that stand in a file.
use Rattle.std.proofs.Common.{◌≡◌, ◌≢◌, refl, sym, ap, subst, ◌∙◌, ℕ, ◌+◌, ◌-◌, ◌<◌, ◌≤◌, Bool, true, false, cond, List, get_or, arith}
use Rattle.std.specs.Prelude.{nat_eq, slice_index}
use Rattle.std.proofs.lemmas.Bool.{eqb-true}
use Rattle.elf_file.specs.Places.{half_at}
use Rattle.elf_file.specs.WellFormed.{RelocFits}
use Rattle.elf_file.specs.Object.{place_of, symbol_bytes, no_symbol}
use Rattle.elf_file.specs.Checks.{symbols_of, sections_in}
use Rattle.elf_file.specs.declared.layout.Sizes.{Sizes}
use Rattle.elf_file.specs.declared.parts.SymbolPart.{SymbolPart}
use Rattle.elf_file.specs.declared.parts.RelocPart.{RelocPart}
use Rattle.elf_file.specs.declared.parts.SymbolPlace.TheVariants.{Undefined, At, Absolute}
use Rattle.elf_file.proofs.SymbolsIn.{length-symbols_of, symbols_of-at}

-- only one number stands for the place apart from all sections
last_only : (b : Bool) (n : ℕ) → (b ≡ true → n ≡ 0xfff1) → cond b Absolute (At n) ≡ Absolute → n ≡ 0xfff1
last_only true n h e = h refl
last_only false n h e = cc

first_not : (a b : Bool) (n : ℕ) → (b ≡ true → n ≡ 0xfff1) → cond a Undefined (cond b Absolute (At n)) ≡ Absolute → n ≡ 0xfff1
first_not true b n h e = cc
first_not false b n h e = last_only b n h e

pub absolute_only : (n : ℕ) → place_of n ≡ Absolute → n ≡ 0xfff1
absolute_only n e = first_not (nat_eq n 0) (nat_eq n 0xfff1) n (eqb-true n 0xfff1) e

-- a symbol's place, by its entry
place_at : (file : List ℕ) (sizes : Sizes) (s : ℕ) (d : SymbolPart) → 0 < s → s < sizes.symbols → (get_or (symbols_of file sizes) (s - 1) d).place ≡ place_of (half_at (symbol_bytes file sizes s) 14)
place_at file sizes s d some h =
    let back : s - 1 + 1 ≡ s = omega arith in
    ap (λ (x : SymbolPart). x.place) (symbols_of-at file sizes (s - 1) d (omega arith)) ∙ ap (λ (n : ℕ). place_of (half_at (symbol_bytes file sizes n) 14)) back

pub reloc_fits : (file : List ℕ) (sizes : Sizes) (reloc : RelocPart) (half : ℕ) → reloc.section ≡ 1 → (reloc.offset + 4 ≤ sizes.text) × (0 < reloc.symbol) × (reloc.symbol < sizes.symbols)
    → half ≡ half_at (symbol_bytes file sizes reloc.symbol) 14 → half ≢ 0xfff1 → RelocFits (sections_in sizes) (symbols_of file sizes) reloc
reloc_fits file sizes reloc half text inside is other =
    let long = length-symbols_of file sizes in
    let P : ℕ → Type 0 = λ n. reloc.offset + 4 ≤ slice_index (sections_in sizes) n in
    record {
      from_text = omega arith;
      to_writable = omega arith;
      inside = subst P (sym text) inside.0;
      after_zero = inside.1;
      in_table = omega (arith, inside.1, inside.2);
      against = λ d e. other (is ∙ absolute_only (half_at (symbol_bytes file sizes reloc.symbol) 14) (sym (place_at file sizes reloc.symbol d inside.1 inside.2) ∙ e));
    }

pub reloc_inside : (file : List ℕ) (sizes : Sizes) (reloc : RelocPart) → reloc.section ≡ 1 → RelocFits (sections_in sizes) (symbols_of file sizes) reloc → (reloc.offset + 4 ≤ sizes.text) × (0 < reloc.symbol) × (reloc.symbol < sizes.symbols)
reloc_inside file sizes reloc text fits =
    let long = length-symbols_of file sizes in
    let P : ℕ → Type 0 = λ n. reloc.offset + 4 ≤ slice_index (sections_in sizes) n in
    let some = fits.after_zero in
    let in_table = fits.in_table in
    (subst P text fits.inside, some, omega arith)

pub reloc_not_apart : (file : List ℕ) (sizes : Sizes) (reloc : RelocPart) (half : ℕ) → reloc.section ≡ 1 → RelocFits (sections_in sizes) (symbols_of file sizes) reloc → half ≡ half_at (symbol_bytes file sizes reloc.symbol) 14 → half ≢ 0xfff1
reloc_not_apart file sizes reloc half text fits is e =
    let inside = reloc_inside file sizes reloc text fits in
    fits.against no_symbol (place_at file sizes reloc.symbol no_symbol inside.1 inside.2 ∙ ap (λ (n : ℕ). place_of n) (sym is ∙ e))
