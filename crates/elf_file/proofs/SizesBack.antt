-- The sizes of a written file are read back from its section headers.
use Rattle.std.proofs.Common.{◌≡◌, refl, sym, ap, subst, ◌∙◌, ℕ, ◌+◌, ◌*◌, ◌/◌, ◌-◌, ◌^◌, ◌<◌, ◌≤◌, Bool, List, [], ◌∷◌, length, get_or, arith}
use Rattle.std.specs.Prelude.{nat_eq, cond, slice_index}
use Rattle.std.specs.List.{AllByRecursion}
use Rattle.std.proofs.lemmas.Bool.{eq-eqb, ne_eqb, cases_eq}
use Rattle.std.proofs.lemmas.List.Sums.{sum_by-cons, count_by-le-length}
use Rattle.std.proofs.lemmas.List.Elements.{recursion_from_All}
use Rattle.std.proofs.Math.Logic.{⊎_elim}
use Rattle.cc_base.specs.Words.{join, join-word_bytes}
use Rattle.elf_file.specs.Places.{word_at, Stands}
use Rattle.elf_file.specs.Layout.{headers_at, section_table}
use Rattle.elf_file.specs.Written.{sizes_of, relocs_of}
use Rattle.elf_file.specs.WellFormed.{WellFormed, RelocFits, section_sizes}
use Rattle.elf_file.specs.Read.{OnlyText, IsFileOf}
use Rattle.elf_file.specs.Checks.{sizes_in, HasSizes}
use Rattle.elf_file.specs.declared.layout.Sizes.{Sizes}
use Rattle.elf_file.specs.declared.parts.ObjectParts.{ObjectParts}
use Rattle.elf_file.specs.declared.parts.RelocPart.{RelocPart}
use Rattle.elf_file.proofs.Lengths.{length-section_table}
use Rattle.elf_file.proofs.StandsFacts.{stands_get}

-- a word of what stands is a word of the file
pub word_stands : (file bytes : List ℕ) (at i : ℕ) → Stands file at bytes → i + 4 ≤ length bytes → word_at file (at + i) ≡ word_at bytes i
word_stands file bytes at i s h =
    let g = λ (j : ℕ) (b : j < length bytes). stands_get file bytes at j 0 s b in
    let one : at + i + 1 ≡ at + (i + 1) = omega arith in
    let two : at + i + 2 ≡ at + (i + 2) = omega arith in
    let three : at + i + 3 ≡ at + (i + 3) = omega arith in
    ap (λ (n : ℕ). join n (get_or file (at + i + 1) 0) (get_or file (at + i + 2) 0) (get_or file (at + i + 3) 0)) (g i (omega arith))
    ∙ ap (λ (n : ℕ). join (get_or bytes i 0) n (get_or file (at + i + 2) 0) (get_or file (at + i + 3) 0)) (ap (λ (n : ℕ). get_or file n 0) one ∙ g (i + 1) (omega arith))
    ∙ ap (λ (n : ℕ). join (get_or bytes i 0) (get_or bytes (i + 1) 0) n (get_or file (at + i + 3) 0)) (ap (λ (n : ℕ). get_or file n 0) two ∙ g (i + 2) (omega arith))
    ∙ ap (λ (n : ℕ). join (get_or bytes i 0) (get_or bytes (i + 1) 0) (get_or bytes (i + 2) 0) n) (ap (λ (n : ℕ). get_or file n 0) three ∙ g (i + 3) (omega arith))

-- the numbers that stand in the section headers
pub text_word : (s : Sizes) → s.text < 2 ^ 32 → word_at (section_table s) 60 ≡ s.text
unfolding section_table
text_word s h = join-word_bytes s.text h

pub relocs_word : (s : Sizes) → 8 * s.text_relocs < 2 ^ 32 → word_at (section_table s) 220 ≡ 8 * s.text_relocs
unfolding section_table
relocs_word s h = join-word_bytes (8 * s.text_relocs) h

pub symbols_word : (s : Sizes) → 16 * s.symbols < 2 ^ 32 → word_at (section_table s) 340 ≡ 16 * s.symbols
unfolding section_table
symbols_word s h = join-word_bytes (16 * s.symbols) h

pub locals_word : (s : Sizes) → s.locals < 2 ^ 32 → word_at (section_table s) 348 ≡ s.locals
unfolding section_table
locals_word s h = join-word_bytes s.locals h

pub strings_word : (s : Sizes) → s.strings < 2 ^ 32 → word_at (section_table s) 380 ≡ s.strings
unfolding section_table
strings_word s h = join-word_bytes s.strings h

pub same_sizes : (a b : Sizes) → a.text ≡ b.text → a.fixed ≡ b.fixed → a.held ≡ b.held → a.zeros ≡ b.zeros → a.text_relocs ≡ b.text_relocs → a.fixed_relocs ≡ b.fixed_relocs → a.held_relocs ≡ b.held_relocs
    → a.symbols ≡ b.symbols → a.locals ≡ b.locals → a.strings ≡ b.strings → a ≡ b
same_sizes a b e1 e2 e3 e4 e5 e6 e7 e8 e9 e10 =
    let make = λ (n1 n2 n3 n4 n5 n6 n7 n8 n9 n10 : ℕ). let s : Sizes = record { text = n1; fixed = n2; held = n3; zeros = n4; text_relocs = n5; fixed_relocs = n6; held_relocs = n7; symbols = n8; locals = n9; strings = n10 } in s in
    ap (λ (n : ℕ). make n a.fixed a.held a.zeros a.text_relocs a.fixed_relocs a.held_relocs a.symbols a.locals a.strings) e1
    ∙ ap (λ (n : ℕ). make b.text n a.held a.zeros a.text_relocs a.fixed_relocs a.held_relocs a.symbols a.locals a.strings) e2
    ∙ ap (λ (n : ℕ). make b.text b.fixed n a.zeros a.text_relocs a.fixed_relocs a.held_relocs a.symbols a.locals a.strings) e3
    ∙ ap (λ (n : ℕ). make b.text b.fixed b.held n a.text_relocs a.fixed_relocs a.held_relocs a.symbols a.locals a.strings) e4
    ∙ ap (λ (n : ℕ). make b.text b.fixed b.held b.zeros n a.fixed_relocs a.held_relocs a.symbols a.locals a.strings) e5
    ∙ ap (λ (n : ℕ). make b.text b.fixed b.held b.zeros b.text_relocs n a.held_relocs a.symbols a.locals a.strings) e6
    ∙ ap (λ (n : ℕ). make b.text b.fixed b.held b.zeros b.text_relocs b.fixed_relocs n a.symbols a.locals a.strings) e7
    ∙ ap (λ (n : ℕ). make b.text b.fixed b.held b.zeros b.text_relocs b.fixed_relocs b.held_relocs n a.locals a.strings) e8
    ∙ ap (λ (n : ℕ). make b.text b.fixed b.held b.zeros b.text_relocs b.fixed_relocs b.held_relocs b.symbols n a.strings) e9
    ∙ ap (λ (n : ℕ). make b.text b.fixed b.held b.zeros b.text_relocs b.fixed_relocs b.held_relocs b.symbols b.locals n) e10

-- where there is only text, each relocation changes it
pub text_reloc : (parts : ObjectParts) → OnlyText parts → (reloc : RelocPart) → RelocFits (section_sizes parts) parts.symbols reloc → reloc.section ≡ 1
text_reloc parts only reloc fits =
    let fixed : length parts.fixed ≡ 0 = ap length only.fixed in
    let held : length parts.held ≡ 0 = ap length only.held in
    let P : ℕ → Type 0 = λ n. reloc.offset + 4 ≤ slice_index (section_sizes parts) n in
    let some = fits.from_text in let few = fits.to_writable in
    ⊎_elim (λ (e : reloc.section ≡ 1). e) (λ (ne : reloc.section ≡ 1 → ⊥).
    ⊎_elim (λ (e : reloc.section ≡ 2). let inside : reloc.offset + 4 ≤ length parts.fixed = subst P e fits.inside in absurd (omega arith)) (λ (ne2 : reloc.section ≡ 2 → ⊥).
    let three : reloc.section ≡ 3 = omega arith in
    let inside : reloc.offset + 4 ≤ length parts.held = subst P three fits.inside in absurd (omega arith)) (cases_eq reloc.section 2)) (cases_eq reloc.section 1)

pub all_count : (relocs : List RelocPart) → AllByRecursion (λ reloc. reloc.section ≡ 1) relocs → relocs_of 1 relocs ≡ length relocs
all_count [] h = refl
all_count (reloc ∷ relocs) h =
    let one : cond {A = ℕ} (nat_eq reloc.section 1) 1 0 ≡ 1 = ap (λ (b : Bool). cond {A = ℕ} b 1 0) (eq-eqb reloc.section 1 h.0) in
    let next : relocs_of 1 (reloc ∷ relocs) ≡ cond (nat_eq reloc.section 1) 1 0 + relocs_of 1 relocs = sum_by-cons _ reloc relocs in
    let rest = all_count relocs h.1 in
    omega arith

pub no_count : (n : ℕ) (relocs : List RelocPart) → 1 < n → AllByRecursion (λ reloc. reloc.section ≡ 1) relocs → relocs_of n relocs ≡ 0
no_count n [] big h = refl
no_count n (reloc ∷ relocs) big h =
    let text = h.0 in
    let none : cond {A = ℕ} (nat_eq reloc.section n) 1 0 ≡ 0 = ap (λ (b : Bool). cond {A = ℕ} b 1 0) (ne_eqb reloc.section n (λ e. omega arith)) in
    let next : relocs_of n (reloc ∷ relocs) ≡ cond (nat_eq reloc.section n) 1 0 + relocs_of n relocs = sum_by-cons _ reloc relocs in
    let rest = no_count n relocs big h.1 in
    omega arith

pub text_relocs : (parts : ObjectParts) → WellFormed parts → OnlyText parts → AllByRecursion (λ reloc. reloc.section ≡ 1) parts.relocs
text_relocs parts w only =
    let P : RelocPart → Type 0 = λ reloc. reloc.section ≡ 1 in
    recursion_from_All P parts.relocs (λ k d h. text_reloc parts only _ (w.relocs k d h))

pub sizes_back : (parts : ObjectParts) (file : List ℕ) → IsFileOf parts file → sizes_of parts ≡ sizes_in file
sizes_back parts file is =
    let s = sizes_of parts in
    let table = is.written.headers in
    let long = length-section_table s in
    let small = is.well_formed.small in
    let whole = is.written.length_is in
    let place : length file - 440 ≡ headers_at s = omega arith in
    let few = count_by-le-length (λ symbol. symbol.local) parts.symbols in
    let texts = text_relocs parts is.well_formed is.only_text in
    let at = λ (i : ℕ) (h : i + 4 ≤ 440). ap (λ (n : ℕ). word_at file (n + i)) place ∙ word_stands file (section_table s) (headers_at s) i table (omega arith) in
    let relocs : word_at file (length file - 440 + 220) ≡ 8 * s.text_relocs = at 220 (omega arith) ∙ relocs_word s (omega arith) in
    let symbols : word_at file (length file - 440 + 340) ≡ 16 * s.symbols = at 340 (omega arith) ∙ symbols_word s (omega arith) in
    let eighth : 8 * s.text_relocs / 8 ≡ s.text_relocs = omega arith in
    let sixteenth : 16 * s.symbols / 16 ≡ s.symbols = omega arith in
    same_sizes s (sizes_in file)
    (sym (at 60 (omega arith) ∙ text_word s (omega arith)))
    (ap length is.only_text.fixed) (ap length is.only_text.held) is.only_text.zeros
    (sym (ap (λ (n : ℕ). n / 8) relocs ∙ eighth))
    (no_count 2 parts.relocs (omega arith) texts) (no_count 3 parts.relocs (omega arith) texts)
    (sym (ap (λ (n : ℕ). n / 16) symbols ∙ sixteenth))
    (sym (at 348 (omega arith) ∙ locals_word s (omega arith)))
    (sym (at 380 (omega arith) ∙ strings_word s (omega arith)))

pub HasSizes-written : (parts : ObjectParts) (file : List ℕ) → IsFileOf parts file → HasSizes file (sizes_of parts)
HasSizes-written parts file is = record { read = sizes_back parts file is; whole = is.written.length_is; some = omega arith; few = omega (arith, is.well_formed.few_symbols) }
