-- The relocations of a written object are as their entries say, and pass the checks of relocations.
use Rattle.std.proofs.Common.{◌≡◌, ◌≢◌, refl, sym, ap, subst, ◌∙◌, ℕ, zero, suc, ◌+◌, ◌*◌, ◌-◌, ◌^◌, ◌<◌, ◌≤◌, inl, inr, List, [], ◌∷◌, ◌++◌, length, get_or, arith}
use Rattle.std.specs.Prelude.{All, AllPairs}
use Rattle.std.specs.List.{AllAdjacentBelow}
use Rattle.std.proofs.lemmas.List.{append-nil}
use Rattle.std.proofs.lemmas.List.Concat.{flat_map-append}
use Rattle.cc_base.specs.Words.{join-word_bytes}
use Rattle.elf_file.specs.Places.{Stands}
use Rattle.elf_file.specs.Layout.{zeros_at, fixed_relocs_at, held_relocs_at}
use Rattle.elf_file.specs.Written.{Written, sizes_of, reloc_number, reloc_entry, reloc_table}
use Rattle.elf_file.specs.WellFormed.{WellFormed, StandsBefore}
use Rattle.elf_file.specs.Object.{object_of, no_symbol, symbol_of}
use Rattle.elf_file.specs.ObjectBytes.{SectionHeader, section_at, kept_as, RelocBytes, RelocPasses, RelocTableBytes, RelocsBytes}
use Rattle.elf_file.specs.declared.layout.Sizes.{Sizes}
use Rattle.elf_file.specs.declared.parts.ObjectParts.{ObjectParts}
use Rattle.elf_file.specs.declared.parts.SymbolPart.{SymbolPart}
use Rattle.elf_file.specs.declared.parts.RelocPart.{RelocPart}
use Rattle.elf_file.specs.declared.parts.KeptKind.TheVariants.{Dropped}
use Rattle.elf_file.proofs.Lengths.{length-reloc_table}
use Rattle.elf_file.proofs.SizesBack.{word_stands}
use Rattle.elf_file.proofs.StandsFacts.{stands_split, stands_at, stands_bytes, table_entry}
use Rattle.elf_file.proofs.Decoded.{reloc_number-small}
use Rattle.elf_file.proofs.SectionHeaders.{OfEach, of_each, headers_of, Sections, relocs_header}
use Rattle.elf_file.proofs.SectionsFit.{Read}
use Rattle.elf_file.proofs.SymbolsShown.{first_word, holds, symbol_kept}

-- a relocation of one section, with numbers that its entry has room for
pub record Small (changes : ℕ) (reloc : RelocPart) : Type 0 where
  pub section : reloc.section ≡ changes
  pub offset : reloc.offset < 2 ^ 32
  pub symbol : reloc.symbol < 2 ^ 24

reloc_bytes : (file : List ℕ) (at changes : ℕ) (reloc : RelocPart) → Stands file at (reloc_entry reloc) → Small changes reloc → RelocBytes file at changes reloc
reloc_bytes file at changes reloc s small =
    let few = small.symbol in
    let kind = reloc_number-small reloc.kind in
    record {
      section = small.section;
      offset = sym (first_word file (reloc_entry reloc) at s (omega arith) ∙ join-word_bytes reloc.offset small.offset);
      info = word_stands file (reloc_entry reloc) at 4 s (omega arith) ∙ join-word_bytes (reloc.symbol * 256 + reloc_number reloc.kind) (omega arith);
    }

-- a table of relocations
pub table_shown : (file : List ℕ) (offset count changes : ℕ) (relocs : List RelocPart) → Stands file offset (reloc_table relocs) → length relocs ≡ count → All (Small changes) relocs → kept_as (section_at file changes) ≢ Dropped
    → RelocTableBytes file (relocs_header offset count changes) relocs
table_shown file offset count changes relocs s long small kept = record {
  count = λ _. omega arith;
  each = λ _ k d h. reloc_bytes file (offset + 8 * k) changes (get_or relocs k d) (table_entry reloc_entry 8 file d relocs offset (λ r. refl) s k h) (small k d h);
  none = λ no. absurd (no (refl, kept));
}

-- a section that is no such table has none
no_relocs : (file : List ℕ) (h : SectionHeader) → h.sh_type ≢ 9 → RelocTableBytes file h []
no_relocs file h other = record { count = λ c. absurd (other c.0); each = λ c. absurd (other c.0); none = λ _. refl }

-- the relocations of each section
pub record ByTable (parts : ObjectParts) : Type 0 where
  pub text : List RelocPart
  pub fixed : List RelocPart
  pub held : List RelocPart
  pub whole : parts.relocs ≡ text ++ (fixed ++ held)
  pub of_text : All (Small 1) text
  pub of_fixed : All (Small 2) fixed
  pub of_held : All (Small 3) held
  pub text_count : length text ≡ (sizes_of parts).text_relocs
  pub fixed_count : length fixed ≡ (sizes_of parts).fixed_relocs
  pub held_count : length held ≡ (sizes_of parts).held_relocs

-- each table stands at its place
record TablesStand (file : List ℕ) (s : Sizes) (text fixed held : List RelocPart) : Type 0 where
  text_there : Stands file (zeros_at s) (reloc_table text)
  fixed_there : Stands file (fixed_relocs_at s) (reloc_table fixed)
  held_there : Stands file (held_relocs_at s) (reloc_table held)

tables_stand : (parts : ObjectParts) (file : List ℕ) (t : ByTable parts) → Written parts file → TablesStand file (sizes_of parts) t.text t.fixed t.held
tables_stand parts file t w =
    let s = sizes_of parts in
    let tc = t.text_count in let fc = t.fixed_count in
    let l1 = length-reloc_table t.text in
    let l2 = length-reloc_table t.fixed in
    let all : reloc_table parts.relocs ≡ reloc_table t.text ++ (reloc_table t.fixed ++ reloc_table t.held) =
    ap reloc_table t.whole ∙ flat_map-append reloc_entry t.text (t.fixed ++ t.held) ∙ ap (λ (xs : List ℕ). reloc_table t.text ++ xs) (flat_map-append reloc_entry t.fixed t.held) in
    let one = stands_split file (reloc_table t.text) (reloc_table t.fixed ++ reloc_table t.held) (zeros_at s) (stands_bytes w.relocs _ all) in
    let two = stands_split file (reloc_table t.fixed) (reloc_table t.held) (zeros_at s + length (reloc_table t.text)) one.1 in
    record { text_there = one.0; fixed_there = stands_at two.0 (fixed_relocs_at s) (omega arith); held_there = stands_at two.1 (held_relocs_at s) (omega arith) }

abbrev tables : List RelocPart → List RelocPart → List RelocPart → List (List RelocPart)
tables text fixed held = [] ∷ [] ∷ [] ∷ [] ∷ [] ∷ text ∷ fixed ∷ held ∷ [] ∷ [] ∷ [] ∷ []

abbrev Table : List ℕ → List (List RelocPart) → ℕ → Type 0
Table file all k = RelocTableBytes file (section_at file k) (get_or all k [])

table_as : (file : List ℕ) (s : Sizes) (all : List (List RelocPart)) (k : ℕ) → Sections file s k → RelocTableBytes file (headers_of s k) (get_or all k []) → Table file all k
table_as file s all k e t = let P : SectionHeader → Type 0 = λ h. RelocTableBytes file h (get_or all k []) in subst P (sym e) t

each_table : (parts : ObjectParts) (file : List ℕ) (t : ByTable parts) → Read file (sizes_of parts) → TablesStand file (sizes_of parts) t.text t.fixed t.held → OfEach (Table file (tables t.text t.fixed t.held))
each_table parts file t r stand =
    let s = sizes_of parts in
    let e = r.each in
    let all = tables t.text t.fixed t.held in
    let kept = λ (k : ℕ) (some : 0 < k) (few : k ≤ 4). (holds parts file r k some few).1 in
    record {
      null = table_as file s all 0 e.null (no_relocs file (headers_of s 0) (λ q. omega arith));
      text = table_as file s all 1 e.text (no_relocs file (headers_of s 1) (λ q. omega arith));
      fixed = table_as file s all 2 e.fixed (no_relocs file (headers_of s 2) (λ q. omega arith));
      held = table_as file s all 3 e.held (no_relocs file (headers_of s 3) (λ q. omega arith));
      zeros = table_as file s all 4 e.zeros (no_relocs file (headers_of s 4) (λ q. omega arith));
      text_relocs = table_as file s all 5 e.text_relocs (table_shown file (zeros_at s) s.text_relocs 1 t.text stand.text_there t.text_count t.of_text (kept 1 (omega arith) (omega arith)));
      fixed_relocs = table_as file s all 6 e.fixed_relocs (table_shown file (fixed_relocs_at s) s.fixed_relocs 2 t.fixed stand.fixed_there t.fixed_count t.of_fixed (kept 2 (omega arith) (omega arith)));
      held_relocs = table_as file s all 7 e.held_relocs (table_shown file (held_relocs_at s) s.held_relocs 3 t.held stand.held_there t.held_count t.of_held (kept 3 (omega arith) (omega arith)));
      symbols = table_as file s all 8 e.symbols (no_relocs file (headers_of s 8) (λ q. omega arith));
      strings = table_as file s all 9 e.strings (no_relocs file (headers_of s 9) (λ q. omega arith));
      names = table_as file s all 10 e.names (no_relocs file (headers_of s 10) (λ q. omega arith));
    }

-- a symbol with entry 0 counted
symbol_shift : (parts : ObjectParts) (n : ℕ) → 0 < n → symbol_of (object_of parts) n ≡ get_or parts.symbols (n - 1) no_symbol
symbol_shift parts zero h = absurd (omega arith)
symbol_shift parts (suc n) h = let back : n ≡ suc n - 1 = omega arith in ap (λ (k : ℕ). get_or parts.symbols k no_symbol) back

-- the sections 1 to 3 have bytes in the file
abbrev HasFileBytes : List ℕ → ℕ → Type 0
HasFileBytes file k = 0 < k → k ≤ 3 → (section_at file k).sh_type ≢ 8

one_or_eight : (n : ℕ) → n ≡ 1 → n ≡ 8 → ⊥
one_or_eight n p q = omega arith

has_as : (file : List ℕ) (s : Sizes) (k : ℕ) → Sections file s k → (headers_of s k).sh_type ≡ 1 → HasFileBytes file k
has_as file s k e one =
    let type : (section_at file k).sh_type ≡ 1 = ap (λ (h : SectionHeader). h.sh_type) e ∙ one in
    λ _ _ (q : (section_at file k).sh_type ≡ 8). one_or_eight _ type q

each_has : (file : List ℕ) (s : Sizes) → OfEach (Sections file s) → OfEach (HasFileBytes file)
each_has file s e = record {
  null = λ h _. absurd (omega arith);
  text = has_as file s 1 e.text refl;
  fixed = has_as file s 2 e.fixed refl;
  held = has_as file s 3 e.held refl;
  zeros = λ _ h. absurd (omega arith);
  text_relocs = λ _ h. absurd (omega arith);
  fixed_relocs = λ _ h. absurd (omega arith);
  held_relocs = λ _ h. absurd (omega arith);
  symbols = λ _ h. absurd (omega arith);
  strings = λ _ h. absurd (omega arith);
  names = λ _ h. absurd (omega arith);
}

reloc_passes : (parts : ObjectParts) (file : List ℕ) → Read file (sizes_of parts) → WellFormed parts → All (RelocPasses file (object_of parts)) parts.relocs
reloc_passes parts file r f k d h =
    let reloc = get_or parts.relocs k d in
    let fits = f.relocs k d h in
    let some = fits.after_zero in let table = fits.in_table in
    let from = fits.from_text in let to = fits.to_writable in let within = fits.inside in
    let size = (holds parts file r reloc.section from (omega arith)).0 in
    let shift = symbol_shift parts reloc.symbol some in
    let symbol = get_or parts.symbols (reloc.symbol - 1) no_symbol in
    let place = ap (λ (x : SymbolPart). x.place) shift in
    record {
      has_bytes = of_each (HasFileBytes file) (each_has file (sizes_of parts) r.each) reloc.section (omega arith) from to;
      inside = omega arith;
      after_zero = some;
      in_table = omega arith;
      against = λ e. fits.against no_symbol (sym place ∙ e);
      kept = λ section e. symbol_kept parts file r symbol (f.symbols (reloc.symbol - 1) no_symbol (omega arith)) section (sym place ∙ e);
    }

-- what stands before what stands before a third stands before that
before_both : (a b c : RelocPart) → StandsBefore a b → StandsBefore b c → StandsBefore a c
before_both a b c (inl p) (inl q) = inl (omega arith)
before_both a b c (inl p) (inr q) = let same = q.0 in inl (omega arith)
before_both a b c (inr p) (inl q) = let same = p.0 in inl (omega arith)
before_both a b c (inr p) (inr q) = let one = p.0 in let two = q.0 in let x = p.1 in let y = q.1 in inr (omega arith, omega arith)

before_all : (relocs : List RelocPart) → AllAdjacentBelow StandsBefore relocs (length relocs) → (i n : ℕ) (d : RelocPart) → i + n + 1 < length relocs → StandsBefore (get_or relocs i d) (get_or relocs (i + n + 1) d)
before_all relocs rise i zero d h =
    let next : i + 1 ≡ i + 0 + 1 = omega arith in
    let P : ℕ → Type 0 = λ k. StandsBefore (get_or relocs i d) (get_or relocs k d) in
    subst P next (rise i d (omega arith))
before_all relocs rise i (suc n) d h =
    let next : i + n + 1 + 1 ≡ i + suc n + 1 = omega arith in
    let P : ℕ → Type 0 = λ k. StandsBefore (get_or relocs i d) (get_or relocs k d) in
    subst P next (before_both (get_or relocs i d) (get_or relocs (i + n + 1) d) (get_or relocs (i + n + 1 + 1) d) (before_all relocs rise i n d (omega arith)) (rise (i + n + 1) d (omega arith)))

rises : (first later : RelocPart) → StandsBefore first later → first.section ≡ later.section → first.offset + 4 ≤ later.offset
rises first later (inl p) e = absurd (omega arith)
rises first later (inr p) e = p.1

relocs_rise : (parts : ObjectParts) → WellFormed parts → AllPairs (λ first later. first.section ≡ later.section → first.offset + 4 ≤ later.offset) parts.relocs
relocs_rise parts f i j d before h e =
    let last : i + (j - i - 1) + 1 ≡ j = omega arith in
    let P : ℕ → Type 0 = λ k. StandsBefore (get_or parts.relocs i d) (get_or parts.relocs k d) in
    rises (get_or parts.relocs i d) (get_or parts.relocs j d) (subst P last (before_all parts.relocs f.relocs_rise i (j - i - 1) d (omega arith))) e

pub relocs_shown : (parts : ObjectParts) (file : List ℕ) → ByTable parts → Read file (sizes_of parts) → WellFormed parts → Written parts file → RelocsBytes file (object_of parts)
relocs_shown parts file t r f w =
    let count = r.count in
    let all = tables t.text t.fixed t.held in
    record {
      tables = all;
      count = sym count;
      each = λ k h. of_each (Table file all) (each_table parts file t r (tables_stand parts file t w)) k (omega arith);
      whole = t.whole ∙ ap (λ (xs : List RelocPart). t.text ++ (t.fixed ++ xs)) (sym (append-nil t.held));
      pass = reloc_passes parts file r f;
      rise = relocs_rise parts f;
    }
