-- Each section of a written object passes the checks of sections, and is shown as its header says.
use Rattle.std.proofs.Common.{◌≡◌, ◌≢◌, refl, sym, ap, subst, ◌∙◌, ℕ, ◌+◌, ◌*◌, ◌<◌, ◌≤◌, ◌⊎◌, inl, inr, List, length, arith}
use Rattle.std.proofs.lemmas.Bool.{false≢true}
use Rattle.elf_file.specs.Layout.{fixed_at, held_at, zeros_at, fixed_relocs_at, held_relocs_at, symbols_at, strings_at, names_at, file_length}
use Rattle.elf_file.specs.Written.{WrittenBy, sizes_of}
use Rattle.elf_file.specs.Object.{section_of, object_of, dropped}
use Rattle.elf_file.specs.HeaderBytes.{IsAlignment, e_shnum}
use Rattle.elf_file.specs.ObjectBytes.{SectionHeader, section_at, kept_as, IsSymbolTable, SectionFits, SectionBytes}
use Rattle.elf_file.specs.declared.layout.Sizes.{Sizes}
use Rattle.elf_file.specs.declared.parts.ObjectParts.{ObjectParts}
use Rattle.elf_file.specs.declared.parts.KeptKind.TheVariants.{Dropped}
use Rattle.elf_file.proofs.SectionHeaders.{OfEach, of_each, headers_of, Sections, contents_header, relocs_header, symbols_header}

-- the sections of a written file
pub record Read (file : List ℕ) (s : Sizes) : Type 0 where
  pub count : e_shnum file ≡ 11
  pub each : OfEach (Sections file s)

-- what a section's header says of its type
type_of : (file : List ℕ) (s : Sizes) (k : ℕ) → Sections file s k → (n : ℕ) → (headers_of s k).sh_type ≡ n → (m : ℕ) → (section_at file k).sh_type ≡ m → n ≡ m
type_of file s k e n p m q = sym p ∙ sym (ap (λ (h : SectionHeader). h.sh_type) e) ∙ q

-- section 8 is the one symbol table
abbrev OnlyTable : List ℕ → ℕ → Type 0
OnlyTable file t = (section_at file t).sh_type ≡ 2 → t ≡ 8

only_table : (file : List ℕ) (s : Sizes) → OfEach (Sections file s) → OfEach (OnlyTable file)
only_table file s e = record {
  null = λ q. let clash = type_of file s 0 e.null 0 refl 2 q in absurd (omega arith);
  text = λ q. let clash = type_of file s 1 e.text 1 refl 2 q in absurd (omega arith);
  fixed = λ q. let clash = type_of file s 2 e.fixed 1 refl 2 q in absurd (omega arith);
  held = λ q. let clash = type_of file s 3 e.held 1 refl 2 q in absurd (omega arith);
  zeros = λ q. let clash = type_of file s 4 e.zeros 8 refl 2 q in absurd (omega arith);
  text_relocs = λ q. let clash = type_of file s 5 e.text_relocs 9 refl 2 q in absurd (omega arith);
  fixed_relocs = λ q. let clash = type_of file s 6 e.fixed_relocs 9 refl 2 q in absurd (omega arith);
  held_relocs = λ q. let clash = type_of file s 7 e.held_relocs 9 refl 2 q in absurd (omega arith);
  symbols = λ q. refl;
  strings = λ q. let clash = type_of file s 9 e.strings 3 refl 2 q in absurd (omega arith);
  names = λ q. let clash = type_of file s 10 e.names 3 refl 2 q in absurd (omega arith);
}

pub the_table : (file : List ℕ) (s : Sizes) → Read file s → (t : ℕ) → t < e_shnum file → (section_at file t).sh_type ≡ 2 → t ≡ 8
the_table file s r t h q = let count = r.count in of_each (OnlyTable file) (only_table file s r.each) t (omega arith) q

pub is_table : (file : List ℕ) (s : Sizes) → Read file s → IsSymbolTable file 8
is_table file s r =
    let count = r.count in
    record { there = omega arith; type = ap (λ (h : SectionHeader). h.sh_type) r.each.symbols; first = λ k h q. let only = the_table file s r k (omega arith) q in omega arith }

-- sections with contents
contents_fit : (file : List ℕ) (k type flags offset size align : ℕ) → (type ≡ 1) ⊎ (type ≡ 8) → flags < 8 → IsAlignment align → align ≤ 4096 → (type ≢ 8 → offset + size ≤ length file)
    → SectionFits file k (contents_header type flags offset size align)
contents_fit file k type flags offset size align (inl e) f a p inside = record {
  flags = (omega arith, omega arith);
  aligned = a;
  page = p;
  inside = λ _ ne. inside ne;
  no_rela = λ q. omega arith;
  no_group = λ q. omega arith;
  no_index = λ q. omega arith;
  in_memory = λ _. inl e;
  one_table = λ q. absurd (omega arith);
  symbol_table = λ q. absurd (omega arith);
  reloc_table = λ q. absurd (omega arith);
}
contents_fit file k type flags offset size align (inr e) f a p inside = record {
  flags = (omega arith, omega arith);
  aligned = a;
  page = p;
  inside = λ _ ne. inside ne;
  no_rela = λ q. omega arith;
  no_group = λ q. omega arith;
  no_index = λ q. omega arith;
  in_memory = λ _. inr (inr e);
  one_table = λ q. absurd (omega arith);
  symbol_table = λ q. absurd (omega arith);
  reloc_table = λ q. absurd (omega arith);
}

strings_fit : (file : List ℕ) (k offset size : ℕ) → offset + size ≤ length file → SectionFits file k (contents_header 3 0 offset size 1)
strings_fit file k offset size inside = record {
  flags = (omega arith, refl);
  aligned = inr (0, refl);
  page = omega arith;
  inside = λ _ _. inside;
  no_rela = λ q. omega arith;
  no_group = λ q. omega arith;
  no_index = λ q. omega arith;
  in_memory = λ q. absurd (false≢true q);
  one_table = λ q. absurd (omega arith);
  symbol_table = λ q. absurd (omega arith);
  reloc_table = λ q. absurd (omega arith);
}

relocs_fit : (file : List ℕ) (k offset count changes : ℕ) → offset + 8 * count ≤ length file → IsSymbolTable file 8 → 0 < changes → changes < e_shnum file → SectionFits file k (relocs_header offset count changes)
relocs_fit file k offset count changes inside table some there = record {
  flags = (omega arith, refl);
  aligned = inr (2, refl);
  page = omega arith;
  inside = λ _ _. inside;
  no_rela = λ q. omega arith;
  no_group = λ q. omega arith;
  no_index = λ q. omega arith;
  in_memory = λ q. absurd (false≢true q);
  one_table = λ q. absurd (omega arith);
  symbol_table = λ q. absurd (omega arith);
  reloc_table = λ _. record { entsize = refl; whole = omega arith; link = table; changes = some; there = there };
}

symbols_fit : (file : List ℕ) (s : Sizes) → Read file s → symbols_at s + 16 * s.symbols ≤ length file → s.locals ≤ s.symbols → SectionFits file 8 (symbols_header s)
symbols_fit file s r inside locals =
    let count = r.count in
    let strings : (section_at file 9).sh_type ≡ 3 = ap (λ (h : SectionHeader). h.sh_type) r.each.strings in
    let table = is_table file s r in
    record {
      flags = (omega arith, refl);
      aligned = inr (2, refl);
      page = omega arith;
      inside = λ _ _. inside;
      no_rela = λ q. omega arith;
      no_group = λ q. omega arith;
      no_index = λ q. omega arith;
      in_memory = λ q. absurd (false≢true q);
      one_table = λ _ j h. table.first j h;
      symbol_table = λ _. record { entsize = refl; whole = omega arith; link = omega arith; strings = strings; info = omega arith };
      reloc_table = λ q. absurd (omega arith);
    }

-- where the contents of a file end
pub record Ends (file : List ℕ) (s : Sizes) : Type 0 where
  pub text : 64 + s.text ≤ length file
  pub fixed : fixed_at s + s.fixed ≤ length file
  pub held : held_at s + s.held ≤ length file
  pub text_relocs : zeros_at s + 8 * s.text_relocs ≤ length file
  pub fixed_relocs : fixed_relocs_at s + 8 * s.fixed_relocs ≤ length file
  pub held_relocs : held_relocs_at s + 8 * s.held_relocs ≤ length file
  pub symbols : symbols_at s + 16 * s.symbols ≤ length file
  pub strings : strings_at s + s.strings ≤ length file
  pub names : names_at s + 84 ≤ length file

pub ends : (file : List ℕ) (s : Sizes) → length file ≡ file_length s → Ends file s
ends file s whole = record {
  text = omega arith;
  fixed = omega arith;
  held = omega arith;
  text_relocs = omega arith;
  fixed_relocs = omega arith;
  held_relocs = omega arith;
  symbols = omega arith;
  strings = omega arith;
  names = omega arith;
}

abbrev Fits : List ℕ → ℕ → Type 0
Fits file k = 0 < k → SectionFits file k (section_at file k)

fits_as : (file : List ℕ) (s : Sizes) (k : ℕ) → Sections file s k → SectionFits file k (headers_of s k) → Fits file k
fits_as file s k e f = λ _. let P : SectionHeader → Type 0 = λ h. SectionFits file k h in subst P (sym e) f

each_fits : (file : List ℕ) (s : Sizes) → Read file s → Ends file s → s.locals ≤ s.symbols → OfEach (Fits file)
each_fits file s r e locals =
    let count = r.count in
    let table = is_table file s r in
    record {
      null = λ h. absurd (omega arith);
      text = fits_as file s 1 r.each.text (contents_fit file 1 1 6 64 s.text 16 (inl refl) (omega arith) (inr (4, refl)) (omega arith) (λ _. e.text));
      fixed = fits_as file s 2 r.each.fixed (contents_fit file 2 1 2 (fixed_at s) s.fixed 4 (inl refl) (omega arith) (inr (2, refl)) (omega arith) (λ _. e.fixed));
      held = fits_as file s 3 r.each.held (contents_fit file 3 1 3 (held_at s) s.held 4 (inl refl) (omega arith) (inr (2, refl)) (omega arith) (λ _. e.held));
      zeros = fits_as file s 4 r.each.zeros (contents_fit file 4 8 3 (zeros_at s) s.zeros 4 (inr refl) (omega arith) (inr (2, refl)) (omega arith) (λ ne. absurd (ne refl)));
      text_relocs = fits_as file s 5 r.each.text_relocs (relocs_fit file 5 (zeros_at s) s.text_relocs 1 e.text_relocs table (omega arith) (omega arith));
      fixed_relocs = fits_as file s 6 r.each.fixed_relocs (relocs_fit file 6 (fixed_relocs_at s) s.fixed_relocs 2 e.fixed_relocs table (omega arith) (omega arith));
      held_relocs = fits_as file s 7 r.each.held_relocs (relocs_fit file 7 (held_relocs_at s) s.held_relocs 3 e.held_relocs table (omega arith) (omega arith));
      symbols = fits_as file s 8 r.each.symbols (symbols_fit file s r e.symbols locals);
      strings = fits_as file s 9 r.each.strings (strings_fit file 9 (strings_at s) s.strings e.strings);
      names = fits_as file s 10 r.each.names (strings_fit file 10 (names_at s) 84 e.names);
    }

pub sections_fit : (file : List ℕ) (s : Sizes) → Read file s → Ends file s → s.locals ≤ s.symbols → (k : ℕ) → 0 < k → k < e_shnum file → SectionFits file k (section_at file k)
sections_fit file s r e locals k some h = let count = r.count in of_each (Fits file) (each_fits file s r e locals) k (omega arith) some

-- what is shown of each section
abbrev Shown : ObjectParts → List ℕ → ℕ → Type 0
Shown parts file k = SectionBytes file (section_at file k) (section_of (object_of parts) k)

shown_as : (parts : ObjectParts) (file : List ℕ) (k : ℕ) → Sections file (sizes_of parts) k → SectionBytes file (headers_of (sizes_of parts) k) (section_of (object_of parts) k) → Shown parts file k
shown_as parts file k e b = let P : SectionHeader → Type 0 = λ h. SectionBytes file h (section_of (object_of parts) k) in subst P (sym e) b

dropped_bytes : (file : List ℕ) (h : SectionHeader) → kept_as h ≡ Dropped → SectionBytes file h (dropped h.sh_size h.sh_addralign)
dropped_bytes file h e = record { kind = sym e; size = refl; align = refl; bytes = λ b. absurd b; no_bytes = λ _. refl }

each_shown : (parts : ObjectParts) (file : List ℕ) → OfEach (Sections file (sizes_of parts)) → WrittenBy (sizes_of parts) parts file → OfEach (Shown parts file)
each_shown parts file e w =
    let s = sizes_of parts in
    record {
      null = shown_as parts file 0 e.null (dropped_bytes file (headers_of s 0) refl);
      text = shown_as parts file 1 e.text (record { kind = refl; size = refl; align = refl; bytes = λ _. (refl, w.text); no_bytes = λ none. absurd (none tt) });
      fixed = shown_as parts file 2 e.fixed (record { kind = refl; size = refl; align = refl; bytes = λ _. (refl, w.fixed); no_bytes = λ none. absurd (none tt) });
      held = shown_as parts file 3 e.held (record { kind = refl; size = refl; align = refl; bytes = λ _. (refl, w.held); no_bytes = λ none. absurd (none tt) });
      zeros = shown_as parts file 4 e.zeros (record { kind = refl; size = refl; align = refl; bytes = λ b. absurd b; no_bytes = λ _. refl });
      text_relocs = shown_as parts file 5 e.text_relocs (dropped_bytes file (headers_of s 5) refl);
      fixed_relocs = shown_as parts file 6 e.fixed_relocs (dropped_bytes file (headers_of s 6) refl);
      held_relocs = shown_as parts file 7 e.held_relocs (dropped_bytes file (headers_of s 7) refl);
      symbols = shown_as parts file 8 e.symbols (dropped_bytes file (headers_of s 8) refl);
      strings = shown_as parts file 9 e.strings (dropped_bytes file (headers_of s 9) refl);
      names = shown_as parts file 10 e.names (dropped_bytes file (headers_of s 10) refl);
    }

pub sections_shown : (parts : ObjectParts) (file : List ℕ) → Read file (sizes_of parts) → WrittenBy (sizes_of parts) parts file → (k : ℕ) → k < e_shnum file → SectionBytes file (section_at file k) (section_of (object_of parts) k)
sections_shown parts file r w k h = let count = r.count in of_each (Shown parts file) (each_shown parts file r.each w) k (omega arith)
