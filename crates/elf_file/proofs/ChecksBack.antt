-- A written file passes each check.
use Rattle.std.proofs.Common.{◌≡◌, refl, sym, ap, subst, ◌∙◌, ℕ, zero, suc, ◌+◌, ◌-◌, ◌<◌, ◌≤◌, true, List, [], ◌∷◌, ◌++◌, length, take, get_or, replicate, arith}
use Rattle.std.specs.List.{count_by}
use Rattle.std.proofs.lemmas.List.{append-nil}
use Rattle.std.proofs.lemmas.List.Sums.{count_by_more_yes}
use Rattle.std.proofs.Math.Logic.{⊎_elim}
use Rattle.cc_base.specs.Words.{join-word_bytes}
use Rattle.elf_file.specs.Places.{word_at}
use Rattle.elf_file.specs.Layout.{fixed_at, zeros_at, symbols_at, strings_at, names_at, headers_at, places_of, file_header, section_table}
use Rattle.elf_file.specs.Written.{ZerosUpTo, sizes_of, symbol_entry, symbol_entries, string_table, reloc_entry}
use Rattle.elf_file.specs.WellFormed.{SymbolFits, RelocFits}
use Rattle.elf_file.specs.Pieces.{joined, padded, ending}
use Rattle.elf_file.specs.Object.{reloc_in, symbol_bytes, reloc_bytes, no_symbol, no_reloc}
use Rattle.elf_file.specs.Read.{IsFileOf}
use Rattle.elf_file.specs.Checks.{sections_in, FrameStands, EntriesFit, NamesStand, LocalsFirst, SymbolsStand, RelocsStand, AllStands}
use Rattle.elf_file.specs.declared.parts.ObjectParts.{ObjectParts}
use Rattle.elf_file.specs.declared.parts.SymbolPart.{SymbolPart}
use Rattle.elf_file.specs.declared.parts.RelocPart.{RelocPart}
use Rattle.elf_file.proofs.Tables.{string_table-within, length-string_table-more}
use Rattle.elf_file.proofs.StandsFacts.{stands_join, stands_split, stands_at, stands_bytes}
use Rattle.elf_file.proofs.WrittenPieces.{length_gap}
use Rattle.elf_file.proofs.SizesBack.{text_reloc, text_relocs, all_count}
use Rattle.elf_file.proofs.PartsBack.{name_place, name_place-small, entry_is, reloc_is, symbol_back, reloc_back, symbols_back}

two_joined : (xs ys : List ℕ) → xs ++ ys ≡ joined (xs ∷ ys ∷ [])
unfolding joined
two_joined xs ys = ap (λ (zs : List ℕ). xs ++ zs) (sym (append-nil ys))

frame_back : (parts : ObjectParts) (file : List ℕ) → IsFileOf parts file → FrameStands file (sizes_of parts)
frame_back parts file is =
    let s = sizes_of parts in
    let w = is.written in
    let fixed : length parts.fixed ≡ 0 = ap length is.only_text.fixed in
    let held : length parts.held ≡ 0 = ap length is.only_text.held in
    let same : fixed_at s ≡ zeros_at s = omega arith in
    let Z : ℕ → Type 0 = λ n. ZerosUpTo file (64 + s.text) n in
    let gap : ZerosUpTo file (52) 64 = w.before_text in
    record {
      header = stands_bytes (stands_join file (file_header (headers_at s)) (replicate 12 0) 0 w.header w.before_text) (joined (padded (file_header (headers_at s)) 12)) (two_joined (file_header (headers_at s)) (replicate 12 0));
      before_relocs = subst Z same w.before_fixed;
      names = w.names;
      ending =
          let long = length_gap (names_at s + 84) (headers_at s) in
          stands_bytes (stands_join file (replicate (headers_at s - (names_at s + 84)) 0) (section_table s) (names_at s + 84) w.before_headers (stands_at w.headers (names_at s + 84 + length {A = ℕ} (replicate (headers_at s - (names_at s + 84)) 0)) (omega arith)))
          (joined (ending s (places_of s))) (two_joined (replicate (headers_at s - (names_at s + 84)) 0) (section_table s));
    }

-- an entry as written is that of the symbol that is read from it
entry_back : (parts : ObjectParts) (file : List ℕ) → IsFileOf parts file → EntriesFit (sections_in (sizes_of parts)) file (sizes_of parts)
entry_back parts file is k h =
    let s = sizes_of parts in
    let entry = symbol_bytes file s (k + 1) in
    let inside : k < length parts.symbols = omega arith in
    let e = entry_is parts file is k no_symbol inside in
    let back = symbol_back parts file is k no_symbol inside in
    let place : word_at entry 0 ≡ name_place parts k = ap (λ (xs : List ℕ). word_at xs 0) e ∙ join-word_bytes (name_place parts k) (name_place-small parts k no_symbol is.well_formed inside) in
    let F : SymbolPart → Type 0 = λ x. SymbolFits (sections_in s) x in
    record {
      written = e ∙ ap (λ (n : ℕ). symbol_entry n (get_or parts.symbols k no_symbol)) (sym place) ∙ ap (λ (x : SymbolPart). symbol_entry (word_at entry 0) x) (sym back);
      fits = subst F (sym back) (is.well_formed.symbols k no_symbol inside);
    }

names_back : (parts : ObjectParts) (file : List ℕ) → IsFileOf parts file → NamesStand file (sizes_of parts)
names_back parts file is =
    let s = sizes_of parts in
    let ss = symbols_back parts file is in
    record {
      each = λ k h.
          let inside : k < length parts.symbols = omega arith in
          let n : ℕ → Type 0 = λ m. m ≤ s.strings in
          record {
            place = ap (λ (xs : List ℕ). word_at xs 0) (entry_is parts file is k no_symbol inside) ∙ join-word_bytes (name_place parts k) (name_place-small parts k no_symbol is.well_formed inside)
                ∙ ap (λ (xs : List SymbolPart). length (string_table (take k xs))) (sym ss);
            inside = subst n (ap (λ (xs : List SymbolPart). length (string_table (take (k + 1) xs))) (sym ss)) (omega (arith, string_table-within parts.symbols k no_symbol inside, length-string_table-more parts.symbols k no_symbol inside));
          };
      whole = ap (λ (xs : List SymbolPart). length (string_table xs)) ss;
    }

-- where each symbol up to a place is local, as many are
pub all_local : (symbols : List SymbolPart) (k : ℕ) → k ≤ length symbols → ((i : ℕ) → i < k → (get_or symbols i no_symbol).local ≡ true) → count_by (λ symbol. symbol.local) (take k symbols) ≡ k
all_local symbols zero h each = refl
all_local symbols (suc k) h each =
    let next : k + 1 ≡ suc k = omega arith in
    ap (λ (n : ℕ). count_by (λ symbol. symbol.local) (take n symbols)) (sym next)
    ∙ count_by_more_yes (λ symbol. symbol.local) symbols k no_symbol (omega arith) (each k (omega arith))
    ∙ ap (λ (n : ℕ). n + 1) (all_local symbols k (omega arith) (λ i j. each i (omega arith))) ∙ next

locals_back : (parts : ObjectParts) (file : List ℕ) → IsFileOf parts file → LocalsFirst file (sizes_of parts)
locals_back parts file is =
    let ss = symbols_back parts file is in
    record {
      each = λ k h local.
          let inside : k < length parts.symbols = omega arith in
          let last = ap (λ (x : SymbolPart). x.local) (sym (symbol_back parts file is k no_symbol inside)) ∙ local in
          ap (λ (xs : List SymbolPart). count_by (λ symbol. symbol.local) (take k xs)) ss
          ∙ all_local parts.symbols k (omega arith) (λ i j. is.well_formed.locals_first i k no_symbol j inside last);
      whole = ap (λ (xs : List SymbolPart). count_by (λ symbol. symbol.local) xs + 1) ss;
    }

symbols_stand : (parts : ObjectParts) (file : List ℕ) → IsFileOf parts file → SymbolsStand file (sizes_of parts)
symbols_stand parts file is =
    let s = sizes_of parts in
    let long : 16 ≡ symbols_at s + 16 - symbols_at s = omega arith in
    record {
      no_symbol = stands_bytes (stands_split file (replicate 16 0) (symbol_entries 1 parts.symbols) (symbols_at s) is.written.symbols).0 (replicate (symbols_at s + 16 - symbols_at s) 0) (ap (λ (n : ℕ). replicate n 0) long);
      start = (stands_split file (0 ∷ []) _ (strings_at s) is.written.strings).0;
      entries = entry_back parts file is;
      names = names_back parts file is;
      locals = locals_back parts file is;
    }

relocs_stand : (parts : ObjectParts) (file : List ℕ) → IsFileOf parts file → RelocsStand file (sizes_of parts)
relocs_stand parts file is =
    let s = sizes_of parts in
    let all = all_count parts.relocs (text_relocs parts is.well_formed is.only_text) in
    let ss = symbols_back parts file is in
    record {
      fit = λ k h.
          let inside : k < length parts.relocs = omega arith in
          let back = reloc_back parts file is k no_reloc inside in
          let F : RelocPart → Type 0 = λ x. RelocFits (sections_in s) parts.symbols x in
          let G : List SymbolPart → Type 0 = λ xs. RelocFits (sections_in s) xs (reloc_in (reloc_bytes file s k)) in
          record {
            written = reloc_is parts file is k no_reloc inside ∙ ap (λ (x : RelocPart). reloc_entry x) (sym back);
            fits = subst G (sym ss) (subst F (sym back) (is.well_formed.relocs k no_reloc inside));
          };
      rise = λ k h.
          let inside : k < length parts.relocs = omega arith in
          let next : k + 1 < length parts.relocs = omega arith in
          let first = ap (λ (x : RelocPart). x.offset) (reloc_back parts file is k no_reloc inside) in
          let later = ap (λ (x : RelocPart). x.offset) (reloc_back parts file is (k + 1) no_reloc next) in
          let one = text_reloc parts is.only_text _ (is.well_formed.relocs k no_reloc inside) in
          let two = text_reloc parts is.only_text _ (is.well_formed.relocs (k + 1) no_reloc next) in
          ⊎_elim (λ (l : (get_or parts.relocs k no_reloc).section < (get_or parts.relocs (k + 1) no_reloc).section). absurd (omega arith))
          (λ (r : ((get_or parts.relocs k no_reloc).section ≡ (get_or parts.relocs (k + 1) no_reloc).section) × ((get_or parts.relocs k no_reloc).offset + 4 ≤ (get_or parts.relocs (k + 1) no_reloc).offset)).
          let rises = r.1 in omega arith)
          (is.well_formed.relocs_rise k no_reloc next);
    }

pub AllStands-written : (parts : ObjectParts) (file : List ℕ) → IsFileOf parts file → AllStands file (sizes_of parts)
AllStands-written parts file is = record { frame = frame_back parts file is; symbols = symbols_stand parts file is; relocs = relocs_stand parts file is }
