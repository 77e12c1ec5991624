-- The symbols of a written object are as their entries say, and pass the checks of symbols.
use Rattle.std.proofs.Common.{◌≡◌, ◌≢◌, refl, sym, ap, subst, ◌∙◌, ℕ, zero, suc, ◌+◌, ◌*◌, ◌-◌, ◌^◌, ◌<◌, ◌≤◌, Bool, true, false, cond, List, [], ◌∷◌, ◌++◌, length, take, drop, get_or, replicate, arith}
use Rattle.std.specs.Prelude.{All, AllPairs, slice_index}
use Rattle.std.specs.List.{count_by}
use Rattle.std.proofs.lemmas.List.{length-take, take_all, take-append-drop, drop_more}
use Rattle.std.proofs.lemmas.List.Concat.{flat_map-append}
use Rattle.std.proofs.lemmas.List.Sums.{sum_by-take-le, count_by-le-length, count_by_more_no}
use Rattle.std.proofs.lemmas.Bool.{false≢true, cases_eq}
use Rattle.std.proofs.Math.Logic.{⊎_elim}
use Rattle.cc_base.specs.Words.{join-word_bytes}
use Rattle.elf_file.specs.Places.{word_at, half_at, Stands}
use Rattle.elf_file.specs.Layout.{symbols_at, strings_at}
use Rattle.elf_file.specs.Written.{Written, sizes_of, place_number, symbol_entry, symbol_entries, string_table}
use Rattle.elf_file.specs.WellFormed.{WellFormed, IsPlaced, SymbolFits, section_sizes}
use Rattle.elf_file.specs.Object.{object_of, no_symbol, symbol_of, place_of}
use Rattle.elf_file.specs.Read.{InRange}
use Rattle.elf_file.specs.ObjectBytes.{SectionHeader, section_at, kept_as, SymbolBytes, SymbolPasses, SymbolTableBytes, SymbolsBytes}
use Rattle.elf_file.specs.declared.parts.ObjectParts.{ObjectParts}
use Rattle.elf_file.specs.declared.parts.SymbolPart.{SymbolPart}
use Rattle.elf_file.specs.declared.parts.SymbolPlace.{SymbolPlace}
use Rattle.elf_file.specs.declared.parts.SymbolPlace.TheVariants.{At}
use Rattle.elf_file.specs.declared.parts.KeptKind.{KeptKind}
use Rattle.elf_file.specs.declared.parts.KeptKind.TheVariants.{Dropped, Text, Fixed, Held, Zeros}
use Rattle.elf_file.proofs.Tables.{string, strings, string_table-within}
use Rattle.elf_file.proofs.SizesBack.{word_stands}
use Rattle.elf_file.proofs.FieldsStand.{byte_stands, half_stands}
use Rattle.elf_file.proofs.StandsFacts.{stands_split, stands_at, stands_bytes}
use Rattle.elf_file.proofs.Decoded.{place_number-small, place_read, half_read, entry_stands}
use Rattle.elf_file.proofs.ChecksBack.{all_local}
use Rattle.elf_file.proofs.PartsBack.{name_place, name_place-small}
use Rattle.elf_file.proofs.SectionHeaders.{OfEach, of_each, headers_of, Sections, symbols_header, contents_header}
use Rattle.elf_file.proofs.SectionsFit.{Read, the_table, is_table}

-- what stands at a place begins there
pub first_word : (file bytes : List ℕ) (at : ℕ) → Stands file at bytes → 4 ≤ length bytes → word_at file at ≡ word_at bytes 0
first_word file bytes at s h = let here : at ≡ at + 0 = omega arith in ap (λ (n : ℕ). word_at file n) here ∙ word_stands file bytes at 0 s h

-- a symbol's entry and its name
pub symbol_bytes : (file : List ℕ) (table : SectionHeader) (at name : ℕ) (symbol : SymbolPart) → Stands file at (symbol_entry name symbol) → name < 2 ^ 32 → symbol.value < 2 ^ 32 → symbol.size < 2 ^ 32
    → place_number symbol.place < 2 ^ 16 → place_of (place_number symbol.place) ≡ symbol.place → name + length symbol.name < table.sh_size → Stands file (table.sh_offset + name) (symbol.name ++ 0 ∷ []) → All (λ byte. byte ≢ 0) symbol.name → SymbolBytes file table at symbol
symbol_bytes file table at name symbol s small value size few again inside there none =
    let entry = symbol_entry name symbol in
    let word : word_at file at ≡ name = first_word file entry at s (omega arith) ∙ join-word_bytes name small in
    let half : half_at file (at + 14) ≡ place_number symbol.place = half_stands file entry at 14 s (omega arith) ∙ half_read (place_number symbol.place) few in
    record {
      name_inside = omega arith;
      name = stands_at there (table.sh_offset + word_at file at) (ap (λ (n : ℕ). table.sh_offset + n) (sym word));
      no_zero = none;
      value = sym (word_stands file entry at 4 s (omega arith) ∙ join-word_bytes symbol.value value);
      size = sym (word_stands file entry at 8 s (omega arith) ∙ join-word_bytes symbol.size size);
      info = byte_stands file entry at 12 s (omega arith);
      place = sym (ap place_of half ∙ again);
    }

-- the name of a symbol in the string table
name_stands : (file : List ℕ) (at : ℕ) (symbols : List SymbolPart) (k : ℕ) (d : SymbolPart) → k < length symbols → Stands file at (string_table symbols)
    → Stands file (at + length (string_table (take k symbols))) ((get_or symbols k d).name ++ 0 ∷ [])
name_stands file at symbols k d h s =
    let name = (get_or symbols k d).name in
    let table : string_table symbols ≡ string_table (take k symbols) ++ (string (get_or symbols k d) ++ strings (drop (k + 1) symbols)) =
    ap string_table (sym (take-append-drop k symbols)) ∙ ap (λ (xs : List ℕ). 0 ∷ xs) (flat_map-append string (take k symbols) (drop k symbols))
    ∙ ap (λ (ss : List SymbolPart). string_table (take k symbols) ++ strings ss) (drop_more symbols k d h) in
    let behind = (stands_split file (string_table (take k symbols)) (string (get_or symbols k d) ++ strings (drop (k + 1) symbols)) at (stands_bytes s _ table)).1 in
    (stands_split file (string (get_or symbols k d)) (strings (drop (k + 1) symbols)) (at + length (string_table (take k symbols))) behind).0

-- the entry of a symbol
symbol_stands : (parts : ObjectParts) (file : List ℕ) → Written parts file → (k : ℕ) (d : SymbolPart) → k < length parts.symbols → Stands file (symbols_at (sizes_of parts) + 16 * (k + 1)) (symbol_entry (name_place parts k) (get_or parts.symbols k d))
symbol_stands parts file w k d h =
    let s = sizes_of parts in
    let entries = (stands_split file (replicate 16 0) (symbol_entries 1 parts.symbols) (symbols_at s) w.symbols).1 in
    let one = stands_at (entry_stands file d parts.symbols (symbols_at s + 16) 1 entries k h) (symbols_at s + 16 * (k + 1)) (omega arith) in
    let place : 1 + length (strings (take k parts.symbols)) ≡ name_place parts k = omega arith in
    stands_bytes one (symbol_entry (name_place parts k) (get_or parts.symbols k d)) (ap (λ (n : ℕ). symbol_entry n (get_or parts.symbols k d)) place)

-- the string table, as its header says
abbrev strings_header : ObjectParts → SectionHeader
strings_header parts = contents_header 3 0 (strings_at (sizes_of parts)) (sizes_of parts).strings 1

each_symbol : (parts : ObjectParts) (file : List ℕ) → WellFormed parts → InRange parts → Written parts file → (k : ℕ) (d : SymbolPart) → k < length parts.symbols
    → SymbolBytes file (strings_header parts) (symbols_at (sizes_of parts) + 16 * (k + 1)) (get_or parts.symbols k d)
each_symbol parts file f range w k d h =
    let fits = f.symbols k d h in
    let r = range k d h in
    let within = string_table-within parts.symbols k d h in
    let placed = fits.placed in
    let symbol = get_or parts.symbols k d in
    symbol_bytes file (strings_header parts) (symbols_at (sizes_of parts) + 16 * (k + 1)) (name_place parts k) (get_or parts.symbols k d) (symbol_stands parts file w k d h) (name_place-small parts k d f h) r.0 r.1
    (place_number-small (section_sizes parts) symbol symbol.place placed) (place_read (section_sizes parts) symbol symbol.place placed) (omega arith) (name_stands file (strings_at (sizes_of parts)) parts.symbols k d h w.strings) fits.no_zero

-- entry 0 is that of no symbol
null_symbol : (parts : ObjectParts) (file : List ℕ) → Written parts file → SymbolBytes file (strings_header parts) (symbols_at (sizes_of parts) + 16 * 0) no_symbol
null_symbol parts file w =
    let s = sizes_of parts in
    let entry = stands_at (stands_split file (replicate 16 0) (symbol_entries 1 parts.symbols) (symbols_at s) w.symbols).0 (symbols_at s + 16 * 0) (omega arith) in
    let start = (stands_split file (0 ∷ []) (strings parts.symbols) (strings_at s) w.strings).0 in
    symbol_bytes file (strings_header parts) (symbols_at s + 16 * 0) 0 no_symbol entry (omega arith) (omega arith) (omega arith) (omega arith) refl (omega arith) (stands_at start (strings_at s + 0) (omega arith)) (λ k d h. absurd (omega arith))

-- none of the later ones counts, so no more count than are before
none_later : (symbols : List SymbolPart) (k n : ℕ) → k + n ≡ length symbols → ((i : ℕ) → k ≤ i → i < length symbols → (get_or symbols i no_symbol).local ≡ false)
    → count_by (λ symbol. symbol.local) symbols ≡ count_by (λ symbol. symbol.local) (take k symbols)
none_later symbols k zero e none = ap (λ (ss : List SymbolPart). count_by (λ symbol. symbol.local) ss) (sym (take_all k symbols (omega arith)))
none_later symbols k (suc n) e none =
    none_later symbols (k + 1) n (omega arith) (λ i h b. none i (omega arith) b) ∙ count_by_more_no (λ symbol. symbol.local) symbols k no_symbol (omega arith) (none k (omega arith) (omega arith))

-- behind a symbol that is not local no symbol is
later_global : (symbols : List SymbolPart) (k i : ℕ) (local : Bool) → (get_or symbols k no_symbol).local ≡ false → k ≤ i → i < length symbols → AllPairs (λ first later. later.local ≡ true → first.local ≡ true) symbols
    → (get_or symbols i no_symbol).local ≡ local → (get_or symbols i no_symbol).local ≡ false
later_global symbols k i false e j b first l = l
later_global symbols k i true e j b first l = ⊎_elim
    (λ (same : k ≡ i). ap (λ (n : ℕ). (get_or symbols n no_symbol).local) (sym same) ∙ e)
    (λ (other : k ≡ i → ⊥). let before : k < i = omega arith in absurd (false≢true (sym e ∙ first k i no_symbol before b l)))
    (cases_eq k i)

-- and before a local one each is
before_local : (symbols : List SymbolPart) (k i : ℕ) → i < suc k → k < length symbols → AllPairs (λ first later. later.local ≡ true → first.local ≡ true) symbols → (get_or symbols k no_symbol).local ≡ true → (get_or symbols i no_symbol).local ≡ true
before_local symbols k i j h first e = ⊎_elim
    (λ (same : i ≡ k). ap (λ (n : ℕ). (get_or symbols n no_symbol).local) same ∙ e)
    (λ (other : i ≡ k → ⊥). let before : i < k = omega arith in first i k no_symbol before h e)
    (cases_eq i k)

count_take : (symbols : List SymbolPart) (k : ℕ) → count_by (λ symbol. symbol.local) (take k symbols) ≤ count_by (λ symbol. symbol.local) symbols
count_take symbols k = sum_by-take-le (λ symbol. cond symbol.local 1 0) symbols k

-- the local symbols are the first ones, and as many as are counted
locals_by : (symbols : List SymbolPart) (k : ℕ) (local : Bool) → k < length symbols → AllPairs (λ first later. later.local ≡ true → first.local ≡ true) symbols → (get_or symbols k no_symbol).local ≡ local
    → ((get_or symbols k no_symbol).local ≡ true → k < count_by (λ symbol. symbol.local) symbols) × (k < count_by (λ symbol. symbol.local) symbols → (get_or symbols k no_symbol).local ≡ true)
locals_by symbols k true h first e =
    let all = all_local symbols (suc k) (omega arith) (λ i j. before_local symbols k i j h first e) in
    let within = count_take symbols (suc k) in
    (λ _. omega arith, λ _. e)
locals_by symbols k false h first e =
    let few = count_by-le-length (λ symbol. symbol.local) (take k symbols) in
    let long = length-take k symbols in
    let none = none_later symbols k (length symbols - k) (omega arith) (λ i j b. later_global symbols k i (get_or symbols i no_symbol).local e j b first refl) in
    (λ t. absurd (false≢true (sym e ∙ t)), λ c. absurd (omega arith))

-- the sections 1 to 4 are kept, and as long as the parts say
abbrev Holds : ObjectParts → List ℕ → ℕ → Type 0
Holds parts file k = 0 < k → k ≤ 4 → (slice_index (section_sizes parts) k ≡ (section_at file k).sh_size) × (kept_as (section_at file k) ≢ Dropped)

holds_as : (parts : ObjectParts) (file : List ℕ) (k : ℕ) (kind : KeptKind) → Sections file (sizes_of parts) k → kept_as (headers_of (sizes_of parts) k) ≡ kind → (kind ≡ Dropped → ⊥) → slice_index (section_sizes parts) k ≡ (headers_of (sizes_of parts) k).sh_size → Holds parts file k
holds_as parts file k kind e is kept size = λ _ _. (size ∙ sym (ap (λ (h : SectionHeader). h.sh_size) e), λ q. kept (sym is ∙ sym (ap kept_as e) ∙ q))

each_holds : (parts : ObjectParts) (file : List ℕ) → OfEach (Sections file (sizes_of parts)) → OfEach (Holds parts file)
each_holds parts file e = record {
  null = λ h _. absurd (omega arith);
  text = holds_as parts file 1 Text e.text refl (λ q. cc) refl;
  fixed = holds_as parts file 2 Fixed e.fixed refl (λ q. cc) refl;
  held = holds_as parts file 3 Held e.held refl (λ q. cc) refl;
  zeros = holds_as parts file 4 Zeros e.zeros refl (λ q. cc) refl;
  text_relocs = λ _ h. absurd (omega arith);
  fixed_relocs = λ _ h. absurd (omega arith);
  held_relocs = λ _ h. absurd (omega arith);
  symbols = λ _ h. absurd (omega arith);
  strings = λ _ h. absurd (omega arith);
  names = λ _ h. absurd (omega arith);
}

pub holds : (parts : ObjectParts) (file : List ℕ) → Read file (sizes_of parts) → (k : ℕ) → Holds parts file k
holds parts file r k some few = of_each (Holds parts file) (each_holds parts file r.each) k (omega arith) some few

-- what a symbol's place says
placed_at : (sections : List ℕ) (symbol : SymbolPart) (place : SymbolPlace) (section : ℕ) → IsPlaced sections symbol place → place ≡ At section → (0 < section) × (section ≤ 4) × (symbol.value + symbol.size ≤ slice_index sections section)
placed_at sections symbol place section p e = let P : SymbolPlace → Type 0 = λ at. IsPlaced sections symbol at in subst P e p

pub symbol_kept : (parts : ObjectParts) (file : List ℕ) → Read file (sizes_of parts) → (symbol : SymbolPart) → SymbolFits (section_sizes parts) symbol → (section : ℕ) → symbol.place ≡ At section → kept_as (section_at file section) ≢ Dropped
symbol_kept parts file r symbol fits section e = let at = placed_at (section_sizes parts) symbol symbol.place section fits.placed e in (holds parts file r section at.0 at.1).1

symbol_passes : (parts : ObjectParts) (file : List ℕ) → Read file (sizes_of parts) → WellFormed parts → (k : ℕ) → k < length parts.symbols → SymbolPasses file (symbols_header (sizes_of parts)) (k + 1) (get_or parts.symbols k no_symbol)
symbol_passes parts file r f k h =
    let symbol = get_or parts.symbols k no_symbol in
    let fits = f.symbols k no_symbol h in
    let locals = locals_by parts.symbols k symbol.local h f.locals_first refl in
    let at = λ (section : ℕ) (e : symbol.place ≡ At section). placed_at (section_sizes parts) symbol symbol.place section fits.placed e in
    let P : SymbolPlace → Type 0 = λ place. IsPlaced (section_sizes parts) symbol place in
    let count = r.count in
    record {
      locals_first = (λ l. let few = locals.0 l in omega arith, λ b. locals.1 (omega arith));
      defined = λ _ l e. let global : symbol.local ≡ false = subst P e fits.placed in false≢true (sym global ∙ l);
      apart = λ e. subst P e fits.placed;
      there = λ section e. let small = (at section e).1 in omega arith;
      inside = λ section e. let a = at section e in let within = a.2 in let size = (holds parts file r section a.0 a.1).0 in omega arith;
      named = fits.named;
      kept = λ _ section e. symbol_kept parts file r symbol fits section e;
    }

null_passes : (parts : ObjectParts) (file : List ℕ) → SymbolPasses file (symbols_header (sizes_of parts)) 0 no_symbol
null_passes parts file = record {
  locals_first = (λ _. omega arith, λ _. refl);
  defined = λ some. absurd (omega arith);
  apart = λ e. cc;
  there = λ section e. cc;
  inside = λ section e. cc;
  named = λ e. absurd (false≢true (sym e));
  kept = λ e. absurd (false≢true (sym e));
}

-- the symbols from entry 0 on
abbrev EntryBytes : ObjectParts → List ℕ → ℕ → Type 0
EntryBytes parts file k = SymbolBytes file (strings_header parts) (symbols_at (sizes_of parts) + 16 * k) (symbol_of (object_of parts) k) × SymbolPasses file (symbols_header (sizes_of parts)) k (symbol_of (object_of parts) k)

entries : (parts : ObjectParts) (file : List ℕ) → Read file (sizes_of parts) → WellFormed parts → InRange parts → Written parts file → (k : ℕ) → k < length parts.symbols + 1 → EntryBytes parts file k
entries parts file r f range w zero h = (null_symbol parts file w, null_passes parts file)
entries parts file r f range w (suc k) h =
    let next : k + 1 ≡ suc k = omega arith in
    let symbol = get_or parts.symbols k no_symbol in
    let Bytes : ℕ → Type 0 = λ n. SymbolBytes file (strings_header parts) (symbols_at (sizes_of parts) + 16 * n) symbol in
    let Passes : ℕ → Type 0 = λ n. SymbolPasses file (symbols_header (sizes_of parts)) n symbol in
    (subst Bytes next (each_symbol parts file f range w k no_symbol (omega arith)), subst Passes next (symbol_passes parts file r f k (omega arith)))

table_bytes : (parts : ObjectParts) (file : List ℕ) → Read file (sizes_of parts) → WellFormed parts → InRange parts → Written parts file → SymbolTableBytes file (symbols_header (sizes_of parts)) (object_of parts)
table_bytes parts file r f range w =
    let s = sizes_of parts in
    let gap : 16 ≡ symbols_at s + 16 - symbols_at s = omega arith in
    let T : SectionHeader → Type 0 = λ h. (k : ℕ) → k < length parts.symbols + 1 → SymbolBytes file h (symbols_at s + 16 * k) (symbol_of (object_of parts) k) in
    let each = subst T (sym r.each.strings) (λ k h. (entries parts file r f range w k h).0) in
    record {
      count = omega arith;
      no_symbol = λ _. stands_bytes (stands_split file (replicate 16 0) (symbol_entries 1 parts.symbols) (symbols_at s) w.symbols).0 (replicate (symbols_at s + 16 - symbols_at s) 0) (ap (λ (n : ℕ). replicate n 0) gap);
      each = λ k h. each k (omega arith);
      pass = λ k h. (entries parts file r f range w k (omega arith)).1;
    }

pub symbols_shown : (parts : ObjectParts) (file : List ℕ) → Read file (sizes_of parts) → WellFormed parts → InRange parts → Written parts file → SymbolsBytes file (object_of parts)
symbols_shown parts file r f range w =
    let T : SectionHeader → Type 0 = λ h. SymbolTableBytes file h (object_of parts) in
    let K : ℕ → Type 0 = λ t. SymbolTableBytes file (section_at file t) (object_of parts) in
    let table = subst T (sym r.each.symbols) (table_bytes parts file r f range w) in
    record {
      table = λ t is. subst K (sym (the_table file (sizes_of parts) r t is.there is.type)) table;
      no_table = λ none. absurd (none 8 (is_table file (sizes_of parts) r));
    }
