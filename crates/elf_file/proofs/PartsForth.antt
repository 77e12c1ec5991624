-- A file that passes each check is the one that is written for the parts in it.
use Rattle.std.proofs.Common.{◌≡◌, refl, sym, ap, subst, ◌∙◌, ℕ, zero, suc, ◌+◌, ◌*◌, ◌-◌, ◌^◌, ◌<◌, ◌≤◌, Bool, true, false, List, [], ◌∷◌, ◌++◌, length, take, drop, get_or, replicate, map, inr, arith}
use Rattle.std.specs.Prelude.{All, nat_eq}
use Rattle.std.specs.List.{count_by, range_with_len, AllByRecursion, position_or_len}
use Rattle.std.proofs.lemmas.List.{append-nil, take_all, length-take, get_or-drop, get_or-take, drop-drop, drop-take, take-take, take_min, drop_more, length-drop, get_or_past}
use Rattle.std.proofs.lemmas.List.Sums.{passes_at_first, count_by-le-length, count_by_more_yes, count_by_more_no}
use Rattle.std.proofs.lemmas.List.Elements.{recursion_from_All}
use Rattle.std.proofs.lemmas.List.FromFn.{length-map-range_with_len, get_or-map-range_with_len}
use Rattle.std.proofs.lemmas.Bool.{eqb-true, cases_eq, cases_lt}
use Rattle.std.proofs.Math.Logic.{⊎_elim}
use Rattle.elf_file.specs.Places.{word_at, Stands}
use Rattle.elf_file.specs.Layout.{fixed_at, held_at, zeros_at, symbols_at, strings_at, names_at, headers_at, file_header, section_table, file_length}
use Rattle.elf_file.specs.Written.{WrittenBy, ZerosUpTo, sizes_of, symbol_entry, symbol_entries, symbol_table, string_table, reloc_entry, reloc_table}
use Rattle.elf_file.specs.WellFormed.{WellFormed, SymbolFits, RelocFits, section_sizes}
use Rattle.elf_file.specs.Pieces.{joined}
use Rattle.elf_file.specs.Object.{Object, Section, object_of, object_in, sections_of, symbol_in, reloc_in, bytes_in, name_in, symbol_bytes, reloc_bytes, strings_in, relocs_in, no_symbol, no_reloc}
use Rattle.elf_file.specs.Read.{IsFileOf}
use Rattle.elf_file.specs.Checks.{parts_in, symbols_of, sections_in, AllStands}
use Rattle.elf_file.specs.declared.layout.Sizes.{Sizes}
use Rattle.elf_file.specs.declared.parts.SymbolPart.{SymbolPart}
use Rattle.elf_file.specs.declared.parts.RelocPart.{RelocPart}
use Rattle.elf_file.proofs.Tables.{strings, string_table-more, length-string_table-more}
use Rattle.elf_file.proofs.Entries.{AreBytes}
use Rattle.elf_file.proofs.ViewFacts.{length-bytes_in}
use Rattle.elf_file.proofs.StandsFacts.{stands_join, stands_split, stands_at, stands_bytes, stands_empty, bytes_stand, no_gap, table_stands}
use Rattle.elf_file.proofs.Decoded.{entries_stand}
use Rattle.elf_file.proofs.WrittenPieces.{length_gap}
use Rattle.elf_file.proofs.SizesBack.{same_sizes, all_count, no_count}
use Rattle.elf_file.proofs.SymbolsIn.{length-symbols_of, symbols_of-at}

-- the sizes of an object of text alone
abbrev pub text_sizes : ℕ → ℕ → ℕ → ℕ → ℕ → Sizes
text_sizes text relocs symbols locals strings = record { text = text; fixed = 0; held = 0; zeros = 0; text_relocs = relocs; fixed_relocs = 0; held_relocs = 0; symbols = symbols; locals = locals; strings = strings }

-- a file of that many bytes that passes the checks
pub record Passes (file : List ℕ) (sizes : Sizes) : Type 0 where
  pub bytes : AreBytes file
  pub whole : length file ≡ file_length sizes
  pub small : length file < 2 ^ 32
  pub some : 0 < sizes.symbols
  pub few : sizes.symbols ≤ 2 ^ 24
  pub stands : AllStands file sizes

length-relocs_in : (file : List ℕ) (sizes : Sizes) → length (relocs_in file sizes) ≡ sizes.text_relocs
length-relocs_in file sizes = length-map-range_with_len (λ index. reloc_in (reloc_bytes file sizes index)) 0 sizes.text_relocs

relocs_in-at : (file : List ℕ) (sizes : Sizes) (k : ℕ) (d : RelocPart) → k < sizes.text_relocs → get_or (relocs_in file sizes) k d ≡ reloc_in (reloc_bytes file sizes k)
relocs_in-at file sizes k d h = get_or-map-range_with_len (λ index. reloc_in (reloc_bytes file sizes index)) 0 sizes.text_relocs k k d h (omega arith)

relocs_in-text : (file : List ℕ) (sizes : Sizes) → AllByRecursion (λ reloc. reloc.section ≡ 1) (relocs_in file sizes)
relocs_in-text file sizes =
    let P : RelocPart → Type 0 = λ reloc. reloc.section ≡ 1 in
    recursion_from_All P (relocs_in file sizes) (λ k d h. ap (λ (r : RelocPart). r.section) (relocs_in-at file sizes k d (omega (arith, length-relocs_in file sizes))))

pub sizes_forth : (file : List ℕ) (t r n l s : ℕ) → Passes file (text_sizes t r n l s) → sizes_of (parts_in file (text_sizes t r n l s)) ≡ text_sizes t r n l s
sizes_forth file t r n l s passes =
    let sizes = text_sizes t r n l s in
    let symbols = passes.stands.symbols in
    let whole = passes.whole in
    let some = passes.some in
    let long = length-symbols_of file sizes in
    same_sizes (sizes_of (parts_in file sizes)) sizes (length-bytes_in file 64 t (omega arith)) refl refl refl
    (all_count (relocs_in file sizes) (relocs_in-text file sizes) ∙ length-relocs_in file sizes)
    (no_count 2 (relocs_in file sizes) (omega arith) (relocs_in-text file sizes)) (no_count 3 (relocs_in file sizes) (omega arith) (relocs_in-text file sizes))
    (omega arith) symbols.locals.whole symbols.names.whole

split_joined : (file xs ys : List ℕ) (at : ℕ) → Stands file at (joined (xs ∷ ys ∷ [])) → Stands file at xs × Stands file (at + length xs) ys
unfolding joined
split_joined file xs ys at s = let t = stands_split file xs (ys ++ []) at s in (t.0, stands_bytes t.1 ys (append-nil ys))

-- a name that ends inside the string table ends before a zero
name_zero : (strs : List ℕ) (place : ℕ) → place + length (name_in strs place) < length strs → get_or strs (place + length (name_in strs place)) 0 ≡ 0
name_zero strs place h =
    let rest = drop place strs in
    let pos = position_or_len (λ byte. nat_eq byte 0) rest in
    let long = length-take pos rest in
    let left = length-drop place strs in
    let is : length (name_in strs place) ≡ pos = omega arith in
    let zero_there = passes_at_first (λ byte. nat_eq byte 0) rest 0 (omega arith) in
    ap (λ (m : ℕ). get_or strs (place + m) 0) is ∙ sym (get_or-drop place strs pos 0) ∙ eqb-true (get_or rest pos 0) 0 zero_there

byte_stands : (file : List ℕ) (at byte : ℕ) → at < length file → get_or file at 0 ≡ byte → Stands file at (byte ∷ [])
byte_stands file at byte h e = record { are = ap (λ (xs : List ℕ). take 1 xs) (drop_more file at 0 h) ∙ ap (λ (b : ℕ). b ∷ []) e }

-- a part of what is taken
taken_part : (file : List ℕ) (at size place len : ℕ) → place + len ≤ size → take len (drop place (take size (drop at file))) ≡ take len (drop (at + place) file)
taken_part file at size place len h =
    let whole : size ≡ place + (size - place) = omega arith in
    ap (λ (m : ℕ). take len (drop place (take m (drop at file)))) whole ∙ ap (take len) (drop-take place (size - place) (drop at file))
    ∙ take-take len (size - place) (drop place (drop at file)) (omega arith) ∙ ap (take len) (drop-drop place at file)

name_stands : (file : List ℕ) (at size place : ℕ) → at + size ≤ length file → place + (length (name_in (bytes_in file at size) place) + 1) ≤ size → Stands file (at + place) (name_in (bytes_in file at size) place ++ 0 ∷ [])
name_stands file at size place room h =
    let strs = bytes_in file at size in
    let name = name_in strs place in
    let rest = drop place strs in
    let pos = position_or_len (λ byte. nat_eq byte 0) rest in
    let long = length-bytes_in file at size room in
    let front : take (length name) rest ≡ name = ap (λ (m : ℕ). take m rest) (length-take pos rest) ∙ take_min pos rest in
    let first : Stands file (at + place) name = record { are = sym (taken_part file at size place (length name) (omega arith)) ∙ front } in
    let byte = sym (get_or-drop at file (place + length name) 0) ∙ sym (get_or-take size (drop at file) (place + length name) 0 (omega arith)) ∙ name_zero strs place (omega arith) in
    stands_join file name (0 ∷ []) (at + place) first (stands_at (byte_stands file (at + (place + length name)) 0 (omega arith) byte) (at + place + length name) (omega arith))

string_stands : (file : List ℕ) (sizes : Sizes) → Passes file sizes → (k : ℕ) → k + 1 ≤ sizes.symbols → Stands file (strings_at sizes) (string_table (take k (symbols_of file sizes)))
string_stands file sizes passes zero h = passes.stands.symbols.start
string_stands file sizes passes (suc k) h =
    let ss = symbols_of file sizes in
    let inside : k + 1 < sizes.symbols = omega arith in
    let next : k + 1 ≡ suc k = omega arith in
    let long = length-symbols_of file sizes in
    let whole = passes.whole in
    let names = passes.stands.symbols.names.each k inside in
    let limit = names.inside in
    let before = string_stands file sizes passes k (omega arith) in
    let is : (get_or ss k no_symbol).name ≡ name_in (strings_in file sizes) (length (string_table (take k ss))) =
    ap (λ (x : SymbolPart). x.name) (symbols_of-at file sizes k no_symbol inside) ∙ ap (λ (m : ℕ). name_in (strings_in file sizes) m) names.place in
    let len : length (get_or ss k no_symbol).name ≡ length (name_in (strings_in file sizes) (length (string_table (take k ss)))) = ap length is in
    let more = length-string_table-more ss k no_symbol (omega arith) in
    let one = name_stands file (strings_at sizes) sizes.strings (length (string_table (take k ss))) (omega arith) (omega arith) in
    let S : ℕ → Type 0 = λ m. Stands file (strings_at sizes) (string_table (take m ss)) in
    subst S next (stands_bytes (stands_join file (string_table (take k ss)) (name_in (strings_in file sizes) (length (string_table (take k ss))) ++ 0 ∷ []) (strings_at sizes) before one) (string_table (take (k + 1) ss))
    (ap (λ (xs : List ℕ). string_table (take k ss) ++ (xs ++ 0 ∷ [])) (sym is) ∙ sym (string_table-more ss k no_symbol (omega arith))))

entries_forth : (file : List ℕ) (sizes : Sizes) → Passes file sizes → Stands file (symbols_at sizes) (symbol_table (symbols_of file sizes))
entries_forth file sizes passes =
    let symbols = passes.stands.symbols in
    let long = length-symbols_of file sizes in
    let sixteen : symbols_at sizes + 16 - symbols_at sizes ≡ 16 = omega arith in
    let first = stands_bytes symbols.no_symbol (replicate 16 0) (ap (λ (n : ℕ). replicate n 0) sixteen) in
    stands_join file (replicate 16 0) (symbol_entries 1 (symbols_of file sizes)) (symbols_at sizes) first
    (entries_stand file no_symbol (symbols_of file sizes) (symbols_at sizes + 16) 1 (λ k h.
    let inside : k + 1 < sizes.symbols = omega arith in
    let fits = symbols.entries k inside in
    let name = (symbols.names.each k inside).place in
    let place : word_at (symbol_bytes file sizes (k + 1)) 0 ≡ 1 + length (strings (take k (symbols_of file sizes))) = omega arith in
    let is = symbols_of-at file sizes k no_symbol inside in
    let entry : symbol_bytes file sizes (k + 1) ≡ symbol_entry (1 + length (strings (take k (symbols_of file sizes)))) (get_or (symbols_of file sizes) k no_symbol) =
    fits.written ∙ ap (λ (m : ℕ). symbol_entry m (symbol_in (strings_in file sizes) (symbol_bytes file sizes (k + 1)))) place ∙ ap (λ (x : SymbolPart). symbol_entry (1 + length (strings (take k (symbols_of file sizes)))) x) (sym is) in
    let there : Stands file (symbols_at sizes + 16 * (k + 1)) (symbol_entry (1 + length (strings (take k (symbols_of file sizes)))) (get_or (symbols_of file sizes) k no_symbol)) = record { are = entry } in
    stands_at there (symbols_at sizes + 16 + 16 * k) (omega arith)))

relocs_forth : (file : List ℕ) (sizes : Sizes) → Passes file sizes → Stands file (zeros_at sizes) (reloc_table (relocs_in file sizes))
relocs_forth file sizes passes =
    let long = length-relocs_in file sizes in
    table_stands reloc_entry 8 file no_reloc (relocs_in file sizes) (zeros_at sizes) (λ x. refl) (λ k h.
    let inside : k < sizes.text_relocs = omega arith in
    record { are = (passes.stands.relocs.fit k inside).written ∙ ap (λ (x : RelocPart). reloc_entry x) (sym (relocs_in-at file sizes k no_reloc inside)) })

pub written_forth : (file : List ℕ) (t r n l s : ℕ) → Passes file (text_sizes t r n l s) → WrittenBy (text_sizes t r n l s) (parts_in file (text_sizes t r n l s)) file
written_forth file t r n l s passes =
    let sizes = text_sizes t r n l s in
    let frame = passes.stands.frame in
    let whole = passes.whole in
    let some = passes.some in
    let front = split_joined file (file_header (headers_at sizes)) (replicate 12 0) 0 frame.header in
    let back = split_joined file (replicate (headers_at sizes - (names_at sizes + 84)) 0) (section_table sizes) (names_at sizes + 84) frame.ending in
    let gap = length_gap (names_at sizes + 84) (headers_at sizes) in
    let same : zeros_at sizes ≡ fixed_at sizes = omega arith in
    let Z : ℕ → Type 0 = λ m. ZerosUpTo file (64 + t) m in
    record {
      header = front.0;
      before_text = front.1;
      text = bytes_stand file 64 t (omega arith);
      before_fixed = subst Z same frame.before_relocs;
      fixed = stands_empty file (fixed_at sizes);
      before_held = no_gap file (fixed_at sizes + 0) (held_at sizes) (omega arith);
      held = stands_empty file (held_at sizes);
      before_relocs = no_gap file (held_at sizes + 0) (zeros_at sizes) (omega arith);
      relocs = relocs_forth file sizes passes;
      symbols = entries_forth file sizes passes;
      strings = stands_bytes (string_stands file sizes passes (n - 1) (omega arith)) (string_table (symbols_of file sizes)) (ap string_table (take_all (n - 1) (symbols_of file sizes) (omega (arith, length-symbols_of file sizes))));
      names = frame.names;
      before_headers = back.0;
      headers = stands_at back.1 (headers_at sizes) (omega arith);
      length_is = whole;
    }

-- a symbol of a counted front is local
last_local : (symbols : List SymbolPart) (k : ℕ) (d : SymbolPart) (b : Bool) → (get_or symbols k d).local ≡ b → k < length symbols → count_by (λ symbol. symbol.local) (take (k + 1) symbols) ≡ k + 1
    → ((get_or symbols k d).local ≡ true) × (count_by (λ symbol. symbol.local) (take k symbols) ≡ k)
last_local symbols k d true is inside counted = (is, omega (arith, count_by_more_yes (λ symbol. symbol.local) symbols k d inside is))
last_local symbols k d false is inside counted =
    let few = count_by-le-length (λ symbol. symbol.local) (take k symbols) in
    let long = length-take k symbols in
    let same = count_by_more_no (λ symbol. symbol.local) symbols k d inside is in
    absurd (omega arith)

-- where as many are local as there are, each is
counted_all : (symbols : List SymbolPart) (d : SymbolPart) (k : ℕ) → k ≤ length symbols → count_by (λ symbol. symbol.local) (take k symbols) ≡ k → (i : ℕ) → i < k → (get_or symbols i d).local ≡ true
counted_all symbols d zero h count i l = absurd (omega arith)
counted_all symbols d (suc k) h count i l =
    let next : suc k ≡ k + 1 = omega arith in
    let counted : count_by (λ symbol. symbol.local) (take (k + 1) symbols) ≡ k + 1 = ap (λ (m : ℕ). count_by (λ symbol. symbol.local) (take m symbols)) (sym next) ∙ count ∙ next in
    let last = last_local symbols k d (get_or symbols k d).local refl (omega arith) counted in
    ⊎_elim (λ (e : k ≡ i). ap (λ (m : ℕ). (get_or symbols m d).local) (sym e) ∙ last.0)
    (λ (ne : k ≡ i → ⊥). counted_all symbols d k (omega arith) last.1 i (omega arith)) (cases_eq k i)

-- a part of bytes is bytes, and their words have 32 bits
part_bytes : (file : List ℕ) (at size i : ℕ) → AreBytes file → get_or (bytes_in file at size) i 0 < 256
part_bytes file at size i bytes =
    ⊎_elim (λ (l : i < size). let same = get_or-take size (drop at file) i 0 l ∙ get_or-drop at file i 0 in let byte = bytes (at + i) in omega arith)
    (λ (g : size ≤ i). let past = get_or_past (bytes_in file at size) i 0 (omega (arith, length-take size (drop at file))) in omega arith) (cases_lt i size)

word-small : (xs : List ℕ) (at : ℕ) → AreBytes xs → word_at xs at < 2 ^ 32
word-small xs at bytes = let a = bytes at in let b = bytes (at + 1) in let c = bytes (at + 2) in let d = bytes (at + 3) in omega arith

range_forth : (file : List ℕ) (sizes : Sizes) → Passes file sizes → All (λ symbol. (symbol.value < 2 ^ 32) × (symbol.size < 2 ^ 32)) (symbols_of file sizes)
range_forth file sizes passes k d h =
    let is = symbols_of-at file sizes k d (omega (arith, length-symbols_of file sizes)) in
    let entry = symbol_bytes file sizes (k + 1) in
    let bytes = λ (i : ℕ). part_bytes file (symbols_at sizes + 16 * (k + 1)) 16 i passes.bytes in
    let P : SymbolPart → Type 0 = λ x. (x.value < 2 ^ 32) × (x.size < 2 ^ 32) in
    subst P (sym is) (word-small entry 4 bytes, word-small entry 8 bytes)

well_formed_forth : (file : List ℕ) (t r n l s : ℕ) → Passes file (text_sizes t r n l s) → WellFormed (parts_in file (text_sizes t r n l s))
well_formed_forth file t r n l s passes =
    let sizes = text_sizes t r n l s in
    let parts = parts_in file sizes in
    let whole = passes.whole in
    let few = passes.few in
    let long = length-symbols_of file sizes in
    let relocs_long = length-relocs_in file sizes in
    let sections : sections_in sizes ≡ section_sizes parts = ap (λ (m : ℕ). 0 ∷ m ∷ 0 ∷ 0 ∷ 0 ∷ []) (sym (length-bytes_in file 64 t (omega arith))) in
    let Small : Sizes → Type 0 = λ x. file_length x < 2 ^ 32 in
    let small : file_length sizes < 2 ^ 32 = omega (arith, passes.small) in
    record {
      symbols = λ k d h.
          let inside : k + 1 < n = omega arith in
          let P : List ℕ → Type 0 = λ xs. SymbolFits xs (get_or (symbols_of file sizes) k d) in
          let Q : SymbolPart → Type 0 = λ x. SymbolFits (sections_in sizes) x in
          subst P sections (subst Q (sym (symbols_of-at file sizes k d inside)) (passes.stands.symbols.entries k inside).fits);
      locals_first = λ i j d below h later.
          let inside : j + 1 < n = omega arith in
          counted_all (symbols_of file sizes) d j (omega arith) (passes.stands.symbols.locals.each j inside (ap (λ (x : SymbolPart). x.local) (sym (symbols_of-at file sizes j d inside)) ∙ later)) i below;
      few_symbols = omega arith;
      relocs = λ k d h.
          let inside : k < r = omega arith in
          let P : List ℕ → Type 0 = λ xs. RelocFits xs (symbols_of file sizes) (get_or (relocs_in file sizes) k d) in
          let Q : RelocPart → Type 0 = λ x. RelocFits (sections_in sizes) (symbols_of file sizes) x in
          subst P sections (subst Q (sym (relocs_in-at file sizes k d inside)) (passes.stands.relocs.fit k inside).fits);
      relocs_rise = λ k d h.
          let next : k + 1 < r = omega arith in
          let first = relocs_in-at file sizes k d (omega arith) in
          let later = relocs_in-at file sizes (k + 1) d next in
          let one = ap (λ (x : RelocPart). x.section) first in
          let two = ap (λ (x : RelocPart). x.section) later in
          let a = ap (λ (x : RelocPart). x.offset) first in
          let b = ap (λ (x : RelocPart). x.offset) later in
          let rises = passes.stands.relocs.rise k next in
          inr (one ∙ sym two, omega arith);
      small = subst Small (sym (sizes_forth file t r n l s passes)) small;
    }

pub IsFileOf-forth : (file : List ℕ) (t r n l s : ℕ) → Passes file (text_sizes t r n l s) → IsFileOf (parts_in file (text_sizes t r n l s)) file
IsFileOf-forth file t r n l s passes =
    let W : Sizes → Type 0 = λ x. WrittenBy x (parts_in file (text_sizes t r n l s)) file in
    record {
      well_formed = well_formed_forth file t r n l s passes;
      in_range = range_forth file (text_sizes t r n l s) passes;
      only_text = record { fixed = refl; held = refl; zeros = refl };
      written = subst W (sym (sizes_forth file t r n l s passes)) (written_forth file t r n l s passes);
    }

-- entry 0 is no symbol
symbol_zero : (file : List ℕ) (sizes : Sizes) (rest : List ℕ) → Passes file sizes → strings_in file sizes ≡ 0 ∷ rest → symbol_in (strings_in file sizes) (symbol_bytes file sizes 0) ≡ no_symbol
symbol_zero file sizes rest passes e =
    let sixteen : symbols_at sizes + 16 - symbols_at sizes ≡ 16 = omega arith in
    let zeroth : symbols_at sizes + 16 * 0 ≡ symbols_at sizes = omega arith in
    let entry : symbol_bytes file sizes 0 ≡ replicate 16 0 =
    ap (λ (m : ℕ). bytes_in file m 16) zeroth ∙ (stands_bytes passes.stands.symbols.no_symbol (replicate 16 0) (ap (λ (m : ℕ). replicate m 0) sixteen)).are in
    ap (λ (xs : List ℕ). symbol_in xs (symbol_bytes file sizes 0)) e ∙ ap (λ (xs : List ℕ). symbol_in (0 ∷ rest) xs) entry

same_object : (a b : Object) → a.sections ≡ b.sections → a.symbols ≡ b.symbols → a.relocs ≡ b.relocs → a ≡ b
same_object a b t s r =
    ap (λ (x : List Section). record { sections = x; symbols = a.symbols; relocs = a.relocs }) t
    ∙ ap (λ (x : List SymbolPart). record { sections = b.sections; symbols = x; relocs = a.relocs }) s
    ∙ ap (λ (x : List RelocPart). record { sections = b.sections; symbols = b.symbols; relocs = x }) r

pub object_forth : (file : List ℕ) (t r n l s : ℕ) → Passes file (text_sizes t r n l s) → object_in file (text_sizes t r n l s) ≡ object_of (parts_in file (text_sizes t r n l s))
object_forth file t r n l s passes =
    let sizes = text_sizes t r n l s in
    let parts = parts_in file sizes in
    let some = passes.some in
    let next : n ≡ suc (n - 1) = omega arith in
    let table = (written_forth file t r n l s passes).strings in
    let strs : strings_in file sizes ≡ string_table (symbols_of file sizes) = ap (λ (m : ℕ). bytes_in file (strings_at sizes) m) (sym passes.stands.symbols.names.whole) ∙ table.are in
    let f = λ (symbol : ℕ). symbol_in (strings_in file sizes) (symbol_bytes file sizes symbol) in
    same_object (object_in file sizes) (object_of parts)
    (ap (λ (x : Sizes). sections_of x (bytes_in file 64 t) [] []) (sym (sizes_forth file t r n l s passes)))
    (ap (λ (m : ℕ). map f (range_with_len 0 m)) next ∙ ap (λ (x : SymbolPart). x ∷ map f (range_with_len 1 (n - 1))) (symbol_zero file sizes _ passes strs))
    refl
