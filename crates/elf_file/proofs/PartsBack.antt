-- The parts of a written file are read back from it.
use Rattle.std.proofs.Common.{◌≡◌, refl, sym, ap, subst, ◌∙◌, ℕ, ◌+◌, ◌*◌, ◌^◌, ◌<◌, ◌≤◌, List, length, take, get_or, replicate, arith}
use Rattle.std.specs.Prelude.{slice_index}
use Rattle.std.proofs.lemmas.List.{ext_get_or}
use Rattle.std.proofs.lemmas.List.FromFn.{length-map-range_with_len, get_or-map-range_with_len}
use Rattle.elf_file.specs.Layout.{zeros_at, symbols_at}
use Rattle.elf_file.specs.Written.{sizes_of, symbol_entry, symbol_entries, string_table, reloc_entry}
use Rattle.elf_file.specs.WellFormed.{WellFormed, section_sizes}
use Rattle.elf_file.specs.Object.{symbol_in, reloc_in, symbol_bytes, reloc_bytes, strings_in, relocs_in, no_symbol, no_reloc}
use Rattle.elf_file.specs.Read.{IsFileOf}
use Rattle.elf_file.specs.Checks.{parts_in, symbols_of}
use Rattle.elf_file.specs.declared.parts.ObjectParts.{ObjectParts}
use Rattle.elf_file.specs.declared.parts.SymbolPart.{SymbolPart}
use Rattle.elf_file.specs.declared.parts.RelocPart.{RelocPart}
use Rattle.elf_file.proofs.Tables.{strings, string_table-within}
use Rattle.elf_file.proofs.StandsFacts.{stands_split, stands_at, table_entry}
use Rattle.elf_file.proofs.Decoded.{symbol_again, reloc_again, name_again, entry_stands}
use Rattle.elf_file.proofs.SizesBack.{text_reloc, text_relocs, all_count}
use Rattle.elf_file.proofs.SymbolsIn.{length-symbols_of, symbols_of-at}

-- the place of a symbol's name
abbrev pub name_place : ObjectParts → ℕ → ℕ
name_place parts k = length (string_table (take k parts.symbols))

pub entry_is : (parts : ObjectParts) (file : List ℕ) → IsFileOf parts file → (k : ℕ) (d : SymbolPart) → k < length parts.symbols
    → symbol_bytes file (sizes_of parts) (k + 1) ≡ symbol_entry (name_place parts k) (get_or parts.symbols k d)
entry_is parts file is k d h =
    let s = sizes_of parts in
    let entries = (stands_split file (replicate 16 0) (symbol_entries 1 parts.symbols) (symbols_at s) is.written.symbols).1 in
    let one = stands_at (entry_stands file d parts.symbols (symbols_at s + 16) 1 entries k h) (symbols_at s + 16 * (k + 1)) (omega arith) in
    let place : 1 + length (strings (take k parts.symbols)) ≡ name_place parts k = omega arith in
    one.are ∙ ap (λ (n : ℕ). symbol_entry n (get_or parts.symbols k d)) place

pub reloc_is : (parts : ObjectParts) (file : List ℕ) → IsFileOf parts file → (k : ℕ) (d : RelocPart) → k < length parts.relocs → reloc_bytes file (sizes_of parts) k ≡ reloc_entry (get_or parts.relocs k d)
reloc_is parts file is k d h = (table_entry reloc_entry 8 file d parts.relocs (zeros_at (sizes_of parts)) (λ r. refl) is.written.relocs k h).are

pub strings_are : (parts : ObjectParts) (file : List ℕ) → IsFileOf parts file → strings_in file (sizes_of parts) ≡ string_table parts.symbols
strings_are parts file is = is.written.strings.are

pub name_place-small : (parts : ObjectParts) (k : ℕ) (d : SymbolPart) → WellFormed parts → k < length parts.symbols → name_place parts k < 2 ^ 32
name_place-small parts k d w h = let small = w.small in omega (arith, string_table-within parts.symbols k d h)

pub symbol_back : (parts : ObjectParts) (file : List ℕ) → IsFileOf parts file → (k : ℕ) (d : SymbolPart) → k < length parts.symbols
    → symbol_in (strings_in file (sizes_of parts)) (symbol_bytes file (sizes_of parts) (k + 1)) ≡ get_or parts.symbols k d
symbol_back parts file is k d h =
    let fits = is.well_formed.symbols k d h in
    let range = is.in_range k d h in
    ap (λ (xs : List ℕ). symbol_in xs (symbol_bytes file (sizes_of parts) (k + 1))) (strings_are parts file is)
    ∙ ap (λ (xs : List ℕ). symbol_in (string_table parts.symbols) xs) (entry_is parts file is k d h)
    ∙ symbol_again (section_sizes parts) (string_table parts.symbols) (name_place parts k) (get_or parts.symbols k d) range.0 range.1 (name_place-small parts k d is.well_formed h) fits.placed
    (name_again parts.symbols k d h fits.no_zero)

pub reloc_back : (parts : ObjectParts) (file : List ℕ) → IsFileOf parts file → (k : ℕ) (d : RelocPart) → k < length parts.relocs → reloc_in (reloc_bytes file (sizes_of parts) k) ≡ get_or parts.relocs k d
reloc_back parts file is k d h =
    let fits = is.well_formed.relocs k d h in
    let text = text_reloc parts is.only_text (get_or parts.relocs k d) fits in
    let inside = fits.inside in
    let table = fits.in_table in
    let few = is.well_formed.few_symbols in
    let small = is.well_formed.small in
    let P : ℕ → Type 0 = λ n. (get_or parts.relocs k d).offset + 4 ≤ slice_index (section_sizes parts) n in
    let in_text : (get_or parts.relocs k d).offset + 4 ≤ length parts.text = subst P text inside in
    ap (λ (xs : List ℕ). reloc_in xs) (reloc_is parts file is k d h) ∙ reloc_again (get_or parts.relocs k d) text (omega arith) (omega arith)

pub symbols_back : (parts : ObjectParts) (file : List ℕ) → IsFileOf parts file → symbols_of file (sizes_of parts) ≡ parts.symbols
symbols_back parts file is =
    let long = length-symbols_of file (sizes_of parts) in
    ext_get_or no_symbol (symbols_of file (sizes_of parts)) parts.symbols (omega arith)
    (λ k h. symbols_of-at file (sizes_of parts) k no_symbol (omega arith) ∙ symbol_back parts file is k no_symbol (omega arith))

pub relocs_back : (parts : ObjectParts) (file : List ℕ) → IsFileOf parts file → relocs_in file (sizes_of parts) ≡ parts.relocs
relocs_back parts file is =
    let all = all_count parts.relocs (text_relocs parts is.well_formed is.only_text) in
    let long = length-map-range_with_len (λ index. reloc_in (reloc_bytes file (sizes_of parts) index)) 0 (sizes_of parts).text_relocs in
    ext_get_or no_reloc (relocs_in file (sizes_of parts)) parts.relocs (long ∙ all)
    (λ k h. get_or-map-range_with_len (λ index. reloc_in (reloc_bytes file (sizes_of parts) index)) 0 (sizes_of parts).text_relocs k k no_reloc (omega arith) (omega arith) ∙ reloc_back parts file is k no_reloc (omega arith))

pub same_parts : (a b : ObjectParts) → a.text ≡ b.text → a.fixed ≡ b.fixed → a.held ≡ b.held → a.zeros ≡ b.zeros → a.symbols ≡ b.symbols → a.relocs ≡ b.relocs → a ≡ b
same_parts a b t f h z s r =
    let make = λ (x1 x2 x3 : List ℕ) (n : ℕ) (ss : List SymbolPart) (rs : List RelocPart). let p : ObjectParts = record { text = x1; fixed = x2; held = x3; zeros = n; symbols = ss; relocs = rs } in p in
    ap (λ (x : List ℕ). make x a.fixed a.held a.zeros a.symbols a.relocs) t
    ∙ ap (λ (x : List ℕ). make b.text x a.held a.zeros a.symbols a.relocs) f
    ∙ ap (λ (x : List ℕ). make b.text b.fixed x a.zeros a.symbols a.relocs) h
    ∙ ap (λ (x : ℕ). make b.text b.fixed b.held x a.symbols a.relocs) z
    ∙ ap (λ (x : List SymbolPart). make b.text b.fixed b.held b.zeros x a.relocs) s
    ∙ ap (λ (x : List RelocPart). make b.text b.fixed b.held b.zeros b.symbols x) r

pub parts_back : (parts : ObjectParts) (file : List ℕ) → IsFileOf parts file → parts_in file (sizes_of parts) ≡ parts
parts_back parts file is =
    same_parts (parts_in file (sizes_of parts)) parts is.written.text.are (sym is.only_text.fixed) (sym is.only_text.held) (sym is.only_text.zeros) (symbols_back parts file is) (relocs_back parts file is)
