-- What a view shows, by its fields.
use Rattle.std.proofs.Common.{◌≡◌, sym, ap, ◌∙◌, ℕ, ◌+◌, ◌*◌, ◌<◌, ◌≤◌, ◌^◌, List, length, drop, arith}
use Rattle.std.proofs.lemmas.List.{length-take-le, length-drop}
use Rattle.std.proofs.lemmas.List.FromFn.{length-map-range_with_len, get_or-map-range_with_len}
use Rattle.elf_file.specs.Layout.{zeros_at, symbols_at, strings_at}
use Rattle.elf_file.specs.Object.{Object, section_of, symbol_of, reloc_of, no_symbol, no_reloc, object_in, bytes_in, symbol_in, reloc_in, symbol_bytes, reloc_bytes, strings_in, name_in}
use Rattle.elf_file.specs.Places.{word_at}
use Rattle.elf_file.specs.Entry.{IsEntry}
use Rattle.elf_file.specs.View.{IsWhole}
use Rattle.elf_file.specs.declared.layout.Sizes.{Sizes}
use Rattle.elf_file.specs.declared.layout.Places.{Places}
use Rattle.elf_file.specs.declared.parts.SymbolPart.{SymbolPart}

pub length-bytes_in : (file : List ℕ) (at size : ℕ) → at + size ≤ length file → length (bytes_in file at size) ≡ size
length-bytes_in file at size h = length-take-le size (drop at file) (omega (arith, length-drop at file))

pub symbols_count : (file : List ℕ) (sizes : Sizes) (object : Object) → object_in file sizes ≡ object → length object.symbols ≡ sizes.symbols
symbols_count file sizes object e =
    ap (λ (o : Object). length o.symbols) (sym e) ∙ length-map-range_with_len (λ symbol. symbol_in (strings_in file sizes) (symbol_bytes file sizes symbol)) 0 sizes.symbols

pub relocs_count : (file : List ℕ) (sizes : Sizes) (object : Object) → object_in file sizes ≡ object → length object.relocs ≡ sizes.text_relocs
relocs_count file sizes object e =
    ap (λ (o : Object). length o.relocs) (sym e) ∙ length-map-range_with_len (λ index. reloc_in (reloc_bytes file sizes index)) 0 sizes.text_relocs

pub symbol_shown : (file : List ℕ) (sizes : Sizes) (object : Object) → object_in file sizes ≡ object → (k : ℕ) → k < length object.symbols
    → symbol_of object k ≡ symbol_in (strings_in file sizes) (symbol_bytes file sizes k)
symbol_shown file sizes object e k h =
    let n = symbols_count file sizes object e in
    ap (λ (o : Object). symbol_of o k) (sym e) ∙ get_or-map-range_with_len (λ symbol. symbol_in (strings_in file sizes) (symbol_bytes file sizes symbol)) 0 sizes.symbols k k no_symbol (omega arith) (omega arith)

pub reloc_shown : (file : List ℕ) (sizes : Sizes) (object : Object) → object_in file sizes ≡ object → (k : ℕ) → k < length object.relocs
    → reloc_of object k ≡ reloc_in (reloc_bytes file sizes k)
reloc_shown file sizes object e k h =
    let n = relocs_count file sizes object e in
    ap (λ (o : Object). reloc_of o k) (sym e) ∙ get_or-map-range_with_len (λ index. reloc_in (reloc_bytes file sizes index)) 0 sizes.text_relocs k k no_reloc (omega arith) (omega arith)

-- the entries and the string table are inside the file
pub symbol_inside : (file : List ℕ) (sizes : Sizes) (at : Places) (object : Object) → IsWhole file sizes at → object_in file sizes ≡ object → (k : ℕ) → k < length object.symbols
    → (at.symbols + 16 * k + 16 ≤ length file) × (length file < 2 ^ 32) × (at.symbols ≡ symbols_at sizes)
symbol_inside file sizes at object w e k h =
    let n = symbols_count file sizes object e in
    let p : at.symbols ≡ symbols_at sizes = ap (λ (a : Places). a.symbols) w.places in
    let f = w.whole in
    (omega arith, w.small, p)

pub reloc_inside : (file : List ℕ) (sizes : Sizes) (at : Places) (object : Object) → IsWhole file sizes at → object_in file sizes ≡ object → (k : ℕ) → k < length object.relocs
    → (at.zeros + 8 * k + 8 ≤ length file) × (length file < 2 ^ 32) × (at.zeros ≡ zeros_at sizes) × (k < 2 ^ 32)
reloc_inside file sizes at object w e k h =
    let n = relocs_count file sizes object e in
    let p : at.zeros ≡ zeros_at sizes = ap (λ (a : Places). a.zeros) w.places in
    let f = w.whole in
    let s = w.small in
    (omega arith, w.small, p, omega arith)

-- a symbol is that of its entry, however the entry's place was computed
pub symbol_read : (file : List ℕ) (sizes : Sizes) (at : Places) (object : Object) (k : ℕ) (entry : List ℕ) → IsWhole file sizes at → object_in file sizes ≡ object → k < length object.symbols
    → entry ≡ bytes_in file (at.symbols + 16 * k) 16 → symbol_of object k ≡ symbol_in (strings_in file sizes) entry
symbol_read file sizes at object k entry w e h b =
    let p : at.symbols ≡ symbols_at sizes = ap (λ (a : Places). a.symbols) w.places in
    symbol_shown file sizes object e k h ∙ ap (λ (xs : List ℕ). symbol_in (strings_in file sizes) xs) (sym (b ∙ ap (λ (n : ℕ). bytes_in file (n + 16 * k) 16) p))

pub reloc_read : (file : List ℕ) (sizes : Sizes) (at : Places) (object : Object) (k : ℕ) (entry : List ℕ) → IsWhole file sizes at → object_in file sizes ≡ object → k < length object.relocs
    → entry ≡ bytes_in file (at.zeros + 8 * k) 8 → reloc_in entry ≡ reloc_of object k
reloc_read file sizes at object k entry w e h b =
    let p : at.zeros ≡ zeros_at sizes = ap (λ (a : Places). a.zeros) w.places in
    sym (reloc_shown file sizes object e k h ∙ ap (λ (xs : List ℕ). reloc_in xs) (sym (b ∙ ap (λ (n : ℕ). bytes_in file (n + 8 * k) 8) p)))

pub IsEntry-symbol_in : (strings entry : List ℕ) (symbol : SymbolPart) → symbol ≡ symbol_in strings entry → length entry ≡ 16 → IsEntry entry symbol
IsEntry-symbol_in strings entry symbol e long = record {
  long = long;
  local = ap (λ (s : SymbolPart). s.local) e;
  kind = ap (λ (s : SymbolPart). s.kind) e;
  place = ap (λ (s : SymbolPart). s.place) e;
  value = ap (λ (s : SymbolPart). s.value) e;
  size = ap (λ (s : SymbolPart). s.size) e;
}

-- the name of a symbol, from its entry and the string table
pub name_read : (file : List ℕ) (sizes : Sizes) (at : Places) (object : Object) (k : ℕ) (entry strings name : List ℕ) (place : ℕ) → IsWhole file sizes at → object_in file sizes ≡ object → k < length object.symbols
    → entry ≡ bytes_in file (at.symbols + 16 * k) 16 → strings ≡ bytes_in file at.strings sizes.strings → place ≡ word_at entry 0 → name ≡ name_in strings place → name ≡ (symbol_of object k).name
name_read file sizes at object k entry strings name place w e h b s p n =
    let a : at.strings ≡ strings_at sizes = ap (λ (a : Places). a.strings) w.places in
    let i : strings ≡ strings_in file sizes = s ∙ ap (λ (m : ℕ). bytes_in file m sizes.strings) a in
    n ∙ ap (λ (m : ℕ). name_in strings m) p ∙ ap (λ (xs : List ℕ). name_in xs (word_at entry 0)) i ∙ sym (ap (λ (s : SymbolPart). s.name) (symbol_read file sizes at object k entry w e h b))

pub section_shown : (file : List ℕ) (sizes : Sizes) (object : Object) (k n : ℕ) → object_in file sizes ≡ object → k ≡ n → section_of (object_in file sizes) n ≡ section_of object k
section_shown file sizes object k n e i = ap (λ (m : ℕ). section_of (object_in file sizes) m) (sym i) ∙ ap (λ (o : Object). section_of o k) e
