-- What was written as an entry is read as the same symbol or relocation.
use Rattle.std.proofs.Common.{◌≡◌, ◌≢◌, refl, sym, ap, subst, ◌∙◌, ℕ, zero, suc, ◌+◌, ◌*◌, ◌/◌, ◌%◌, ◌^◌, ◌<◌, Bool, true, false, List, [], ◌∷◌, ◌++◌, length, take, drop, get_or, arith}
use Rattle.std.specs.Prelude.{nat_eq, All, if◌then◌else◌}
use Rattle.std.specs.List.{position_or_len, before_first}
use Rattle.std.proofs.lemmas.Bool.{eq-eqb, ne_eqb}
use Rattle.std.proofs.lemmas.List.{append_assoc, length-append, take_at, drop_at, take-append-drop, drop_more, get_or_append_left, get_or_at}
use Rattle.std.proofs.lemmas.List.Concat.{flat_map-append}
use Rattle.std.proofs.lemmas.List.Sums.{position_or_len_is}
use Rattle.cc_base.specs.Words.{join-word_bytes}
use Rattle.elf_file.specs.Places.{word_at, Stands}
use Rattle.elf_file.specs.Written.{kind_number, place_number, bind_number, reloc_number, symbol_entry, symbol_entries, string_table, reloc_entry}
use Rattle.elf_file.specs.WellFormed.{IsPlaced}
use Rattle.elf_file.specs.Object.{kind_of, place_of, reloc_kind_of, symbol_in, reloc_in, name_in}
use Rattle.elf_file.specs.declared.parts.SymbolPart.{SymbolPart}
use Rattle.elf_file.specs.declared.parts.RelocPart.{RelocPart}
use Rattle.elf_file.specs.declared.parts.SymbolKind.{SymbolKind}
use Rattle.elf_file.specs.declared.parts.SymbolKind.TheVariants as kinds
use Rattle.elf_file.specs.declared.parts.SymbolPlace.{SymbolPlace}
use Rattle.elf_file.specs.declared.parts.SymbolPlace.TheVariants.{Undefined, At, Absolute}
use Rattle.elf_file.specs.declared.parts.RelocKind.{RelocKind}
use Rattle.elf_file.specs.declared.parts.RelocKind.TheVariants.{Abs, Rel}
use Rattle.elf_file.proofs.Tables.{string, strings, length-string}
use Rattle.elf_file.proofs.StandsFacts.{stands_join, stands_split, stands_at}

kind_number-small : (k : SymbolKind) → kind_number k < 5
kind_number-small kinds.NoType = omega arith
kind_number-small kinds.Object = omega arith
kind_number-small kinds.Func = omega arith
kind_number-small kinds.Section = omega arith
kind_number-small kinds.File = omega arith

kind_read : (k : SymbolKind) → kind_of (kind_number k) ≡ k
kind_read kinds.NoType = refl
kind_read kinds.Object = refl
kind_read kinds.Func = refl
kind_read kinds.Section = refl
kind_read kinds.File = refl

local_read : (local : Bool) (k : ℕ) → k < 5 → nat_eq ((bind_number local * 16 + k) / 16) 0 ≡ local
local_read true k h = eq-eqb ((0 * 16 + k) / 16) 0 (omega arith)
local_read false k h = ne_eqb ((1 * 16 + k) / 16) 0 (λ e. omega arith)

type_read : (local : Bool) (k : ℕ) → k < 5 → (bind_number local * 16 + k) % 16 ≡ k
type_read true k h = omega arith
type_read false k h = omega arith

pub place_number-small : (sections : List ℕ) (symbol : SymbolPart) (place : SymbolPlace) → IsPlaced sections symbol place → place_number place < 2 ^ 16
place_number-small sections symbol Undefined h = omega arith
place_number-small sections symbol (At n) h = omega (arith, h.1)
place_number-small sections symbol Absolute h = omega arith

pub place_read : (sections : List ℕ) (symbol : SymbolPart) (place : SymbolPlace) → IsPlaced sections symbol place → place_of (place_number place) ≡ place
place_read sections symbol Undefined h = refl
place_read sections symbol (At n) h =
    let some = h.0 in let few = h.1 in
    ap (λ (b : Bool). if b then Undefined else (if nat_eq n 0xfff1 then Absolute else At n)) (ne_eqb n 0 (λ e. omega arith))
    ∙ ap (λ (b : Bool). if b then Absolute else At n) (ne_eqb n 0xfff1 (λ e. omega arith))
place_read sections symbol Absolute h = refl

pub half_read : (n : ℕ) → n < 2 ^ 16 → n % 256 + 256 * (n / 256 % 256) ≡ n
half_read n h = omega arith

pub same_symbol : (a b : SymbolPart) → a.name ≡ b.name → a.local ≡ b.local → a.kind ≡ b.kind → a.place ≡ b.place → a.value ≡ b.value → a.size ≡ b.size → a ≡ b
same_symbol a b n l k p v s =
    ap (λ (x : List ℕ). record { name = x; local = a.local; kind = a.kind; place = a.place; value = a.value; size = a.size }) n
    ∙ ap (λ (x : Bool). record { name = b.name; local = x; kind = a.kind; place = a.place; value = a.value; size = a.size }) l
    ∙ ap (λ (x : SymbolKind). record { name = b.name; local = b.local; kind = x; place = a.place; value = a.value; size = a.size }) k
    ∙ ap (λ (x : SymbolPlace). record { name = b.name; local = b.local; kind = b.kind; place = x; value = a.value; size = a.size }) p
    ∙ ap (λ (x : ℕ). record { name = b.name; local = b.local; kind = b.kind; place = b.place; value = x; size = a.size }) v
    ∙ ap (λ (x : ℕ). record { name = b.name; local = b.local; kind = b.kind; place = b.place; value = b.value; size = x }) s

pub symbol_again : (sections strings : List ℕ) (name : ℕ) (symbol : SymbolPart) → symbol.value < 2 ^ 32 → symbol.size < 2 ^ 32 → name < 2 ^ 32 → IsPlaced sections symbol symbol.place → name_in strings name ≡ symbol.name
    → symbol_in strings (symbol_entry name symbol) ≡ symbol
symbol_again sections strings name symbol value size small placed named =
    let k = kind_number-small symbol.kind in
    same_symbol (symbol_in strings (symbol_entry name symbol)) symbol
    (ap (λ (n : ℕ). name_in strings n) (join-word_bytes name small) ∙ named)
    (local_read symbol.local (kind_number symbol.kind) k)
    (ap (λ (n : ℕ). kind_of n) (type_read symbol.local (kind_number symbol.kind) k) ∙ kind_read symbol.kind)
    (ap (λ (n : ℕ). place_of n) (half_read (place_number symbol.place) (place_number-small sections symbol symbol.place placed)) ∙ place_read sections symbol symbol.place placed)
    (join-word_bytes symbol.value value)
    (join-word_bytes symbol.size size)

reloc_kind_read : (k : RelocKind) → reloc_kind_of (reloc_number k) ≡ k
reloc_kind_read Abs = refl
reloc_kind_read Rel = refl

pub reloc_number-small : (k : RelocKind) → reloc_number k < 256
reloc_number-small Abs = omega arith
reloc_number-small Rel = omega arith

same_reloc : (a b : RelocPart) → a.section ≡ b.section → a.offset ≡ b.offset → a.symbol ≡ b.symbol → a.kind ≡ b.kind → a ≡ b
same_reloc a b t o s k =
    ap (λ (x : ℕ). record { section = x; offset = a.offset; symbol = a.symbol; kind = a.kind }) t
    ∙ ap (λ (x : ℕ). record { section = b.section; offset = x; symbol = a.symbol; kind = a.kind }) o
    ∙ ap (λ (x : ℕ). record { section = b.section; offset = b.offset; symbol = x; kind = a.kind }) s
    ∙ ap (λ (x : RelocKind). record { section = b.section; offset = b.offset; symbol = b.symbol; kind = x }) k

pub reloc_again : (reloc : RelocPart) → reloc.section ≡ 1 → reloc.offset < 2 ^ 32 → reloc.symbol < 2 ^ 24 → reloc_in (reloc_entry reloc) ≡ reloc
reloc_again reloc text offset symbol =
    let k = reloc_number-small reloc.kind in
    let info : word_at (reloc_entry reloc) 4 ≡ reloc.symbol * 256 + reloc_number reloc.kind = join-word_bytes (reloc.symbol * 256 + reloc_number reloc.kind) (omega arith) in
    let number : (reloc.symbol * 256 + reloc_number reloc.kind) / 256 ≡ reloc.symbol = omega arith in
    let type : (reloc.symbol * 256 + reloc_number reloc.kind) % 256 ≡ reloc_number reloc.kind = omega arith in
    same_reloc (reloc_in (reloc_entry reloc)) reloc (sym text) (join-word_bytes reloc.offset offset)
    (ap (λ (n : ℕ). n / 256) info ∙ number)
    (ap (λ (n : ℕ). reloc_kind_of (n % 256)) info ∙ ap (λ (n : ℕ). reloc_kind_of n) type ∙ reloc_kind_read reloc.kind)

-- a name without zeros ends at its zero
before_zero : (name rest : List ℕ) → All (λ byte. byte ≢ 0) name → before_first (λ byte. nat_eq byte 0) (name ++ 0 ∷ rest) ≡ name
before_zero name rest none =
    let all = length-append name (0 ∷ rest) in
    let at : position_or_len (λ byte. nat_eq byte 0) (name ++ 0 ∷ rest) ≡ length name =
    position_or_len_is (λ byte. nat_eq byte 0) (name ++ 0 ∷ rest) (length name) 0 (omega arith)
    (λ k h. ap (λ (n : ℕ). nat_eq n 0) (get_or_append_left name (0 ∷ rest) 0 k h) ∙ ne_eqb (get_or name k 0) 0 (none k 0 h))
    (λ h. ap (λ (n : ℕ). nat_eq n 0) (get_or_at name 0 rest 0 (length name) refl)) in
    ap (λ (n : ℕ). take n (name ++ 0 ∷ rest)) at ∙ take_at name (0 ∷ rest) (length name) refl

pub name_again : (symbols : List SymbolPart) (k : ℕ) (d : SymbolPart) → k < length symbols → All (λ byte. byte ≢ 0) (get_or symbols k d).name
    → name_in (string_table symbols) (length (string_table (take k symbols))) ≡ (get_or symbols k d).name
name_again symbols k d h none =
    let name = (get_or symbols k d).name in
    let rest = strings (drop (k + 1) symbols) in
    let table : string_table symbols ≡ string_table (take k symbols) ++ strings (drop k symbols) =
    ap string_table (sym (take-append-drop k symbols)) ∙ ap (λ (xs : List ℕ). 0 ∷ xs) (flat_map-append string (take k symbols) (drop k symbols)) in
    let behind : drop (length (string_table (take k symbols))) (string_table symbols) ≡ name ++ 0 ∷ rest =
    ap (drop (length (string_table (take k symbols)))) table ∙ drop_at (string_table (take k symbols)) (strings (drop k symbols)) (length (string_table (take k symbols))) refl
    ∙ ap strings (drop_more symbols k d h) ∙ append_assoc name (0 ∷ []) rest in
    ap (before_first (λ byte. nat_eq byte 0)) behind ∙ before_zero name rest none

-- the entries of a symbol table, one by one
pub entries_stand : (file : List ℕ) (d : SymbolPart) (symbols : List SymbolPart) (at name : ℕ)
    → ((k : ℕ) → k < length symbols → Stands file (at + 16 * k) (symbol_entry (name + length (strings (take k symbols))) (get_or symbols k d))) → Stands file at (symbol_entries name symbols)
entries_stand file d [] at name each = record { are = refl }
entries_stand file d (symbol ∷ symbols) at name each =
    let zeroth : name + 0 ≡ name = omega arith in
    let S : ℕ → Type 0 = λ n. Stands file at (symbol_entry n symbol) in
    let first = subst S zeroth (stands_at (each 0 (omega arith)) at (omega arith)) in
    stands_join file (symbol_entry name symbol) (symbol_entries (name + (length symbol.name + 1)) symbols) at first
    (entries_stand file d symbols (at + 16) (name + (length symbol.name + 1)) (λ k h.
    let n : name + length (strings (symbol ∷ take k symbols)) ≡ name + (length symbol.name + 1) + length (strings (take k symbols)) = omega (arith, length-append (string symbol) (strings (take k symbols)), length-string symbol) in
    let T : ℕ → Type 0 = λ m. Stands file (at + 16 + 16 * k) (symbol_entry m (get_or symbols k d)) in
    subst T n (stands_at (each (suc k) (omega arith)) (at + 16 + 16 * k) (omega arith))))

pub entry_stands : (file : List ℕ) (d : SymbolPart) (symbols : List SymbolPart) (at name : ℕ) → Stands file at (symbol_entries name symbols)
    → (k : ℕ) → k < length symbols → Stands file (at + 16 * k) (symbol_entry (name + length (strings (take k symbols))) (get_or symbols k d))
entry_stands file d [] at name s k h = absurd (omega arith)
entry_stands file d (symbol ∷ symbols) at name s zero h =
    let zeroth : name ≡ name + 0 = omega arith in
    let S : ℕ → Type 0 = λ n. Stands file (at + 16 * 0) (symbol_entry n symbol) in
    subst S zeroth (stands_at (stands_split file (symbol_entry name symbol) (symbol_entries (name + (length symbol.name + 1)) symbols) at s).0 (at + 16 * 0) (omega arith))
entry_stands file d (symbol ∷ symbols) at name s (suc k) h =
    let rest = (stands_split file (symbol_entry name symbol) (symbol_entries (name + (length symbol.name + 1)) symbols) at s).1 in
    let n : name + (length symbol.name + 1) + length (strings (take k symbols)) ≡ name + length (strings (symbol ∷ take k symbols)) = omega (arith, length-append (string symbol) (strings (take k symbols)), length-string symbol) in
    let T : ℕ → Type 0 = λ m. Stands file (at + 16 * suc k) (symbol_entry m (get_or symbols k d)) in
    subst T n (stands_at (entry_stands file d symbols (at + 16) (name + (length symbol.name + 1)) rest k (omega arith)) (at + 16 * suc k) (omega arith))
