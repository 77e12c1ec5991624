-- One step of the reader's loops over the symbols, and their end.
use Rattle.std.proofs.Common.{◌≡◌, sym, ap, subst, ◌∙◌, ℕ, ◌+◌, ◌-◌, ◌/◌, ◌<◌, ◌≤◌, true, false, List, length, take, get_or, arith}
use Rattle.std.specs.Prelude.{nat_eq}
use Rattle.std.specs.List.{count_by}
use Rattle.std.proofs.lemmas.Bool.{eq-eqb, ne_eqb, false≢true}
use Rattle.elf_file.specs.Places.{word_at}
use Rattle.elf_file.specs.Written.{string_table}
use Rattle.elf_file.specs.Object.{symbol_in, name_in, symbol_bytes, strings_in}
use Rattle.elf_file.specs.Checks.{symbols_of, EntryFits, NameStands, NamesStand}
use Rattle.elf_file.specs.declared.layout.Sizes.{Sizes}
use Rattle.elf_file.specs.declared.parts.SymbolPart.{SymbolPart}
use Rattle.elf_file.proofs.SymbolsIn.{one_more, string_table-next, locals-next, locals-same, take-all_symbols}

pub entry_here : (sections strings entry file : List ℕ) (sizes : Sizes) (s : ℕ) → 1 ≤ s → strings ≡ strings_in file sizes → entry ≡ symbol_bytes file sizes s
    → EntryFits sections strings entry → EntryFits sections (strings_in file sizes) (symbol_bytes file sizes (s - 1 + 1))
entry_here sections strings entry file sizes s some t e fits =
    let back : s ≡ s - 1 + 1 = omega arith in
    let S : List ℕ → Type 0 = λ xs. EntryFits sections xs entry in
    let E : List ℕ → Type 0 = λ xs. EntryFits sections (strings_in file sizes) xs in
    subst E (e ∙ ap (λ (n : ℕ). symbol_bytes file sizes n) back) (subst S t fits)

-- where a name ends that stands behind the others
pub name_end : (file strings entry : List ℕ) (sizes : Sizes) (s name word len : ℕ) → 1 ≤ s → s < sizes.symbols → name ≡ length (string_table (take (s - 1) (symbols_of file sizes)))
    → strings ≡ strings_in file sizes → entry ≡ symbol_bytes file sizes s → word ≡ word_at entry 0 → word ≡ name → len ≡ length (name_in strings name)
    → name + (len + 1) ≡ length (string_table (take s (symbols_of file sizes)))
name_end file strings entry sizes s name word len some h place t e r w l =
    let is : word_at (symbol_bytes file sizes s) 0 ≡ name = ap (λ (xs : List ℕ). word_at xs 0) (sym e) ∙ sym r ∙ w in
    let long : len ≡ length (name_in (strings_in file sizes) name) = l ∙ ap (λ (xs : List ℕ). length (name_in xs name)) t in
    let next = string_table-next file sizes s name some h is in
    omega arith

pub name_here : (file entry : List ℕ) (sizes : Sizes) (s name word end : ℕ) → 1 ≤ s → name ≡ length (string_table (take (s - 1) (symbols_of file sizes))) → entry ≡ symbol_bytes file sizes s
    → word ≡ word_at entry 0 → word ≡ name → end ≡ length (string_table (take s (symbols_of file sizes))) → end ≤ sizes.strings → NameStands file sizes (s - 1)
name_here file entry sizes s name word end some place e r w n inside =
    let back : s - 1 + 1 ≡ s = omega arith in
    let last : length (string_table (take (s - 1 + 1) (symbols_of file sizes))) ≡ end = ap (λ (n : ℕ). length (string_table (take n (symbols_of file sizes)))) back ∙ sym n in
    record {
      place = ap (λ (n : ℕ). word_at (symbol_bytes file sizes n) 0) back ∙ ap (λ (xs : List ℕ). word_at xs 0) (sym e) ∙ sym r ∙ w ∙ place;
      inside = omega arith;
    }

-- a name that passes the end of the string table
pub name_past : (file : List ℕ) (sizes : Sizes) (s end : ℕ) → 1 ≤ s → s < sizes.symbols → end ≡ length (string_table (take s (symbols_of file sizes))) → sizes.strings < end → NamesStand file sizes → ⊥
name_past file sizes s end some h n past names =
    let back : s - 1 + 1 ≡ s = omega arith in
    let inside = (names.each (s - 1) (omega arith)).inside in
    let same = ap (λ (n : ℕ). length (string_table (take n (symbols_of file sizes)))) back in
    omega arith

pub names_end : (file : List ℕ) (sizes : Sizes) (s name : ℕ) → sizes.symbols ≤ s → name ≡ length (string_table (take (s - 1) (symbols_of file sizes))) → name ≡ length (string_table (symbols_of file sizes))
names_end file sizes s name h place = place ∙ ap (λ (xs : List SymbolPart). length (string_table xs)) (take-all_symbols file sizes s h)

-- how many of the symbols before this one are local
abbrev pub locals_to : List ℕ → Sizes → ℕ → ℕ
locals_to file sizes s = count_by (λ symbol. symbol.local) (take s (symbols_of file sizes))

-- before each local symbol up to here each symbol is local
abbrev pub LocalsTo : List ℕ → Sizes → ℕ → Type 0
LocalsTo file sizes s = (k : ℕ) → k + 1 < s → (symbol_in (strings_in file sizes) (symbol_bytes file sizes (k + 1))).local ≡ true → locals_to file sizes k ≡ k

is_local : (file entry : List ℕ) (sizes : Sizes) (s : ℕ) → entry ≡ symbol_bytes file sizes s → get_or entry 12 0 / 16 ≡ 0 → (symbol_in (strings_in file sizes) (symbol_bytes file sizes s)).local ≡ true
is_local file entry sizes s e z = ap (λ (xs : List ℕ). nat_eq (get_or xs 12 0 / 16) 0) (sym e) ∙ eq-eqb (get_or entry 12 0 / 16) 0 z

is_global : (file entry : List ℕ) (sizes : Sizes) (s : ℕ) → entry ≡ symbol_bytes file sizes s → (get_or entry 12 0 / 16 ≡ 0 → ⊥) → (symbol_in (strings_in file sizes) (symbol_bytes file sizes s)).local ≡ false
is_global file entry sizes s e z = ap (λ (xs : List ℕ). nat_eq (get_or xs 12 0 / 16) 0) (sym e) ∙ ne_eqb (get_or entry 12 0 / 16) 0 z

pub local_step : (file entry : List ℕ) (sizes : Sizes) (s locals : ℕ) → 1 ≤ s → s < sizes.symbols → entry ≡ symbol_bytes file sizes s → get_or entry 12 0 / 16 ≡ 0 → locals ≡ s → LocalsTo file sizes s → locals ≡ locals_to file sizes (s - 1) + 1
    → LocalsTo file sizes (s + 1) × (locals + 1 ≡ locals_to file sizes s + 1)
local_step file entry sizes s locals some h e z is before count =
    let next = locals-next file sizes s some h (is_local file entry sizes s e z) in
    (one_more (λ k. (symbol_in (strings_in file sizes) (symbol_bytes file sizes (k + 1))).local ≡ true → locals_to file sizes k ≡ k) s some before (λ _. omega arith), omega arith)

pub global_step : (file entry : List ℕ) (sizes : Sizes) (s locals : ℕ) → 1 ≤ s → s < sizes.symbols → entry ≡ symbol_bytes file sizes s → (get_or entry 12 0 / 16 ≡ 0 → ⊥) → LocalsTo file sizes s → locals ≡ locals_to file sizes (s - 1) + 1
    → LocalsTo file sizes (s + 1) × (locals ≡ locals_to file sizes s + 1)
global_step file entry sizes s locals some h e z before count =
    let global = is_global file entry sizes s e z in
    let same = locals-same file sizes s some h global in
    let back : s - 1 + 1 ≡ s = omega arith in (
      one_more (λ k. (symbol_in (strings_in file sizes) (symbol_bytes file sizes (k + 1))).local ≡ true → locals_to file sizes k ≡ k) s some before
          (λ local. absurd (false≢true (sym global ∙ ap (λ (n : ℕ). (symbol_in (strings_in file sizes) (symbol_bytes file sizes n)).local) (sym back) ∙ local))),
      omega arith,
    )

pub locals_end : (file : List ℕ) (sizes : Sizes) (s locals : ℕ) → sizes.symbols ≤ s → locals ≡ locals_to file sizes (s - 1) + 1 → locals ≡ count_by (λ symbol. symbol.local) (symbols_of file sizes) + 1
locals_end file sizes s locals h count = count ∙ ap (λ (xs : List SymbolPart). count_by (λ symbol. symbol.local) xs + 1) (take-all_symbols file sizes s h)

-- as a loop's next step has it
pub name_next : (file : List ℕ) (sizes : Sizes) (s : ℕ) → length (string_table (take s (symbols_of file sizes))) ≡ length (string_table (take (s + 1 - 1) (symbols_of file sizes)))
name_next file sizes s = let next : s ≡ s + 1 - 1 = omega arith in ap (λ (n : ℕ). length (string_table (take n (symbols_of file sizes)))) next

pub locals_next : (file : List ℕ) (sizes : Sizes) (s : ℕ) → locals_to file sizes s + 1 ≡ locals_to file sizes (s + 1 - 1) + 1
locals_next file sizes s = let next : s ≡ s + 1 - 1 = omega arith in ap (λ (n : ℕ). locals_to file sizes n + 1) next

pub entry_there : (sections strings entry file : List ℕ) (sizes : Sizes) (s : ℕ) → 1 ≤ s → strings ≡ strings_in file sizes → entry ≡ symbol_bytes file sizes s
    → EntryFits sections (strings_in file sizes) (symbol_bytes file sizes (s - 1 + 1)) → EntryFits sections strings entry
entry_there sections strings entry file sizes s some t e fits =
    let back : s ≡ s - 1 + 1 = omega arith in
    let S : List ℕ → Type 0 = λ xs. EntryFits sections xs entry in
    let E : List ℕ → Type 0 = λ xs. EntryFits sections (strings_in file sizes) xs in
    subst S (sym t) (subst E (sym (e ∙ ap (λ (n : ℕ). symbol_bytes file sizes n) back)) fits)
