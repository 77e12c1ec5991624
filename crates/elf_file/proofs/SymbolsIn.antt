-- The symbols that stand in a file.
use Rattle.std.proofs.Common.{◌≡◌, ◌≢◌, sym, ap, subst, ◌∙◌, ℕ, ◌+◌, ◌-◌, ◌/◌, ◌<◌, ◌≤◌, true, false, List, [], length, take, drop, get_or, arith}
use Rattle.std.specs.Prelude.{nat_eq, All}
use Rattle.std.specs.List.{position_or_len, count_by}
use Rattle.std.proofs.lemmas.Bool.{cases_eq, eq-eqb, false≢true}
use Rattle.std.proofs.lemmas.List.{get_or-take, length-take, take_all}
use Rattle.std.proofs.lemmas.List.Sums.{fails_before_first, count_by_more_yes, count_by_more_no}
use Rattle.std.proofs.lemmas.List.FromFn.{length-map-range_with_len, get_or-map-range_with_len}
use Rattle.std.proofs.Math.Logic.{⊎_elim}
use Rattle.elf_file.specs.Places.{word_at, half_at}
use Rattle.elf_file.specs.Written.{string_table}
use Rattle.elf_file.specs.WellFormed.{IsPlaced, IsNamed, SymbolFits}
use Rattle.elf_file.specs.Object.{symbol_in, name_in, place_of, symbol_bytes, strings_in, no_symbol}
use Rattle.elf_file.specs.Checks.{symbols_of}
use Rattle.elf_file.specs.declared.layout.Sizes.{Sizes}
use Rattle.elf_file.specs.declared.parts.SymbolPart.{SymbolPart}
use Rattle.elf_file.proofs.Tables.{length-string_table-more}

-- a name ends before a zero
pub no_zeros : (strings : List ℕ) (name : ℕ) → All (λ byte. byte ≢ 0) (name_in strings name)
no_zeros strings name k d h =
    let rest = drop name strings in
    let before : k < position_or_len (λ byte. nat_eq byte 0) rest = omega (arith, length-take (position_or_len (λ byte. nat_eq byte 0) rest) rest) in
    let same = get_or-take (position_or_len (λ byte. nat_eq byte 0) rest) rest k d before in
    let test = fails_before_first (λ byte. nat_eq byte 0) rest k d before in
    λ zero. false≢true (sym test ∙ eq-eqb (get_or rest k d) 0 (sym same ∙ zero))

pub fits_local : (sections strings entry : List ℕ) → IsPlaced sections (symbol_in [] entry) (place_of (half_at entry 14)) → get_or entry 12 0 / 16 ≡ 0 → SymbolFits sections (symbol_in strings entry)
fits_local sections strings entry placed local = record {
  placed = placed;
  named = λ global. absurd (false≢true (sym global ∙ eq-eqb (get_or entry 12 0 / 16) 0 local));
  no_zero = no_zeros strings (word_at entry 0);
}

pub fits_global : (sections strings entry : List ℕ) → IsPlaced sections (symbol_in [] entry) (place_of (half_at entry 14)) → IsNamed (symbol_in strings entry) → SymbolFits sections (symbol_in strings entry)
fits_global sections strings entry placed named = record { placed = placed; named = λ _. named; no_zero = no_zeros strings (word_at entry 0) }

-- what holds of the entries before one, and of that one, holds of those up to it
pub one_more : (P : ℕ → Type 0) (s : ℕ) → 1 ≤ s → ((k : ℕ) → k + 1 < s → P k) → P (s - 1) → (k : ℕ) → k + 1 < s + 1 → P k
one_more P s some before here k h =
    ⊎_elim (λ e. let at : s - 1 ≡ k = sym e in subst P at here)
    (λ ne. before k (omega (arith, ne))) (cases_eq k (s - 1))

-- the symbols, their number, and one of them
pub length-symbols_of : (file : List ℕ) (sizes : Sizes) → length (symbols_of file sizes) ≡ sizes.symbols - 1
length-symbols_of file sizes = length-map-range_with_len (λ symbol. symbol_in (strings_in file sizes) (symbol_bytes file sizes symbol)) 1 (sizes.symbols - 1)

pub symbols_of-at : (file : List ℕ) (sizes : Sizes) (k : ℕ) (d : SymbolPart) → k + 1 < sizes.symbols → get_or (symbols_of file sizes) k d ≡ symbol_in (strings_in file sizes) (symbol_bytes file sizes (k + 1))
symbols_of-at file sizes k d h =
    get_or-map-range_with_len (λ symbol. symbol_in (strings_in file sizes) (symbol_bytes file sizes symbol)) 1 (sizes.symbols - 1) k (k + 1) d (omega arith) (omega arith)

-- the string table with one name more
pub string_table-next : (file : List ℕ) (sizes : Sizes) (s name : ℕ) → 1 ≤ s → s < sizes.symbols → word_at (symbol_bytes file sizes s) 0 ≡ name
    → length (string_table (take s (symbols_of file sizes))) ≡ length (string_table (take (s - 1) (symbols_of file sizes))) + (length (name_in (strings_in file sizes) name) + 1)
string_table-next file sizes s name some h w =
    let back : s - 1 + 1 ≡ s = omega arith in
    let more = length-string_table-more (symbols_of file sizes) (s - 1) no_symbol (omega (arith, length-symbols_of file sizes)) in
    let one = ap (λ (x : SymbolPart). length x.name) (symbols_of-at file sizes (s - 1) no_symbol (omega arith)) in
    ap (λ (n : ℕ). length (string_table (take n (symbols_of file sizes)))) (sym back) ∙ more
    ∙ ap (λ (n : ℕ). length (string_table (take (s - 1) (symbols_of file sizes))) + (n + 1)) (one ∙ ap (λ (n : ℕ). length (name_in (strings_in file sizes) (word_at (symbol_bytes file sizes n) 0))) back
    ∙ ap (λ (n : ℕ). length (name_in (strings_in file sizes) n)) w)

-- the count of local symbols with one symbol more
pub locals-next : (file : List ℕ) (sizes : Sizes) (s : ℕ) → 1 ≤ s → s < sizes.symbols → (symbol_in (strings_in file sizes) (symbol_bytes file sizes s)).local ≡ true
    → count_by (λ symbol. symbol.local) (take s (symbols_of file sizes)) ≡ count_by (λ symbol. symbol.local) (take (s - 1) (symbols_of file sizes)) + 1
locals-next file sizes s some h local =
    let back : s - 1 + 1 ≡ s = omega arith in
    let is = ap (λ (x : SymbolPart). x.local) (symbols_of-at file sizes (s - 1) no_symbol (omega arith)) ∙ ap (λ (n : ℕ). (symbol_in (strings_in file sizes) (symbol_bytes file sizes n)).local) back ∙ local in
    ap (λ (n : ℕ). count_by (λ symbol. symbol.local) (take n (symbols_of file sizes))) (sym back)
    ∙ count_by_more_yes (λ symbol. symbol.local) (symbols_of file sizes) (s - 1) no_symbol (omega (arith, length-symbols_of file sizes)) is

pub locals-same : (file : List ℕ) (sizes : Sizes) (s : ℕ) → 1 ≤ s → s < sizes.symbols → (symbol_in (strings_in file sizes) (symbol_bytes file sizes s)).local ≡ false
    → count_by (λ symbol. symbol.local) (take s (symbols_of file sizes)) ≡ count_by (λ symbol. symbol.local) (take (s - 1) (symbols_of file sizes))
locals-same file sizes s some h global =
    let back : s - 1 + 1 ≡ s = omega arith in
    let is = ap (λ (x : SymbolPart). x.local) (symbols_of-at file sizes (s - 1) no_symbol (omega arith)) ∙ ap (λ (n : ℕ). (symbol_in (strings_in file sizes) (symbol_bytes file sizes n)).local) back ∙ global in
    ap (λ (n : ℕ). count_by (λ symbol. symbol.local) (take n (symbols_of file sizes))) (sym back)
    ∙ count_by_more_no (λ symbol. symbol.local) (symbols_of file sizes) (s - 1) no_symbol (omega (arith, length-symbols_of file sizes)) is

-- all symbols, where the last one was reached
pub take-all_symbols : (file : List ℕ) (sizes : Sizes) (s : ℕ) → sizes.symbols ≤ s → take (s - 1) (symbols_of file sizes) ≡ symbols_of file sizes
take-all_symbols file sizes s h = take_all (s - 1) (symbols_of file sizes) (omega (arith, length-symbols_of file sizes))
