-- The string table and the symbol table of one symbol more.
use Rattle.std.proofs.Common.{◌≡◌, sym, ap, ◌∙◌, ℕ, ◌+◌, ◌≤◌, ◌<◌, List, [], ◌∷◌, ◌++◌, length, take, get_or, arith}
use Rattle.std.specs.List.{flat_map}
use Rattle.std.proofs.lemmas.List.{append_assoc, append-nil, length-append, take_more}
use Rattle.std.proofs.lemmas.List.Concat.{flat_map-append}
use Rattle.std.proofs.lemmas.List.Folds.{length-flat_map-take}
use Rattle.elf_file.specs.Written.{symbol_entry, symbol_entries, symbol_table, string_table}
use Rattle.elf_file.specs.declared.parts.SymbolPart.{SymbolPart}

-- a name with its zero
abbrev pub string : SymbolPart → List ℕ
string symbol = symbol.name ++ 0 ∷ []

abbrev pub strings : List SymbolPart → List ℕ
strings symbols = flat_map string symbols

pub length-string : (symbol : SymbolPart) → length (string symbol) ≡ length symbol.name + 1
length-string symbol = length-append symbol.name (0 ∷ [])

-- the string table with one symbol more
pub string_table-more : (symbols : List SymbolPart) (i : ℕ) (d : SymbolPart) → i < length symbols → string_table (take (i + 1) symbols) ≡ string_table (take i symbols) ++ string (get_or symbols i d)
string_table-more symbols i d h =
    ap string_table (take_more symbols i d h)
    ∙ ap (λ (xs : List ℕ). 0 ∷ xs) (flat_map-append string (take i symbols) (get_or symbols i d ∷ []) ∙ ap (λ (xs : List ℕ). strings (take i symbols) ++ xs) (append-nil (string (get_or symbols i d))))

pub length-string_table-more : (symbols : List SymbolPart) (i : ℕ) (d : SymbolPart) → i < length symbols → length (string_table (take (i + 1) symbols)) ≡ length (string_table (take i symbols)) + (length (get_or symbols i d).name + 1)
length-string_table-more symbols i d h =
    ap length (string_table-more symbols i d h) ∙ length-append (string_table (take i symbols)) (string (get_or symbols i d))
    ∙ ap (λ (n : ℕ). length (string_table (take i symbols)) + n) (length-string (get_or symbols i d))

pub string_table-within : (symbols : List SymbolPart) (i : ℕ) (d : SymbolPart) → i < length symbols → length (string_table (take i symbols)) + (length (get_or symbols i d).name + 1) ≤ length (string_table symbols)
string_table-within symbols i d h = omega (arith, length-flat_map-take string symbols i d h, length-string (get_or symbols i d))

symbol_entries-append : (at : ℕ) (symbols : List SymbolPart) (symbol : SymbolPart) → symbol_entries at (symbols ++ symbol ∷ []) ≡ symbol_entries at symbols ++ symbol_entry (at + length (strings symbols)) symbol
symbol_entries-append at [] symbol = append-nil (symbol_entry at symbol) ∙ ap (λ (n : ℕ). symbol_entry n symbol) {x = at} {y = at + 0} (omega arith)
symbol_entries-append at (first ∷ symbols) symbol =
    let n : at + (length first.name + 1) + length (strings symbols) ≡ at + length (strings (first ∷ symbols)) = omega (arith, length-append (string first) (strings symbols), length-string first) in
    ap (λ (xs : List ℕ). symbol_entry at first ++ xs) (symbol_entries-append (at + (length first.name + 1)) symbols symbol)
    ∙ sym (append_assoc (symbol_entry at first) (symbol_entries (at + (length first.name + 1)) symbols) (symbol_entry (at + (length first.name + 1) + length (strings symbols)) symbol))
    ∙ ap (λ (n : ℕ). symbol_entries at (first ∷ symbols) ++ symbol_entry n symbol) n

-- the symbol table with one symbol more, whose name stands behind the others
pub symbol_table-more : (symbols : List SymbolPart) (i : ℕ) (d : SymbolPart) → i < length symbols → symbol_table (take (i + 1) symbols) ≡ symbol_table (take i symbols) ++ symbol_entry (length (string_table (take i symbols))) (get_or symbols i d)
symbol_table-more symbols i d h =
    let n : 1 + length (strings (take i symbols)) ≡ length (string_table (take i symbols)) = omega arith in
    ap symbol_table (take_more symbols i d h)
    ∙ ap (λ (xs : List ℕ). 0 ∷ 0 ∷ 0 ∷ 0 ∷ 0 ∷ 0 ∷ 0 ∷ 0 ∷ 0 ∷ 0 ∷ 0 ∷ 0 ∷ 0 ∷ 0 ∷ 0 ∷ 0 ∷ xs)
    (symbol_entries-append 1 (take i symbols) (get_or symbols i d) ∙ ap (λ (n : ℕ). symbol_entries 1 (take i symbols) ++ symbol_entry n (get_or symbols i d)) n)

-- the same, for a symbol that was read at its index
pub string_table-read : (symbols : List SymbolPart) (i : ℕ) (symbol : SymbolPart) → i < length symbols → symbol ≡ get_or symbols i symbol
    → (length (string_table (take i symbols)) + (length symbol.name + 1) ≤ length (string_table symbols)) × (length (string_table (take (i + 1) symbols)) ≡ length (string_table (take i symbols)) + (length symbol.name + 1))
string_table-read symbols i symbol h e =
    let n : length symbol.name ≡ length (get_or symbols i symbol).name = ap (λ (s : SymbolPart). length s.name) e in
    (omega (arith, string_table-within symbols i symbol h), omega (arith, length-string_table-more symbols i symbol h))

pub symbol_table-read : (symbols : List SymbolPart) (i : ℕ) (symbol : SymbolPart) → i < length symbols → symbol ≡ get_or symbols i symbol
    → symbol_table (take (i + 1) symbols) ≡ symbol_table (take i symbols) ++ symbol_entry (length (string_table (take i symbols))) symbol
symbol_table-read symbols i symbol h e =
    symbol_table-more symbols i symbol h ∙ ap (λ (s : SymbolPart). symbol_table (take i symbols) ++ symbol_entry (length (string_table (take i symbols))) s) (sym e)

-- the output with one entry more
pub appended : (out new old : List ℕ) (symbols : List SymbolPart) (i name : ℕ) (symbol : SymbolPart) → i < length symbols → symbol ≡ get_or symbols i symbol
    → name ≡ length (string_table (take i symbols)) → out ≡ old ++ symbol_table (take i symbols) → new ≡ out ++ symbol_entry name symbol → new ≡ old ++ symbol_table (take (i + 1) symbols)
appended out new old symbols i name symbol h e n o m =
    m ∙ ap (λ (xs : List ℕ). xs ++ symbol_entry name symbol) o ∙ append_assoc old (symbol_table (take i symbols)) (symbol_entry name symbol)
    ∙ ap (λ (k : ℕ). old ++ (symbol_table (take i symbols) ++ symbol_entry k symbol)) n ∙ ap (λ (xs : List ℕ). old ++ xs) (sym (symbol_table-read symbols i symbol h e))
