-- The object of a light unit is short.
use Rattle.std.specs.Prelude.{◌≡◌, ℕ, ◌+◌, ◌*◌, ◌≤◌, ◌==◌, List, [], ◌∷◌, ◌++◌, length, map, filter, Option, Some, None, Bool, true, false, nat_le, if◌then◌else◌}
use Rattle.std.specs.List.{list_any, flat_map, sum_by}
use Rattle.std.specs.Str.{bytes_eq}
use Rattle.std.proofs.Common.{arith, ◌∙◌, ap, refl, length-append}
use Rattle.std.proofs.lemmas.Bool.{leb-true}
use Rattle.std.proofs.lemmas.List.{length-map}
use Rattle.std.proofs.lemmas.List.Sums.{count_by-le-length, sum_by-cons}
use Rattle.indexmap.specs.IndexSet.{insert_all, insert_key}
use Rattle.second_form.specs.declared.second_items.SmallStmt.{SmallStmt}
use Rattle.second_form.specs.declared.second_items.SmallStmt.TheVariants.{Put, Call, Return}
use Rattle.second_form.specs.declared.second_items.Item.{Item}
use Rattle.elf_file.specs.declared.parts.SymbolPart.{SymbolPart}
use Rattle.second_code.specs.Objects.{IsSmall}
use Rattle.second_code.specs.Weights.{statement_weight, body_weight, item_weight, unit_weight, most_weight, IsLight}
use Rattle.second_code.specs.Parts as Parts
use Rattle.second_code.specs.declared.definitions.Definition.{Definition}
use Rattle.second_code.proofs.PartLemmas.{body_len}

-- how many bytes names take in a string table
abbrev pub total : List (List ℕ) → ℕ
total [] = 0
total (name ∷ names) = length name + 1 + total names

total-append : (xs ys : List (List ℕ)) → total (xs ++ ys) ≡ total xs + total ys
total-append [] ys = omega arith
total-append (x ∷ xs) ys = let h = total-append xs ys in omega (arith, h)

length-total : (names : List (List ℕ)) → length names ≤ total names
length-total [] = omega arith
length-total (name ∷ names) = let h = length-total names in omega (arith, h)

inserted_total : (name : List ℕ) (names : List (List ℕ)) (b : Bool) → total (if b then names else names ++ name ∷ []) ≤ total names + (length name + 1)
inserted_total name names true = omega arith
inserted_total name names false = let h = total-append names (name ∷ []) in omega (arith, h)

sights_total : (names more : List (List ℕ)) → total (insert_all bytes_eq names more) ≤ total names + total more
sights_total names [] = omega arith
sights_total names (name ∷ more) =
    let h = sights_total (insert_key bytes_eq names name) more in let i = inserted_total name names (list_any (bytes_eq name) names) in
    omega (arith, h, i)

passed_total : (name : List ℕ) (names : List (List ℕ)) (b : Bool) (all : ℕ) → total names ≤ all → total (if b then name ∷ names else names) ≤ length name + 1 + all
passed_total name names true all h = omega (arith, h)
passed_total name names false all h = omega (arith, h)

filter_total : (p : List ℕ → Bool) (names : List (List ℕ)) → total (filter p names) ≤ total names
filter_total p [] = omega arith
filter_total p (name ∷ names) = passed_total name (filter p names) (p name) (total names) (filter_total p names)

-- what the names, the calls and the code of a body are, beside its weight
abbrev pub callees : List Parts.Use → List (List ℕ)
callees calls = map (λ call. call.callee) calls

body_total : (at : ℕ) (body : List SmallStmt) → total (callees (Parts.uses_from at body)) ≤ sum_by statement_weight body
body_total at [] = omega arith
body_total at (Put n ∷ body) = let h = body_total (at + 12) body in let w = sum_by-cons statement_weight (Put n) body in omega (arith, h, w)
body_total at (Call name ∷ body) = let h = body_total (at + 5) body in let w = sum_by-cons statement_weight (Call name) body in omega (arith, h, w)
body_total at (Return n ∷ body) = let h = body_total (at + 6) body in let w = sum_by-cons statement_weight (Return n) body in omega (arith, h, w)

body_bytes : (body : List SmallStmt) → Parts.body_size body ≤ 12 * sum_by statement_weight body
body_bytes [] = omega arith
body_bytes (Put n ∷ body) = let h = body_bytes body in let w = sum_by-cons statement_weight (Put n) body in omega (arith, h, w)
body_bytes (Call name ∷ body) = let h = body_bytes body in let w = sum_by-cons statement_weight (Call name) body in omega (arith, h, w)
body_bytes (Return n ∷ body) = let h = body_bytes body in let w = sum_by-cons statement_weight (Return n) body in omega (arith, h, w)

-- an item weighs its name, a byte more and its body
body_weighs : (body : Option (List SmallStmt)) → sum_by statement_weight (Parts.body_of body) ≤ body_weight body
body_weighs None = omega arith
body_weighs (Some body) = omega arith

pub unit_total : (items : List Item) → total (Parts.named items) ≤ unit_weight items
unit_total [] = omega arith
unit_total (item ∷ items) =
    let h = unit_total items in let i = body_weighs item.body in let w = sum_by-cons item_weight item items in
    let t = total-append (callees (Parts.uses_from 0 (Parts.body_of item.body))) (Parts.named items) in let b = body_total 0 (Parts.body_of item.body) in
    omega (arith, h, i, w, t, b)

pub unit_bytes : (items : List Item) → length (Parts.text_of items) ≤ 12 * unit_weight items
unit_bytes [] = omega arith
unit_bytes (item ∷ items) =
    let h = unit_bytes items in let i = body_weighs item.body in let w = sum_by-cons item_weight item items in
    let body = Parts.body_of item.body in
    let n = length-append (Parts.open_body body) (Parts.text_of items) in let o = body_len body in let b = body_bytes body in
    omega (arith, h, i, w, n, o, b)

pub unit_calls : (at : ℕ) (items : List Item) → length (Parts.unit_uses_from at items) ≤ unit_weight items
unit_calls at [] = omega arith
unit_calls at (item ∷ items) =
    let body = Parts.body_of item.body in
    let h = unit_calls (at + Parts.body_size body) items in let i = body_weighs item.body in let w = sum_by-cons item_weight item items in
    let n = length-append (Parts.uses_from at body) (Parts.unit_uses_from (at + Parts.body_size body) items) in
    let m = length-map (Parts.uses_from at body) (λ call. call.callee) in let t = length-total (callees (Parts.uses_from at body)) in let b = body_total at body in
    omega (arith, h, i, w, n, m, t, b)

table_total : (items : List Item) → total (Parts.symbol_names items) ≤ total (Parts.named items) + total (Parts.named items)
table_total items =
    let sights = Parts.first_sights items in
    let static : List ℕ → Bool = λ name. Parts.is_static (Parts.definition_from 0 items name) in
    let a = total-append (filter static sights) (filter (Parts.is_shared items) sights) in
    let b = filter_total static sights in let c = filter_total (Parts.is_shared items) sights in
    let d = sights_total [] (Parts.named items) in omega (arith, a, b, c, d)

names_total : (symbols : List SymbolPart) → length (flat_map (λ symbol. symbol.name ++ 0 ∷ []) symbols) ≡ total (map (λ symbol. symbol.name) symbols)
names_total [] = refl
names_total (symbol ∷ symbols) =
    let h = names_total symbols in let n = length-append (symbol.name ++ 0 ∷ []) (flat_map (λ symbol. symbol.name ++ 0 ∷ []) symbols) in let m = length-append symbol.name (0 ∷ []) in omega (arith, h, n, m)

pub symbol_name : (name : List ℕ) (o : Option Definition) → (Parts.symbol_from name o).name ≡ name
symbol_name name None = refl
symbol_name name (Some definition) = refl

symbols_names : (items : List Item) (names : List (List ℕ)) → total (map (λ symbol. symbol.name) (map (Parts.symbol_of items) names)) ≡ total names
symbols_names items [] = refl
symbols_names items (name ∷ names) = let h = symbols_names items names in let n = ap length (symbol_name name (Parts.definition_from 0 items name)) in omega (arith, h, n)

pub is_light : (items : List Item) → nat_le (unit_weight items) most_weight ≡ true → IsLight items
is_light items h = leb-true (unit_weight items) most_weight h

-- the object of a light unit is small
pub object_small : (items : List Item) → IsLight items → IsSmall items
object_small items light =
    let names = unit_total items in let bytes = unit_bytes items in let calls = unit_calls 0 items in
    let table = table_total items in let count = length-total (Parts.symbol_names items) in
    let parts = Parts.parts_of items in
    let symbols = length-map (Parts.symbol_names items) (Parts.symbol_of items) in
    let relocs = length-map (Parts.unit_uses_from 0 items) (Parts.reloc_of (Parts.symbol_names items)) in
    let strings = names_total parts.symbols ∙ symbols_names items (Parts.symbol_names items) in
    let first = count_by-le-length (λ reloc. reloc.section == 1) parts.relocs in
    let second = count_by-le-length (λ reloc. reloc.section == 2) parts.relocs in
    let third = count_by-le-length (λ reloc. reloc.section == 3) parts.relocs in
    record { text = omega (arith, light, bytes); symbols = omega (arith, light, names, table, count); file = omega (arith, light, names, bytes, calls, table, count, symbols, relocs, strings, first, second, third) }
