-- The parts of a unit of the second form are well-formed.
use Rattle.std.specs.Prelude.{◌≡◌, ◌≢◌, ◌⊎◌, ℕ, suc, ◌+◌, ◌-◌, ◌<◌, ◌≤◌, ◌^◌, List, [], ◌∷◌, ◌++◌, length, map, filter, slice_index_or, All, AllPairs, Option, Some, None, is_some, Bool, true, false, not, ◌&&◌, ◌||◌, codes, if◌then◌else◌}
use Rattle.std.specs.List.{list_any}
use Rattle.std.specs.Str.{bytes_eq}
use Rattle.std.proofs.Common.{arith, ◌∙◌, ap, sym, refl, subst, length-append, inl, inr}
use Rattle.std.proofs.lemmas.List.{length-map}
use Rattle.std.proofs.lemmas.Option.{none-some, same_Some}
use Rattle.std.proofs.lemmas.Slice.Eq.{bytes_eq-Decides}
use Rattle.std.proofs.lemmas.List.Elements.{All-filter, filter_passes, All-append, All-cons, All-map, All-from_recursion, All-head, All-tail}
use Rattle.std.proofs.lemmas.List.Kept.{AllPairs-cons}
use Rattle.indexmap.specs.IndexSet.{insert_all, insert_key}
use Rattle.second_form.specs.declared.second_items.SmallStmt.{SmallStmt}
use Rattle.second_form.specs.declared.second_items.SmallStmt.TheVariants.{Put, Call, Return}
use Rattle.second_form.specs.declared.second_items.Item.{Item}
use Rattle.second_form.specs.SecondForm.{IsIdentifier, IsWordByte, IsItem, IsBodyIfAny, CallsName}
use Rattle.elf_file.specs.declared.parts.SymbolPart.{SymbolPart}
use Rattle.elf_file.specs.declared.parts.SymbolPlace.TheVariants.{Absolute}
use Rattle.elf_file.specs.Layout.{file_length}
use Rattle.elf_file.specs.Written.{sizes_of}
use Rattle.elf_file.specs.WellFormed.{WellFormed, SymbolFits, RelocFits, StandsBefore}
use Rattle.second_code.specs.Parts as Parts
use Rattle.second_code.specs.declared.definitions.Definition.{Definition}
use Rattle.second_code.proofs.PartLemmas.{body_len}
use Rattle.second_code.proofs.Sizes.{callees}
use Rattle.second_code.proofs.Placing.{EndsBy, BeginsFrom, uses_begin, uses_end, unit_uses_begin, earlier, All-to}
use Rattle.second_code.proofs.Tests.{or_later}

-- a name is one of these
abbrev pub In : List ℕ → List (List ℕ) → Type 0
In name [] = ⊥
In name (first ∷ rest) = (name ≡ first) ⊎ In name rest

in-left : (name : List ℕ) (xs ys : List (List ℕ)) → In name xs → In name (xs ++ ys)
in-left name [] ys h = elim h [ ]
in-left name (x ∷ xs) ys (inl e) = inl e
in-left name (x ∷ xs) ys (inr h) = inr (in-left name xs ys h)

pub in-right : (name : List ℕ) (xs ys : List (List ℕ)) → In name ys → In name (xs ++ ys)
in-right name [] ys h = h
in-right name (x ∷ xs) ys h = inr (in-right name xs ys h)

found_first : (name first : List ℕ) (rest : List (List ℕ)) (b : Bool) → bytes_eq name first ≡ b → (list_any (bytes_eq name) rest ≡ true → In name rest) → (b || list_any (bytes_eq name) rest) ≡ true → In name (first ∷ rest)
found_first name first rest true e more h = inl ((bytes_eq-Decides name first).0 e)
found_first name first rest false e more h = inr (more h)

in_any : (name : List ℕ) (names : List (List ℕ)) → list_any (bytes_eq name) names ≡ true → In name names
in_any name [] h = let clash : false ≡ true = h in cc
in_any name (first ∷ rest) h = found_first name first rest (bytes_eq name first) refl (in_any name rest) h

inserted_here : (name : List ℕ) (names : List (List ℕ)) (b : Bool) → list_any (bytes_eq name) names ≡ b → In name (if b then names else names ++ name ∷ [])
inserted_here name names true e = in_any name names e
inserted_here name names false e = in-right name names (name ∷ []) (inl refl)

inserted_kept : (name other : List ℕ) (names : List (List ℕ)) (b : Bool) → In name names → In name (if b then names else names ++ other ∷ [])
inserted_kept name other names true h = h
inserted_kept name other names false h = in-left name names (other ∷ []) h

all_kept : (name : List ℕ) (names more : List (List ℕ)) → In name names → In name (insert_all bytes_eq names more)
all_kept name names [] h = h
all_kept name names (other ∷ more) h = all_kept name (insert_key bytes_eq names other) more (inserted_kept name other names (list_any (bytes_eq other) names) h)

pub all_in : (name : List ℕ) (names more : List (List ℕ)) → In name more → In name (insert_all bytes_eq names more)
all_in name names [] h = elim h [ ]
all_in name names (other ∷ more) (inl e) =
    let P : List ℕ → Type 0 = λ n. In n (insert_all bytes_eq (insert_key bytes_eq names other) more) in
    subst P (sym e) (all_kept other (insert_key bytes_eq names other) more (inserted_here other names (list_any (bytes_eq other) names) refl))
all_in name names (other ∷ more) (inr h) = all_in name (insert_key bytes_eq names other) more h

passed_first : (p : List ℕ → Bool) (name first : List ℕ) (rest : List (List ℕ)) (b : Bool) → p first ≡ b → name ≡ first → p name ≡ true → In name (if b then first ∷ filter p rest else filter p rest)
passed_first p name first rest true e same passes = inl same
passed_first p name first rest false e same passes = let clash : true ≡ false = sym passes ∙ ap p same ∙ e in cc

passed_rest : (name first : List ℕ) (rest : List (List ℕ)) (b : Bool) → In name rest → In name (if b then first ∷ rest else rest)
passed_rest name first rest true h = inr h
passed_rest name first rest false h = h

pub in-filter : (p : List ℕ → Bool) (name : List ℕ) (names : List (List ℕ)) → In name names → p name ≡ true → In name (filter p names)
in-filter p name [] h passes = elim h [ ]
in-filter p name (first ∷ rest) (inl e) passes = passed_first p name first rest (p first) refl e passes
in-filter p name (first ∷ rest) (inr h) passes = passed_rest name first (filter p rest) (p first) (in-filter p name rest h passes)

-- the number of a name that is one of them
numbered_first : (first name : List ℕ) (rest : List (List ℕ)) (b : Bool) → bytes_eq first name ≡ b → In name (first ∷ rest) → (In name rest → (0 < Parts.number_in rest name) × (Parts.number_in rest name ≤ length rest))
    → (0 < (if b then 1 else suc (Parts.number_in rest name))) × ((if b then 1 else suc (Parts.number_in rest name)) ≤ suc (length rest))
numbered_first first name rest true e h more = (omega arith, omega arith)
numbered_first first name rest false e (inl same) more = let clash : true ≡ false = sym ((bytes_eq-Decides first name).1 (sym same)) ∙ e in cc
numbered_first first name rest false e (inr h) more = let m = more h in (omega arith, omega (arith, m.1))

pub numbered : (names : List (List ℕ)) (name : List ℕ) → In name names → (0 < Parts.number_in names name) × (Parts.number_in names name ≤ length names)
numbered [] name h = elim h [ ]
numbered (first ∷ rest) name h = numbered_first first name rest (bytes_eq first name) refl h (numbered rest name)

-- names that a file can hold
pub record IsFine (name : List ℕ) : Type 0 where
  pub some : 0 < length name
  pub no_zero : All (λ byte. byte ≢ 0) name

no_zero_byte : (byte : ℕ) → IsWordByte byte → byte ≢ 0
no_zero_byte byte (inl h) = let l = h.0 in omega (arith, l)
no_zero_byte byte (inr (inl h)) = let l = h.0 in omega (arith, l)
no_zero_byte byte (inr (inr (inl h))) = omega (arith, h)
no_zero_byte byte (inr (inr (inr h))) = let l = h.0 in omega (arith, l)

identifier_fine : (name : List ℕ) → IsIdentifier name → IsFine name
identifier_fine [] h = elim h [ ]
identifier_fine (first ∷ rest) h = record { some = omega arith; no_zero = λ k d l. no_zero_byte _ (h.1 k d l) }

put_fine : IsFine (codes "putbyte")
put_fine = record { some = omega arith; no_zero = All-from_recursion (λ byte. byte ≢ 0) (codes "putbyte") (omega arith, (omega arith, (omega arith, (omega arith, (omega arith, (omega arith, (omega arith, tt))))))) }

callees_fine : (at : ℕ) (body : List SmallStmt) → All CallsName body → All (λ call. IsFine call.callee) (Parts.uses_from at body)
callees_fine at [] a = λ k d h. absurd (omega (arith, h))
callees_fine at (Put n ∷ body) a = All-cons (λ (call : Parts.Use). IsFine call.callee) _ _ put_fine (callees_fine (at + 12) body (All-tail CallsName (Put n) body a))
callees_fine at (Call name ∷ body) a = All-cons (λ (call : Parts.Use). IsFine call.callee) _ _ (identifier_fine name (All-head CallsName (Call name) body a).identifier) (callees_fine (at + 5) body (All-tail CallsName (Call name) body a))
callees_fine at (Return n ∷ body) a = callees_fine (at + 6) body (All-tail CallsName (Return n) body a)

body_names : (body : Option (List SmallStmt)) → IsBodyIfAny body → All CallsName (Parts.body_of body)
body_names None h = λ k d l. absurd (omega (arith, l))
body_names (Some body) h = h.names

named_fine : (items : List Item) → All IsItem items → All IsFine (Parts.named items)
named_fine [] a = λ k d h. absurd (omega (arith, h))
named_fine (item ∷ items) a =
    let is = All-head IsItem item items a in
    All-cons IsFine item.name _ (identifier_fine item.name is.name.identifier)
    (All-append IsFine (map (λ call. call.callee) (Parts.uses_from 0 (Parts.body_of item.body))) (Parts.named items)
    (All-map IsFine (λ (call : Parts.Use). call.callee) (Parts.uses_from 0 (Parts.body_of item.body)) (callees_fine 0 (Parts.body_of item.body) (body_names item.body is.body)))
    (named_fine items (All-tail IsItem item items a)))

inserted_all : (P : List ℕ → Type 0) (name : List ℕ) (names : List (List ℕ)) (b : Bool) → P name → All P names → All P (if b then names else names ++ name ∷ [])
inserted_all P name names true p a = a
inserted_all P name names false p a = All-append P names (name ∷ []) a (All-cons P name [] p (λ k d h. absurd (omega (arith, h))))

sights_all : (P : List ℕ → Type 0) (names more : List (List ℕ)) → All P names → All P more → All P (insert_all bytes_eq names more)
sights_all P names [] a b = a
sights_all P names (name ∷ more) a b = sights_all P (insert_key bytes_eq names name) more (inserted_all P name names (list_any (bytes_eq name) names) (All-head P name more b) a) (All-tail P name more b)

-- where a definition ends
extent_within : (named local : Bool) (at size : ℕ) (body : Option (List SmallStmt)) (others : Option Definition) (definition : Definition) (end : ℕ) → at + Parts.body_size (Parts.body_of body) ≤ end
    → (others ≡ Some definition → definition.begin + definition.extent ≤ end) → Parts.definition_or named local at body others ≡ Some definition → definition.begin + definition.extent ≤ end
extent_within false local at size body others definition end l more e = more e
extent_within true local at size None others definition end l more e = more e
extent_within true local at size (Some body) others definition end l more e =
    let same = same_Some (record { local = local; begin = at; extent = Parts.body_size body }) definition e in
    let P : Definition → Type 0 = λ d. d.begin + d.extent ≤ end in subst P same l

pub definition_within : (items : List Item) (at : ℕ) (name : List ℕ) (definition : Definition) → Parts.definition_from at items name ≡ Some definition → definition.begin + definition.extent ≤ at + length (Parts.text_of items)
definition_within [] at name definition e = absurd (none-some definition e)
definition_within (item ∷ items) at name definition e =
    let body = Parts.body_of item.body in
    let n = length-append (Parts.open_body body) (Parts.text_of items) in let s = body_len body in
    extent_within (bytes_eq item.name name) item.local at 0 item.body (Parts.definition_from (at + Parts.body_size body) items name) definition (at + length (Parts.open_body body ++ Parts.text_of items)) (omega (arith, n, s))
    (λ e. let h = definition_within items (at + Parts.body_size body) name definition e in omega (arith, h, n, s)) e

-- calls name what is named
among : (calls : List Parts.Use) → All (λ call. In call.callee (callees calls)) calls
among [] = λ k d h. absurd (omega (arith, h))
among (call ∷ calls) = All-cons (λ (c : Parts.Use). In c.callee (callees (call ∷ calls))) call calls (inl refl) (All-to (λ c. In c.callee (callees calls)) (λ c. In c.callee (callees (call ∷ calls))) (λ c h. inr h) calls (among calls))

same_callees : (at other : ℕ) (body : List SmallStmt) → callees (Parts.uses_from at body) ≡ callees (Parts.uses_from other body)
same_callees at other [] = refl
same_callees at other (Put n ∷ body) = ap (λ (names : List (List ℕ)). codes "putbyte" ∷ names) (same_callees (at + 12) (other + 12) body)
same_callees at other (Call name ∷ body) = ap (λ (names : List (List ℕ)). name ∷ names) (same_callees (at + 5) (other + 5) body)
same_callees at other (Return n ∷ body) = same_callees (at + 6) (other + 6) body

pub unit_among : (items : List Item) (at : ℕ) → All (λ call. In call.callee (Parts.named items)) (Parts.unit_uses_from at items)
unit_among [] at = λ k d h. absurd (omega (arith, h))
unit_among (item ∷ items) at =
    let body = Parts.body_of item.body in let own = Parts.uses_from at body in
    All-append (λ (call : Parts.Use). In call.callee (Parts.named (item ∷ items))) own (Parts.unit_uses_from (at + Parts.body_size body) items)
    (All-to (λ call. In call.callee (callees own)) (λ call. In call.callee (Parts.named (item ∷ items)))
    (λ call h. let P : List (List ℕ) → Type 0 = In call.callee in inr (in-left call.callee (callees (Parts.uses_from 0 body)) (Parts.named items) (subst P (same_callees at 0 body) h))) own (among own))
    (All-to (λ call. In call.callee (Parts.named items)) (λ call. In call.callee (Parts.named (item ∷ items)))
    (λ call h. inr (in-right call.callee (callees (Parts.uses_from 0 body)) (Parts.named items) h)) (Parts.unit_uses_from (at + Parts.body_size body) items) (unit_among items (at + Parts.body_size body)))

pub all_used : (calls : List Parts.Use) → All (λ call. Parts.is_used calls call.callee ≡ true) calls
all_used [] = λ k d h. absurd (omega (arith, h))
all_used (call ∷ calls) =
    All-cons (λ (c : Parts.Use). Parts.is_used (call ∷ calls) c.callee ≡ true) call calls (ap (λ (b : Bool). b || Parts.is_used calls call.callee) ((bytes_eq-Decides call.callee call.callee).1 refl))
    (All-to (λ c. Parts.is_used calls c.callee ≡ true) (λ c. Parts.is_used (call ∷ calls) c.callee ≡ true) (λ c h. or_later (bytes_eq call.callee c.callee) (Parts.is_used calls c.callee) h) calls (all_used calls))

unit_uses_end : (items : List Item) (at to : ℕ) → at + length (Parts.text_of items) ≤ to → All (EndsBy to) (Parts.unit_uses_from at items)
unit_uses_end [] at to l = λ k d h. absurd (omega (arith, h))
unit_uses_end (item ∷ items) at to l =
    let body = Parts.body_of item.body in
    let n = length-append (Parts.open_body body) (Parts.text_of items) in let s = body_len body in
    All-append (EndsBy to) (Parts.uses_from at body) (Parts.unit_uses_from (at + Parts.body_size body) items) (uses_end at to body (omega (arith, l, n, s))) (unit_uses_end items (at + Parts.body_size body) to (omega (arith, l, n, s)))

-- each call's word ends before the next one's begins
abbrev Rises : List Parts.Use → Type 0
Rises [] = Unit {0}
Rises (call ∷ calls) = All (BeginsFrom (call.place + 4)) calls × Rises calls

rises-append : (calls others : List Parts.Use) (middle : ℕ) → Rises calls → Rises others → All (EndsBy middle) calls → All (BeginsFrom middle) others → Rises (calls ++ others)
rises-append [] others middle r s e b = s
rises-append (call ∷ calls) others middle r s e b =
    let ends : call.place + 4 ≤ middle = All-head (EndsBy middle) call calls e in
    (All-append (BeginsFrom (call.place + 4)) calls others r.0 (earlier middle (call.place + 4) ends others b), rises-append calls others middle r.1 s (All-tail (EndsBy middle) call calls e) b)

body_rises : (at : ℕ) (body : List SmallStmt) → Rises (Parts.uses_from at body)
body_rises at [] = tt
body_rises at (Put n ∷ body) = (uses_begin (at + 12) (at + 7 + 4) body (omega arith), body_rises (at + 12) body)
body_rises at (Call name ∷ body) = (uses_begin (at + 5) (at + 1 + 4) body (omega arith), body_rises (at + 5) body)
body_rises at (Return n ∷ body) = body_rises (at + 6) body

unit_rises : (items : List Item) (at : ℕ) → Rises (Parts.unit_uses_from at items)
unit_rises [] at = tt
unit_rises (item ∷ items) at =
    let body = Parts.body_of item.body in
    rises-append (Parts.uses_from at body) (Parts.unit_uses_from (at + Parts.body_size body) items) (at + Parts.body_size body) (body_rises at body) (unit_rises items (at + Parts.body_size body))
    (uses_end at (at + Parts.body_size body) body (omega arith)) (unit_uses_begin (at + Parts.body_size body) (at + Parts.body_size body) items (omega arith))

relocs_pairs : (names : List (List ℕ)) (calls : List Parts.Use) → Rises calls → AllPairs StandsBefore (map (Parts.reloc_of names) calls)
relocs_pairs names [] r = λ i j d l h. absurd (omega (arith, h))
relocs_pairs names (call ∷ calls) r =
    AllPairs-cons StandsBefore (Parts.reloc_of names call) (map (Parts.reloc_of names) calls)
    (All-map (StandsBefore (Parts.reloc_of names call)) (Parts.reloc_of names) calls (All-to (BeginsFrom (call.place + 4)) (λ c. StandsBefore (Parts.reloc_of names call) (Parts.reloc_of names c)) (λ c h. inr (refl, h)) calls r.0))
    (relocs_pairs names calls r.1)

shared_where : (static defined used : Bool) → static ≡ false → used ≡ true → (not static && (defined || used)) ≡ true
shared_where true defined used s u = let clash : true ≡ false = s in cc
shared_where false defined used s u = or_later defined used u

module _ (items : List Item) (each : All IsItem items) where
  abbrev text_size : ℕ
  text_size = length (Parts.text_of items)

  abbrev sizes : List ℕ
  sizes = 0 ∷ text_size ∷ 0 ∷ 0 ∷ 0 ∷ []

  names_fine : All IsFine (Parts.symbol_names items)
  names_fine =
      let sights : All IsFine (Parts.first_sights items) = sights_all IsFine [] (Parts.named items) (λ k d h. absurd (omega (arith, h))) (named_fine items each) in
      All-append IsFine _ _ (All-filter (λ name. Parts.is_static (Parts.definition_from 0 items name)) IsFine (Parts.first_sights items) sights) (All-filter (Parts.is_shared items) IsFine (Parts.first_sights items) sights)

  symbol_fits : (name : List ℕ) → IsFine name → (o : Option Definition) → Parts.definition_from 0 items name ≡ o → SymbolFits sizes (Parts.symbol_from name o)
  symbol_fits name fine None e = record { placed = refl; named = λ global. record { some = fine.some; no_section = λ e. cc; no_file = λ e. cc }; no_zero = fine.no_zero }
  symbol_fits name fine (Some definition) e =
      let within = definition_within items 0 name definition e in
      record { placed = (omega arith, omega arith, omega (arith, within)); named = λ global. record { some = fine.some; no_section = λ e. cc; no_file = λ e. cc }; no_zero = fine.no_zero }

  symbols_fit : All (SymbolFits sizes) (map (Parts.symbol_of items) (Parts.symbol_names items))
  symbols_fit = All-map (SymbolFits sizes) (Parts.symbol_of items) (Parts.symbol_names items) (All-to IsFine (λ name. SymbolFits sizes (Parts.symbol_of items name)) (λ name fine. symbol_fits name fine (Parts.definition_from 0 items name) refl) (Parts.symbol_names items) names_fine)

  never_apart : (name : List ℕ) (o : Option Definition) → (Parts.symbol_from name o).place ≢ Absolute
  never_apart name None e = cc
  never_apart name (Some definition) e = cc

  -- static definitions are local, and all others are not
  local_is : (name : List ℕ) (o : Option Definition) → (Parts.symbol_from name o).local ≡ Parts.is_static o
  local_is name None = refl
  local_is name (Some definition) = refl

  not_first : (a b : Bool) → (not a && b) ≡ true → a ≡ false
  not_first true b e = let clash : false ≡ true = e in cc
  not_first false b e = refl

  abbrev LocalsFirst : SymbolPart → SymbolPart → Type 0
  LocalsFirst first late = late.local ≡ true → first.local ≡ true

  locals_then_others : (locals globals : List (List ℕ)) → All (λ name. (Parts.symbol_of items name).local ≡ true) locals → All (λ name. (Parts.symbol_of items name).local ≡ false) globals → AllPairs LocalsFirst (map (Parts.symbol_of items) (locals ++ globals))
  locals_then_others [] globals a b = λ i j d l h e.
      let no : (slice_index_or (map (Parts.symbol_of items) globals) j d).local ≡ false = All-map (λ (symbol : SymbolPart). symbol.local ≡ false) (Parts.symbol_of items) globals b j d h in
      let clash : true ≡ false = sym e ∙ no in cc
  locals_then_others (name ∷ locals) globals a b =
      AllPairs-cons LocalsFirst (Parts.symbol_of items name) (map (Parts.symbol_of items) (locals ++ globals)) (λ k d h e. All-head (λ name. (Parts.symbol_of items name).local ≡ true) name locals a)
      (locals_then_others locals globals (All-tail (λ name. (Parts.symbol_of items name).local ≡ true) name locals a) b)

  locals_first : AllPairs LocalsFirst (map (Parts.symbol_of items) (Parts.symbol_names items))
  locals_first =
      let static : List ℕ → Bool = λ name. Parts.is_static (Parts.definition_from 0 items name) in
      locals_then_others (filter static (Parts.first_sights items)) (filter (Parts.is_shared items) (Parts.first_sights items))
      (All-to (λ name. static name ≡ true) (λ name. (Parts.symbol_of items name).local ≡ true) (λ name e. local_is name (Parts.definition_from 0 items name) ∙ e) _ (filter_passes static (Parts.first_sights items)))
      (All-to (λ name. Parts.is_shared items name ≡ true) (λ name. (Parts.symbol_of items name).local ≡ false) (λ name e. local_is name (Parts.definition_from 0 items name) ∙ not_first (static name) _ e) _ (filter_passes (Parts.is_shared items) (Parts.first_sights items)))

  -- a used name has a symbol
  pub in_table : (name : List ℕ) (b : Bool) → Parts.is_static (Parts.definition_from 0 items name) ≡ b → In name (Parts.first_sights items) → Parts.is_used (Parts.unit_uses_from 0 items) name ≡ true → In name (Parts.symbol_names items)
  in_table name true e h used = in-left name _ _ (in-filter (λ name. Parts.is_static (Parts.definition_from 0 items name)) name (Parts.first_sights items) h e)
  in_table name false e h used =
      in-right name (filter (λ name. Parts.is_static (Parts.definition_from 0 items name)) (Parts.first_sights items)) _
      (in-filter (Parts.is_shared items) name (Parts.first_sights items) h (shared_where (Parts.is_static (Parts.definition_from 0 items name)) (is_some (Parts.definition_from 0 items name)) (Parts.is_used (Parts.unit_uses_from 0 items) name) e used))

  abbrev symbols : List SymbolPart
  symbols = map (Parts.symbol_of items) (Parts.symbol_names items)

  symbols_here : All (λ symbol. symbol.place ≢ Absolute) symbols
  symbols_here = All-map (λ (symbol : SymbolPart). symbol.place ≢ Absolute) (Parts.symbol_of items) (Parts.symbol_names items) (λ k d h. never_apart _ (Parts.definition_from 0 items _))

  reloc_fits : (call : Parts.Use) → In call.callee (Parts.named items) → Parts.is_used (Parts.unit_uses_from 0 items) call.callee ≡ true → call.place + 4 ≤ text_size → RelocFits sizes symbols (Parts.reloc_of (Parts.symbol_names items) call)
  reloc_fits call named used ends =
      let number = numbered (Parts.symbol_names items) call.callee (in_table call.callee (Parts.is_static (Parts.definition_from 0 items call.callee)) refl (all_in call.callee [] (Parts.named items) named) used) in
      let count = length-map (Parts.symbol_names items) (Parts.symbol_of items) in
      record {
        from_text = omega arith;
        to_writable = omega arith;
        inside = ends;
        after_zero = number.0;
        in_table = omega (arith, number.1, count);
        against = λ d. symbols_here (Parts.number_in (Parts.symbol_names items) call.callee - 1) d (omega (arith, number.0, number.1, count));
      }

  relocs_fit : All (RelocFits sizes symbols) (map (Parts.reloc_of (Parts.symbol_names items)) (Parts.unit_uses_from 0 items))
  relocs_fit =
      let calls = Parts.unit_uses_from 0 items in
      All-map (RelocFits sizes symbols) (Parts.reloc_of (Parts.symbol_names items)) calls
      (λ k d h. reloc_fits _ (unit_among items 0 k d h) (all_used calls k d h) (unit_uses_end items 0 text_size (omega arith) k d h))

  -- the parts are well-formed, where the table is not too long for a relocation and the file not for its numbers
  pub parts_fit : length (Parts.symbol_names items) < 2 ^ 24 → file_length (sizes_of (Parts.parts_of items)) < 2 ^ 32 → WellFormed (Parts.parts_of items)
  parts_fit few small =
      let count = length-map (Parts.symbol_names items) (Parts.symbol_of items) in
      record {
        symbols = symbols_fit;
        locals_first = locals_first;
        few_symbols = omega (arith, few, count);
        relocs = relocs_fit;
        relocs_rise = λ k d h. relocs_pairs (Parts.symbol_names items) (Parts.unit_uses_from 0 items) (unit_rises items 0) k (k + 1) d (omega arith) h;
        small = small;
      }
