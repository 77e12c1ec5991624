-- The first symbol of a unit's object in which the linker finds a fault is that of the first name that has one.
use Rattle.std.specs.Prelude.{◌≡◌, ◌⊎◌, ℕ, suc, ◌+◌, List, [], ◌∷◌, ◌++◌, length, map, filter, find, take, get_or, cond, Option, Some, None, Bool, true, false, not, ◌&&◌, ◌||◌, if◌then◌else◌}
use Rattle.std.specs.List.{list_any}
use Rattle.std.specs.Option.{option_or}
use Rattle.std.specs.Str.{bytes_eq}
use Rattle.std.proofs.Common.{arith, ◌∙◌, ap, sym, refl, subst, inl, inr, length-append, append_assoc}
use Rattle.std.proofs.lemmas.List.Folds.{list_any-append}
use Rattle.std.proofs.lemmas.Slice.Eq.{bytes_eq-Decides}
use Rattle.indexmap.specs.IndexSet.{insert_all, insert_key}
use Rattle.cc_base.specs.Faces.{first_answer}
use Rattle.second_form.specs.declared.second_items.Item.{Item}
use Rattle.elf_file.specs.Object.{no_symbol}
use Rattle.elf_file.specs.declared.parts.SymbolPart.{SymbolPart}
use Rattle.elf_linker.specs.declared.fault.LinkFault.{LinkFault}
use Rattle.elf_linker.specs.Names.{is_definition, defines}
use Rattle.second_code.specs.Parts as Parts
use Rattle.second_code.proofs.NameLemmas.{bytes_sym}
use Rattle.second_code.proofs.Tests.{or_later, one_of, neither}

-- each name stands once
abbrev Once : List (List ℕ) → Type 0
Once [] = Unit {0}
Once (x ∷ xs) = (list_any (bytes_eq x) xs ≡ false) × Once xs

passes_in : (p : List ℕ → Bool) (name : List ℕ) (xs : List (List ℕ)) → list_any (bytes_eq name) (filter p xs) ≡ true → (p name ≡ true) × (list_any (bytes_eq name) xs ≡ true)
passes_in p name [] t = let clash : false ≡ true = t in cc
passes_in p name (x ∷ xs) t = by (passes_in p name xs) (p x) refl t
  where
    later : (p name ≡ true) × (list_any (bytes_eq name) xs ≡ true) → (p name ≡ true) × ((bytes_eq name x || list_any (bytes_eq name) xs) ≡ true)
    later w = (w.0, or_later (bytes_eq name x) (list_any (bytes_eq name) xs) w.1)

    by : (list_any (bytes_eq name) (filter p xs) ≡ true → (p name ≡ true) × (list_any (bytes_eq name) xs ≡ true)) → (b : Bool) → p x ≡ b
        → list_any (bytes_eq name) (if b then x ∷ filter p xs else filter p xs) ≡ true → (p name ≡ true) × ((bytes_eq name x || list_any (bytes_eq name) xs) ≡ true)
    by more true e t =
        elim (one_of (bytes_eq name x) (list_any (bytes_eq name) (filter p xs)) t) [
          | inl here ↦ (ap p ((bytes_eq-Decides name x).0 here) ∙ e, ap (λ (b : Bool). b || list_any (bytes_eq name) xs) here)
          | inr rest ↦ later (more rest)
        ]
    by more false e t = later (more t)

once_filter : (p : List ℕ → Bool) (xs : List (List ℕ)) → Once xs → Once (filter p xs)
once_filter p [] o = tt
once_filter p (x ∷ xs) o = by (once_filter p xs o.1) (p x)
  where
    away : (b : Bool) → list_any (bytes_eq x) (filter p xs) ≡ b → b ≡ false
    away true t = let clash : true ≡ false = sym (passes_in p x xs t).1 ∙ o.0 in cc
    away false t = refl

    by : Once (filter p xs) → (b : Bool) → Once (if b then x ∷ filter p xs else filter p xs)
    by more true = (away (list_any (bytes_eq x) (filter p xs)) refl, more)
    by more false = more

once_append : (xs ys : List (List ℕ)) → Once xs → Once ys → ((name : List ℕ) → list_any (bytes_eq name) xs ≡ true → list_any (bytes_eq name) ys ≡ false) → Once (xs ++ ys)
once_append [] ys a b h = b
once_append (x ∷ xs) ys a b h =
    let here : list_any (bytes_eq x) ys ≡ false = h x (ap (λ (b : Bool). b || list_any (bytes_eq x) xs) ((bytes_eq-Decides x x).1 refl)) in
    (list_any-append (bytes_eq x) xs ys ∙ ap (λ (b : Bool). b || list_any (bytes_eq x) ys) a.0 ∙ here, once_append xs ys a.1 b (λ name t. h name (or_later (bytes_eq name x) (list_any (bytes_eq name) xs) t)))

once_insert : (keys : List (List ℕ)) (x : List ℕ) → Once keys → (b : Bool) → list_any (bytes_eq x) keys ≡ b → Once (if b then keys else keys ++ x ∷ [])
once_insert keys x o true e = o
once_insert keys x o false e = once_append keys (x ∷ []) o (refl, tt) (λ name t. by name t (bytes_eq name x) refl)
  where
    by : (name : List ℕ) → list_any (bytes_eq name) keys ≡ true → (b : Bool) → bytes_eq name x ≡ b → (b || false) ≡ false
    by name t true f = let clash : true ≡ false = sym t ∙ ap (λ (n : List ℕ). list_any (bytes_eq n) keys) ((bytes_eq-Decides name x).0 f) ∙ e in cc
    by name t false f = refl

once_all : (xs keys : List (List ℕ)) → Once keys → Once (insert_all bytes_eq keys xs)
once_all [] keys o = o
once_all (x ∷ xs) keys o = once_all xs (insert_key bytes_eq keys x) (once_insert keys x o (list_any (bytes_eq x) keys) refl)

-- each symbol has a name of its own
symbols_once : (items : List Item) → Once (Parts.symbol_names items)
symbols_once items =
    let sights = Parts.first_sights items in
    let static : List ℕ → Bool = λ name. Parts.is_static (Parts.definition_from 0 items name) in
    let once : Once sights = once_all (Parts.named items) [] tt in
    once_append (filter static sights) (filter (Parts.is_shared items) sights) (once_filter static sights once) (once_filter (Parts.is_shared items) sights once)
    (λ name t. by name (passes_in static name sights t).0 (list_any (bytes_eq name) (filter (Parts.is_shared items) sights)) refl)
  where
    clash_of : (static more : Bool) → static ≡ true → (not static && more) ≡ true → ⊥
    clash_of true more s t = let clash : false ≡ true = t in cc
    clash_of false more s t = let clash : false ≡ true = s in cc

    by : (name : List ℕ) → Parts.is_static (Parts.definition_from 0 items name) ≡ true → (b : Bool) → list_any (bytes_eq name) (filter (Parts.is_shared items) (Parts.first_sights items)) ≡ b → b ≡ false
    by name s true t = absurd (clash_of (Parts.is_static (Parts.definition_from 0 items name)) _ s (passes_in (Parts.is_shared items) name (Parts.first_sights items) t).0)
    by name s false t = refl

-- so no earlier one defines it
before_apart : (before after : List (List ℕ)) (name : List ℕ) → Once (before ++ name ∷ after) → list_any (bytes_eq name) before ≡ false
before_apart [] after name o = refl
before_apart (x ∷ before) after name o =
    let parts = neither (list_any (bytes_eq x) before) (list_any (bytes_eq x) (name ∷ after)) (sym (list_any-append (bytes_eq x) before (name ∷ after)) ∙ o.0) in
    let first : bytes_eq name x ≡ false = bytes_sym name x ∙ (neither (bytes_eq x name) (list_any (bytes_eq x) after) parts.1).0 in
    ap (λ (b : Bool). b || list_any (bytes_eq name) before) first ∙ before_apart before after name o.1

never : (b : Bool) → (b && false) ≡ false
never true = refl
never false = refl

none_defines : (f : List ℕ → SymbolPart) → ((name : List ℕ) → (f name).name ≡ name) → (name : List ℕ) (before : List (List ℕ)) → list_any (bytes_eq name) before ≡ false → list_any (defines name) (map f before) ≡ false
none_defines f named name [] e = refl
none_defines f named name (x ∷ before) e =
    let parts = neither (bytes_eq name x) (list_any (bytes_eq name) before) e in
    let away : bytes_eq (f x).name name ≡ false = ap (λ (n : List ℕ). bytes_eq n name) (named x) ∙ bytes_sym x name ∙ parts.0 in
    let first : defines name (f x) ≡ false = ap (λ (b : Bool). is_definition (f x) && b) away ∙ never (is_definition (f x)) in
    ap (λ (b : Bool). b || list_any (defines name) (map f before)) first ∙ none_defines f named name before parts.1

taken : (f : List ℕ → SymbolPart) (before after : List (List ℕ)) → take (length before) (map f (before ++ after)) ≡ map f before
taken f [] after = refl
taken f (x ∷ before) after = ap (λ (xs : List SymbolPart). f x ∷ xs) (taken f before after)

pub no_own : (items : List Item) (before after : List (List ℕ)) (name : List ℕ) → ((name : List ℕ) → (Parts.symbol_of items name).name ≡ name) → Parts.symbol_names items ≡ before ++ name ∷ after
    → list_any (defines name) (take (suc (length before)) (no_symbol ∷ map (Parts.symbol_of items) (Parts.symbol_names items))) ≡ false
no_own items before after name named e =
    let f = Parts.symbol_of items in
    let P : List (List ℕ) → Type 0 = Once in
    let cut : take (length before) (map f (Parts.symbol_names items)) ≡ map f before = ap (λ (xs : List (List ℕ)). take (length before) (map f xs)) e ∙ taken f before (name ∷ after) in
    ap (λ (xs : List SymbolPart). list_any (defines name) (no_symbol ∷ xs)) cut ∙ none_defines f named name before (before_apart before after name (subst P e (symbols_once items)))

mem_split : (name : List ℕ) (before after : List (List ℕ)) → list_any (bytes_eq name) (before ++ name ∷ after) ≡ true
mem_split name [] after = ap (λ (b : Bool). b || list_any (bytes_eq name) after) ((bytes_eq-Decides name name).1 refl)
mem_split name (x ∷ before) after = or_later (bytes_eq name x) (list_any (bytes_eq name) (before ++ name ∷ after)) (mem_split name before after)

-- a name with a symbol is static, or it is shared
pub named_in : (items : List Item) (before after : List (List ℕ)) (name : List ℕ) → Parts.symbol_names items ≡ before ++ name ∷ after
    → (Parts.is_static (Parts.definition_from 0 items name) ≡ true) ⊎ (Parts.is_shared items name ≡ true)
named_in items before after name e =
    let sights = Parts.first_sights items in
    let static : List ℕ → Bool = λ name. Parts.is_static (Parts.definition_from 0 items name) in
    let t : (list_any (bytes_eq name) (filter static sights) || list_any (bytes_eq name) (filter (Parts.is_shared items) sights)) ≡ true =
    sym (list_any-append (bytes_eq name) (filter static sights) (filter (Parts.is_shared items) sights)) ∙ ap (list_any (bytes_eq name)) e ∙ mem_split name before after in
    elim (one_of (list_any (bytes_eq name) (filter static sights)) (list_any (bytes_eq name) (filter (Parts.is_shared items) sights)) t) [
      | inl a ↦ inl (passes_in static name sights a).0
      | inr b ↦ inr (passes_in (Parts.is_shared items) name sights b).0
    ]

-- what is found of a table: nothing, or a fault at the place of the symbol of that name
abbrev pub Finds : (ℕ → LinkFault) → List SymbolPart → Option (List ℕ) → Option LinkFault → Type 0
Finds fault table None None = Unit {0}
Finds fault table None (Some answer) = ⊥
Finds fault table (Some name) None = ⊥
Finds fault table (Some name) (Some answer) = (place : ℕ) × (answer ≡ fault place) × ((get_or table place no_symbol).name ≡ name)

seam : (f : List ℕ → SymbolPart) (before after : List (List ℕ)) (name : List ℕ) → get_or (map f (before ++ name ∷ after)) (length before) no_symbol ≡ f name
seam f [] after name = refl
seam f (x ∷ before) after name = seam f before after name

-- what is asked of each name's symbol, where the names stand behind others
abbrev pub AsksOf : (List ℕ → SymbolPart) → (ℕ → LinkFault) → (ℕ → SymbolPart → Option LinkFault) → (List ℕ → Bool) → List (List ℕ) → Type 0
AsksOf f fault ask q names = (before after : List (List ℕ)) (name : List ℕ) → names ≡ before ++ name ∷ after
    → ask (suc (length before)) (f name) ≡ cond (q name) (Some (fault (suc (length before)))) None

module _ (f : List ℕ → SymbolPart) (named : (name : List ℕ) → (f name).name ≡ name) (fault : ℕ → LinkFault) (ask : ℕ → SymbolPart → Option LinkFault) (q : List ℕ → Bool) (names : List (List ℕ)) (asks : AsksOf f fault ask q names) where
  abbrev table : List SymbolPart
  table = no_symbol ∷ map f names

  walk : (before after : List (List ℕ)) (k : ℕ) → k ≡ suc (length before) → names ≡ before ++ after → Finds fault table (find q after) (first_answer ask k (map f after))
  walk before [] k at e = tt
  walk before (name ∷ after) k at e =
      let more = walk (before ++ name ∷ []) after (k + 1) (let n = length-append before (name ∷ []) in omega (arith, at, n)) (e ∙ sym (append_assoc before (name ∷ []) after)) in
      let rest = first_answer ask (k + 1) (map f after) in
      let here : (get_or table k no_symbol).name ≡ name =
      ap (λ (n : ℕ). (get_or table n no_symbol).name) at ∙ ap (λ (xs : List (List ℕ)). (get_or (map f xs) (length before) no_symbol).name) e ∙ ap (λ (s : SymbolPart). s.name) (seam f before after name) ∙ named name in
      let P : ℕ → Type 0 = λ n. ask n (f name) ≡ cond (q name) (Some (fault n)) None in
      let answer : ask k (f name) ≡ cond (q name) (Some (fault k)) None = subst P (sym at) (asks before after name e) in
      let Q : Option LinkFault → Type 0 = λ o. Finds fault table (cond (q name) (Some name) (find q after)) (option_or o rest) in
      subst Q (sym answer) (by (q name) here rest more)
    where
      by : (c : Bool) → (get_or table k no_symbol).name ≡ name → (rest : Option LinkFault) → Finds fault table (find q after) rest → Finds fault table (cond c (Some name) (find q after)) (option_or (cond c (Some (fault k)) None) rest)
      by true here rest more = (k, refl, here)
      by false here rest more = more

  pub table_finds : ask 0 no_symbol ≡ None → Finds fault table (find q names) (first_answer ask 0 table)
  table_finds none =
      let P : Option LinkFault → Type 0 = λ o. Finds fault table (find q names) (option_or o (first_answer ask 1 (map f names))) in
      subst P (sym none) (walk [] names 1 refl refl)
