-- The index of definitions, symbol by symbol.
use Rattle.std.proofs.Common.{◌≡◌, ℕ, ◌+◌, ◌<◌, List, [], ◌∷◌, ◌++◌, Option, Some, None, Bool, true, false, take, length, ap, ◌∙◌, sym, refl, subst, append_assoc}
use Rattle.std.specs.Prelude.{find, cond, ◌&&◌, ◌||◌, is_some, if◌then◌else◌}
use Rattle.std.proofs.lemmas.Option.{none-some}
use Rattle.std.proofs.lemmas.Slice.Eq.{bytes_eq-Decides}
use Rattle.std.specs.List.{list_any}
use Rattle.std.specs.Option.{option_or}
use Rattle.std.specs.Str.{bytes_eq}
use Rattle.std.proofs.lemmas.List.{take_more}
use Rattle.std.proofs.lemmas.List.Folds.{find-append}
use Rattle.elf_file.specs.Object.{Object, no_symbol}
use Rattle.elf_file.specs.declared.parts.SymbolPart.{SymbolPart}
use Rattle.elf_linker.specs.Names.{is_definition, defines, all_symbols}
use Rattle.elf_linker.specs.Linked.{object_at}
use Rattle.elf_linker.specs.LinkSteps.{symbol_at, symbols_before, IsNoted, doubled_at}
use Rattle.elf_linker.specs.declared.definitions.Site.{Site}
use Rattle.elf_linker.specs.declared.fault.LinkFault.{LinkFault}
use Rattle.elf_linker.specs.declared.fault.LinkFault.TheVariants.{Doubled}

-- one more symbol stands before the next
pub before_more : (objects : List Object) (number symbol : ℕ) → symbol < length (object_at objects number).symbols
    → symbols_before objects number (symbol + 1) ≡ symbols_before objects number symbol ++ symbol_at objects number symbol ∷ []
before_more objects number symbol l =
    ap (λ (xs : List SymbolPart). all_symbols (take number objects) ++ xs) (take_more (object_at objects number).symbols symbol no_symbol l)
    ∙ sym (append_assoc (all_symbols (take number objects)) (take symbol (object_at objects number).symbols) (symbol_at objects number symbol ∷ []))

-- what is found among symbols and one more
pub find_more : (p : SymbolPart → Bool) (xs : List SymbolPart) (x : SymbolPart) → find p (xs ++ x ∷ []) ≡ option_or (find p xs) (cond (p x) (Some x) None)
find_more p xs x = find-append p xs (x ∷ [])

none_after : {A : Type 0} (o : Option A) → option_or o None ≡ o
none_after None = refl
none_after (Some x) = refl

-- a symbol that does not pass adds nothing
pub find_same : (p : SymbolPart → Bool) (xs : List SymbolPart) (x : SymbolPart) → p x ≡ false → find p (xs ++ x ∷ []) ≡ find p xs
find_same p xs x e = find_more p xs x ∙ ap (λ (b : Bool). option_or (find p xs) (cond b (Some x) None)) e ∙ none_after (find p xs)

-- the first symbol that passes
pub find_first : (p : SymbolPart → Bool) (xs : List SymbolPart) (x : SymbolPart) → find p xs ≡ None → p x ≡ true → find p (xs ++ x ∷ []) ≡ Some x
find_first p xs x n e = find_more p xs x ∙ ap (λ (o : Option SymbolPart). option_or o (cond (p x) (Some x) None)) n ∙ ap (λ (b : Bool). cond b (Some x) None) e

-- whether there is one, and which
any_of : (p : SymbolPart → Bool) (x : SymbolPart) (xs : List SymbolPart) (o : Option SymbolPart) → find p xs ≡ o → (find p xs ≡ None → list_any p xs ≡ false) → ((y : SymbolPart) → find p xs ≡ Some y → list_any p xs ≡ true)
    → (b : Bool) → p x ≡ b → (cond b (Some x) (find p xs) ≡ None → (b || list_any p xs) ≡ false) × ((y : SymbolPart) → cond b (Some x) (find p xs) ≡ Some y → (b || list_any p xs) ≡ true)
any_of p x xs o e f g true t = (λ n. absurd (none-some x (sym n)), λ y s. refl)
any_of p x xs o e f g false t = (λ n. f n, λ y s. g y s)

pub any-find : (p : SymbolPart → Bool) (xs : List SymbolPart) → (find p xs ≡ None → list_any p xs ≡ false) × ((y : SymbolPart) → find p xs ≡ Some y → list_any p xs ≡ true)
any-find p [] = (λ n. refl, λ y s. absurd (none-some y s))
any-find p (x ∷ xs) = let h = any-find p xs in any_of p x xs (find p xs) refl h.0 h.1 (p x) refl

same_noted : (objects : List Object) (before after : List SymbolPart) (name : List ℕ) (o : Option Site) → IsNoted objects before name o → find (defines name) after ≡ find (defines name) before → IsNoted objects after name o
same_noted objects before after name None n e = e ∙ n
same_noted objects before after name (Some site) n e = record { in_objects = n.in_objects; in_table = n.in_table; first = e ∙ n.first }

-- a symbol that defines nothing
pub noted_other : (objects : List Object) (before : List SymbolPart) (symbol : SymbolPart) (name : List ℕ) (o : Option Site) → is_definition symbol ≡ false → IsNoted objects before name o → IsNoted objects (before ++ symbol ∷ []) name o
noted_other objects before symbol name o e n =
    same_noted objects before (before ++ symbol ∷ []) name o n (find_same (defines name) before symbol (ap (λ (b : Bool). b && bytes_eq symbol.name name) e))

-- a name that is noted has a definition, and one that is not noted has none
pub noted_none : (objects : List Object) (symbols : List SymbolPart) (name : List ℕ) (o : Option Site) → IsNoted objects symbols name o → o ≡ None → find (defines name) symbols ≡ None
noted_none objects symbols name None n e = n
noted_none objects symbols name (Some site) n e = absurd (none-some site (sym e))

pub noted_some : (objects : List Object) (symbols : List SymbolPart) (name : List ℕ) (o : Option Site) → IsNoted objects symbols name o → is_some o ≡ true → list_any (defines name) symbols ≡ true
noted_some objects symbols name None n e = let clash : false ≡ true = e in cc
noted_some objects symbols name (Some site) n e = (any-find (defines name) symbols).1 (symbol_at objects site.object site.symbol) n.first

-- the first definition of a name is noted
noted_by : (objects : List Object) (before : List SymbolPart) (symbol : SymbolPart) (site : Site) (other : List ℕ) (old : Option Site) → is_definition symbol ≡ true
    → site.object < length objects → site.symbol < length (object_at objects site.object).symbols → symbol_at objects site.object site.symbol ≡ symbol
    → IsNoted objects before other old → (bytes_eq symbol.name other ≡ true → old ≡ None)
    → (b : Bool) → bytes_eq symbol.name other ≡ b → IsNoted objects (before ++ symbol ∷ []) other (if b then Some site else old)
noted_by objects before symbol site other old e i t at n none true same = record {
  in_objects = i;
  in_table = t;
  first = find_first (defines other) before symbol (noted_none objects before other old n (none same)) (ap (λ (d : Bool). d && bytes_eq symbol.name other) e ∙ same) ∙ ap (λ (s : SymbolPart). Some s) (sym at);
}
noted_by objects before symbol site other old e i t at n none false differs =
    same_noted objects before (before ++ symbol ∷ []) other old n (find_same (defines other) before symbol (ap (λ (d : Bool). d && bytes_eq symbol.name other) e ∙ differs))

pub noted_this : (objects : List Object) (before : List SymbolPart) (symbol : SymbolPart) (site : Site) (look : List ℕ → Option Site) (new : List ℕ → Option Site) → is_definition symbol ≡ true
    → site.object < length objects → site.symbol < length (object_at objects site.object).symbols → symbol_at objects site.object site.symbol ≡ symbol
    → ((name : List ℕ) → IsNoted objects before name (look name)) → look symbol.name ≡ None → ((name : List ℕ) → new name ≡ (if bytes_eq symbol.name name then Some site else look name))
    → (other : List ℕ) → IsNoted objects (before ++ symbol ∷ []) other (new other)
noted_this objects before symbol site look new e i t at n none is other =
    let P : Option Site → Type 0 = λ o. IsNoted objects (before ++ symbol ∷ []) other o in
    subst P (sym (is other)) (noted_by objects before symbol site other (look other) e i t at (n other) (λ same. ap look (sym ((bytes_eq-Decides symbol.name other).0 same)) ∙ none) (bytes_eq symbol.name other) refl)

at_none : (d : Bool) (fault : LinkFault) (b : Bool) → b ≡ false → cond (d && b) (Some fault) None ≡ None
at_none true fault b e = ap (λ (x : Bool). cond x (Some fault) None) e
at_none false fault b e = refl

-- what is wrong with the symbol
pub doubled_none : (objects : List Object) (number place : ℕ) (symbol : SymbolPart) → list_any (defines symbol.name) (symbols_before objects number place) ≡ false → doubled_at objects number place symbol ≡ None
doubled_none objects number place symbol e = at_none (is_definition symbol) (Doubled number place) (list_any (defines symbol.name) (symbols_before objects number place)) e

pub doubled_some : (objects : List Object) (number place : ℕ) (symbol : SymbolPart) → is_definition symbol ≡ true → list_any (defines symbol.name) (symbols_before objects number place) ≡ true → doubled_at objects number place symbol ≡ Some (Doubled number place)
doubled_some objects number place symbol d e = ap (λ (b : Bool). cond (b && list_any (defines symbol.name) (symbols_before objects number place)) (Some (Doubled number place)) None) d ∙ ap (λ (b : Bool). cond b (Some (Doubled number place)) None) e

pub is_nothing : {A : Type 0} (o : Option A) → is_some o ≡ false → o ≡ None
is_nothing None e = refl
is_nothing (Some x) e = let clash : true ≡ false = e in cc
