-- What an object's parts are made from, one step of a loop after the other.
use Rattle.std.proofs.Common.{◌≡◌, ℕ, ◌+◌, ◌<◌, List, [], ◌∷◌, ◌++◌, length, drop, get_or, refl, sym, ◌∙◌, ap, arith, Bool, true, false, cond, Option, Some, None, append_assoc, length-append}
use Rattle.std.proofs.lemmas.List.{drop_more}
use Rattle.std.specs.Prelude.{is_some}
use Rattle.std.specs.Str.{bytes_eq}
use Rattle.second_form.specs.declared.second_items.SmallStmt.{SmallStmt}
use Rattle.second_form.specs.declared.second_items.SmallStmt.TheVariants.{Put, Call, Return}
use Rattle.second_form.specs.declared.second_items.Item.{Item}
use Rattle.second_code.specs.Code.{statement_size}
use Rattle.second_code.specs.Parts.{Use, open_statement, open_body, body_size, body_of, text_of, uses_from, unit_uses_from, definition_or, definition_from}
use Rattle.second_code.specs.declared.definitions.Definition.{Definition}
use Rattle.second_code.specs.PartSteps.{or_later}

-- the rest of a list from an item on
pub dropped : {A : Type 0} (xs : List A) (i : ℕ) (x : A) → i < length xs → x ≡ get_or xs i x → drop i xs ≡ x ∷ drop (i + 1) xs
dropped {A} xs i x l at = drop_more xs i x l ∙ ap (λ (y : A). y ∷ drop (i + 1) xs) (sym at)

-- sizes
statement_len : (s : SmallStmt) → length (open_statement s) ≡ statement_size s
statement_len (Put n) = refl
statement_len (Call name) = refl
statement_len (Return n) = refl

pub body_len : (body : List SmallStmt) → length (open_body body) ≡ body_size body
body_len [] = refl
body_len (s ∷ body) = omega (arith, length-append (open_statement s) (open_body body), statement_len s, body_len body)

pub body_size_left : (body : List SmallStmt) (i : ℕ) (s : SmallStmt) → i < length body → s ≡ get_or body i s → body_size (drop i body) ≡ statement_size s + body_size (drop (i + 1) body)
body_size_left body i s l at = ap body_size (dropped body i s l at)

pub text_left : (items : List Item) (i : ℕ) (item : Item) → i < length items → item ≡ get_or items i item
    → length (text_of (drop i items)) ≡ body_size (body_of item.body) + length (text_of (drop (i + 1) items))
text_left items i item l at =
    let e : length (text_of (drop i items)) ≡ length (open_body (body_of item.body) ++ text_of (drop (i + 1) items)) = ap (λ (xs : List Item). length (text_of xs)) (dropped items i item l at) in
    omega (arith, e, length-append (open_body (body_of item.body)) (text_of (drop (i + 1) items)), body_len (body_of item.body))

-- calls
uses_split : (at : ℕ) (s : SmallStmt) (rest : List SmallStmt) → uses_from at (s ∷ rest) ≡ uses_from at (s ∷ []) ++ uses_from (at + statement_size s) rest
uses_split at (Put n) rest = refl
uses_split at (Call name) rest = refl
uses_split at (Return n) rest = refl

pub uses_more : (old new whole : List Use) (at : ℕ) (body : List SmallStmt) (i : ℕ) (s : SmallStmt) → i < length body → s ≡ get_or body i s
    → old ++ uses_from at (drop i body) ≡ whole → new ≡ old ++ uses_from at (s ∷ []) → new ++ uses_from (at + statement_size s) (drop (i + 1) body) ≡ whole
uses_more old new whole at body i s l is h e =
    let rest = drop (i + 1) body in
    ap (λ (xs : List Use). xs ++ uses_from (at + statement_size s) rest) e ∙ append_assoc old (uses_from at (s ∷ [])) (uses_from (at + statement_size s) rest)
    ∙ ap (λ (xs : List Use). old ++ xs) (sym (uses_split at s rest)) ∙ ap (λ (xs : List SmallStmt). old ++ uses_from at xs) (sym (dropped body i s l is)) ∙ h

pub unit_uses_more : (old new whole : List Use) (at : ℕ) (items : List Item) (i : ℕ) (item : Item) → i < length items → item ≡ get_or items i item
    → old ++ unit_uses_from at (drop i items) ≡ whole → new ≡ old ++ uses_from at (body_of item.body)
    → new ++ unit_uses_from (at + body_size (body_of item.body)) (drop (i + 1) items) ≡ whole
unit_uses_more old new whole at items i item l is h e =
    let rest = unit_uses_from (at + body_size (body_of item.body)) (drop (i + 1) items) in
    ap (λ (xs : List Use). xs ++ rest) e ∙ append_assoc old (uses_from at (body_of item.body)) rest
    ∙ ap (λ (xs : List Item). old ++ unit_uses_from at xs) (sym (dropped items i item l is)) ∙ h

-- definitions
pub or_later_none : {V : Type 0} (o : Option V) → or_later o None ≡ o
or_later_none None = refl
or_later_none (Some v) = refl

or_later_assoc : {V : Type 0} (a b c : Option V) → or_later (or_later a b) c ≡ or_later a (or_later b c)
or_later_assoc None b c = refl
or_later_assoc (Some v) b c = refl

split_or : (b local : Bool) (at : ℕ) (body : Option (List SmallStmt)) (others : Option Definition) → definition_or b local at body others ≡ or_later (definition_or b local at body None) others
split_or false local at body others = refl
split_or true local at None others = refl
split_or true local at (Some body) others = refl

pub definition_none : (b local : Bool) (at : ℕ) → definition_or b local at None None ≡ None
definition_none false local at = refl
definition_none true local at = refl

pub definition_some : (b local : Bool) (at : ℕ) (body : List SmallStmt) → definition_or b local at (Some body) None ≡ cond b (Some (record { local = local; begin = at; extent = body_size body })) None
definition_some false local at body = refl
definition_some true local at body = refl

pub definition_more : (old new whole : Option Definition) (at : ℕ) (items : List Item) (i : ℕ) (item : Item) (name : List ℕ) → i < length items → item ≡ get_or items i item
    → or_later old (definition_from at (drop i items) name) ≡ whole → new ≡ or_later old (definition_from at (item ∷ []) name)
    → or_later new (definition_from (at + body_size (body_of item.body)) (drop (i + 1) items) name) ≡ whole
definition_more old new whole at items i item name l is h e =
    let one = definition_from at (item ∷ []) name in
    let rest = definition_from (at + body_size (body_of item.body)) (drop (i + 1) items) name in
    ap (λ (o : Option Definition). or_later o rest) e ∙ or_later_assoc old one rest
    ∙ ap (λ (o : Option Definition). or_later old o) (sym (split_or (bytes_eq item.name name) item.local at item.body rest))
    ∙ ap (λ (xs : List Item). or_later old (definition_from at xs name)) (sym (dropped items i item l is)) ∙ h

-- an index that keeps the first of each name
pub kept_first : {V : Type 0} (b : Bool) (old : Option V) (v : V) → (b ≡ true → old ≡ None) → cond b (Some v) old ≡ or_later old (cond b (Some v) None)
kept_first {V} true old v h = sym (ap (λ (o : Option V). or_later o (Some v)) (h refl))
kept_first false None v h = refl
kept_first false (Some x) v h = refl

pub stays_first : {V : Type 0} (b : Bool) (old : Option V) (v : V) → (b ≡ true → is_some old ≡ true) → old ≡ or_later old (cond b (Some v) None)
stays_first true None v h = absurd (let e = h refl in cc)
stays_first true (Some x) v h = refl
stays_first false None v h = refl
stays_first false (Some x) v h = refl

pub none_is : {V : Type 0} (o : Option V) → is_some o ≡ false → o ≡ None
none_is None e = refl
none_is (Some x) e = absurd (cc)
