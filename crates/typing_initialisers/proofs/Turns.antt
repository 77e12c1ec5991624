-- Items that are told and filled one by one.
use Rattle.std.proofs.Common.{◌≡◌, ℕ, ◌+◌, ◌<◌, List, [], ◌∷◌, ◌++◌, map, length, get_or, drop, Option, sym, ap, ◌∙◌}
use Rattle.std.proofs.lemmas.List.{at_drop_more}
use Rattle.text_grammar.specs.declared.tree.Initialiser.{Initialiser}
use Rattle.typing_faults.specs.declared.fault.Row.{Row}
use Rattle.typing_faults.specs.declared.fault.TypeKind.TheVariants as kind
use Rattle.typing_faults.specs.Faults.{told}
use Rattle.typing_faults.specs.laws.Faults.{told_append}
use Rattle.typing_scopes.specs.Visible.{Visible}
use Rattle.typing_initialisers.specs.declared.slots.Slot.{Slot}
use Rattle.typing_initialisers.specs.declared.data.Data.{Data}
use Rattle.typing_initialisers.specs.Data.{with_parts}
use Rattle.typing_initialisers.specs.laws.Data.{with_parts_append}
use Rattle.typing_initialisers.specs.Initialisers.{refused, in_slot, items_from, inner_rows, item_of}

-- what is left to tell behind one item more
pub one_told : (scope : Visible) (faults new : Option Row) (items : List Initialiser) (k : ℕ) (x : Initialiser) → k < length items → x ≡ get_or items k x → new ≡ told faults (item_of scope x).inner → told new (inner_rows (map (item_of scope) (drop (k + 1) items))) ≡ told faults (inner_rows (map (item_of scope) (drop k items)))
one_told scope faults new items k x before is e =
    let rest = inner_rows (map (item_of scope) (drop (k + 1) items)) in
    ap (λ r. told r rest) e
    ∙ sym (told_append faults (item_of scope x).inner rest)
    ∙ ap (λ y. told faults ((item_of scope y).inner ++ rest)) is
    ∙ sym (at_drop_more (λ l. told faults (inner_rows (map (item_of scope) l))) items k x before)

-- an item that does not fit is told, and then its row
pub refusal : (inner : List Row) (faults new newer : Option Row) (at place : ℕ) → new ≡ told faults inner → at ≡ place → newer ≡ told new (record { kind = kind.Initialiser; at = at } ∷ []) → newer ≡ told faults (refused inner place).rows
refusal inner faults new newer at place e same f =
    f
    ∙ ap (λ r. told r (record { kind = kind.Initialiser; at = at } ∷ [])) e
    ∙ ap (λ n. told (told faults inner) (record { kind = kind.Initialiser; at = n } ∷ [])) same
    ∙ sym (told_append faults inner (record { kind = kind.Initialiser; at = place } ∷ []))

-- what is left to fill behind one item more
pub one_filled : (scope : Visible) (slot : ℕ → Option Slot) (faults new : Option Row) (items : List Initialiser) (k : ℕ) (x : Initialiser) → k < length items → x ≡ get_or items k x → new ≡ told faults (in_slot (item_of scope x) (slot k)).rows → told new (items_from slot (k + 1) (map (item_of scope) (drop (k + 1) items))).rows ≡ told faults (items_from slot k (map (item_of scope) (drop k items))).rows
one_filled scope slot faults new items k x before is e =
    let rest = (items_from slot (k + 1) (map (item_of scope) (drop (k + 1) items))).rows in
    ap (λ r. told r rest) e
    ∙ sym (told_append faults (in_slot (item_of scope x) (slot k)).rows rest)
    ∙ ap (λ y. told faults ((in_slot (item_of scope y) (slot k)).rows ++ rest)) is
    ∙ sym (at_drop_more (λ l. told faults (items_from slot k (map (item_of scope) l)).rows) items k x before)

-- and what is left to give
pub one_given : (scope : Visible) (slot : ℕ → Option Slot) (out new : Data) (items : List Initialiser) (k : ℕ) (x : Initialiser) → k < length items → x ≡ get_or items k x → new ≡ with_parts out (in_slot (item_of scope x) (slot k)).parts → with_parts new (items_from slot (k + 1) (map (item_of scope) (drop (k + 1) items))).parts ≡ with_parts out (items_from slot k (map (item_of scope) (drop k items))).parts
one_given scope slot out new items k x before is e =
    let rest = (items_from slot (k + 1) (map (item_of scope) (drop (k + 1) items))).parts in
    ap (λ d. with_parts d rest) e
    ∙ sym (with_parts_append out (in_slot (item_of scope x) (slot k)).parts rest)
    ∙ ap (λ y. with_parts out ((in_slot (item_of scope y) (slot k)).parts ++ rest)) is
    ∙ sym (at_drop_more (λ l. with_parts out (items_from slot k (map (item_of scope) l)).parts) items k x before)
