-- Locals from one to the next: what stands behind the rest of a list, and the rows that the rest breaks.
use Rattle.std.proofs.Common.{ℕ, ◌≡◌, ◌+◌, ◌<◌, Bool, List, ◌∷◌, length, drop, get_or, ap, sym, ◌∙◌}
use Rattle.std.specs.Prelude.{Option}
use Rattle.text_grammar.specs.declared.tree.Base.{Base}
use Rattle.text_grammar.specs.declared.tree.LocalItem.{LocalItem}
use Rattle.text_grammar.specs.declared.tree.Locals.{Locals}
use Rattle.typing_faults.specs.declared.fault.Row.{Row}
use Rattle.typing_faults.specs.Faults.{told}
use Rattle.typing_faults.specs.laws.Faults.{told_append}
use Rattle.typing_bodies.specs.Locals.{Opened, item_rows, item_behind, list_rows, list_behind, locals_rows, locals_behind}
use Rattle.typing_declarations.proofs.Rests.{rest_is}

pub items_more : (r : Bool) (b : Base) (o p : Opened) (xs : List LocalItem) (i : ℕ) (x : LocalItem) → i < length xs → x ≡ get_or xs i x → p ≡ item_behind o r b x → list_behind p r b (drop (i + 1) xs) ≡ list_behind o r b (drop i xs)
items_more r b o p xs i x within is one =
    ap (λ q. list_behind q r b (drop (i + 1) xs)) one ∙ sym (ap (λ ys. list_behind o r b ys) (rest_is xs i x within is))

pub item_rows_more : (r : Bool) (b : Base) (o p : Opened) (f g : Option Row) (xs : List LocalItem) (i : ℕ) (x : LocalItem) → i < length xs → x ≡ get_or xs i x → p ≡ item_behind o r b x → g ≡ told f (item_rows o r b x) → told g (list_rows p r b (drop (i + 1) xs)) ≡ told f (list_rows o r b (drop i xs))
item_rows_more r b o p f g xs i x within is one told_one =
    ap (λ q. told g (list_rows q r b (drop (i + 1) xs))) one
    ∙ ap (λ h. told h (list_rows (item_behind o r b x) r b (drop (i + 1) xs))) told_one
    ∙ sym (told_append f (item_rows o r b x) (list_rows (item_behind o r b x) r b (drop (i + 1) xs)))
    ∙ sym (ap (λ ys. told f (list_rows o r b ys)) (rest_is xs i x within is))

pub lists_more : (o p : Opened) (ls : List Locals) (i : ℕ) (l : Locals) → i < length ls → l ≡ get_or ls i l → p ≡ list_behind o l.is_register l.base l.items → locals_behind p (drop (i + 1) ls) ≡ locals_behind o (drop i ls)
lists_more o p ls i l within is one =
    ap (λ q. locals_behind q (drop (i + 1) ls)) one ∙ sym (ap (locals_behind o) (rest_is ls i l within is))

pub list_rows_more : (o p : Opened) (f g : Option Row) (ls : List Locals) (i : ℕ) (l : Locals) → i < length ls → l ≡ get_or ls i l → p ≡ list_behind o l.is_register l.base l.items → g ≡ told f (list_rows o l.is_register l.base l.items) → told g (locals_rows p (drop (i + 1) ls)) ≡ told f (locals_rows o (drop i ls))
list_rows_more o p f g ls i l within is one told_one =
    ap (λ q. told g (locals_rows q (drop (i + 1) ls))) one
    ∙ ap (λ h. told h (locals_rows (list_behind o l.is_register l.base l.items) (drop (i + 1) ls))) told_one
    ∙ sym (told_append f (list_rows o l.is_register l.base l.items) (locals_rows (list_behind o l.is_register l.base l.items) (drop (i + 1) ls)))
    ∙ sym (ap (λ ys. told f (locals_rows o ys)) (rest_is ls i l within is))
