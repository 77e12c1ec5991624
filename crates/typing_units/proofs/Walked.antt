-- Lists that are walked from their beginning: one element more.
use Rattle.std.proofs.Common.{ℕ, ◌≡◌, ◌+◌, ◌<◌, List, [], ◌∷◌, ◌++◌, length, drop, take, map, get_or, ap, sym, ◌∙◌}
use Rattle.std.proofs.lemmas.List.{take_more, drop_more, append_assoc, map-append}
use Rattle.std.proofs.lemmas.Option.{slice_get_within, get_or_from_slice_get, unwrap_or-slice_get}
use Rattle.std.specs.Prelude.{Option, Some, slice_get, nat_lt}
use Rattle.cc_base.specs.declared.face.SymbolName.{SymbolName}
use Rattle.text_grammar.specs.declared.tree.Base.{Base}
use Rattle.text_grammar.specs.declared.tree.Linkage.{Linkage}
use Rattle.text_grammar.specs.declared.tree.ObjectItem.{ObjectItem}
use Rattle.text_grammar.specs.declared.tree.External.{External}
use Rattle.typing_faults.specs.declared.fault.Row.{Row}
use Rattle.typing_faults.specs.Faults.{told}
use Rattle.typing_faults.specs.laws.Faults.{told_append}
use Rattle.typing_symbols.specs.Table.{Table}
use Rattle.cc_base.specs.declared.face.Face.{Face}
use Rattle.typing_scopes.specs.Visible.{Visible}
use Rattle.clight_unit.specs.declared.signature.Callee.{Callee}
use Rattle.typing_declarations.specs.declared.whole.Whole.{Whole}
use Rattle.typing_units.specs.declared.walk.Walk.{Walk}
use Rattle.typing_units.specs.Objects.{name_of, item_rows, item_behind, items_rows, items_behind}
use Rattle.typing_units.specs.Walk.{external_rows, external_behind, walk_rows, walk_behind}
use Rattle.typing_units.specs.Faces.{symbol_names, face_with, face_from, undeclared}
use Rattle.typing_declarations.proofs.Rests.{rest_is}

pub rest_at : {A : Type 0} (xs : List A) (i : ℕ) (x : A) → slice_get xs i ≡ Some x → drop i xs ≡ x ∷ drop (i + 1) xs
rest_at xs i x at = rest_is xs i x (slice_get_within xs i x at) (sym (get_or_from_slice_get xs i x x at))

pub items_more : (whole : Whole) (l : Linkage) (b : Base) (w v : Walk) (xs : List ObjectItem) (i : ℕ) (x : ObjectItem) → i < length xs → x ≡ get_or xs i x → v ≡ item_behind whole l b w x → items_behind whole l b v (drop (i + 1) xs) ≡ items_behind whole l b w (drop i xs)
items_more whole l b w v xs i x within is one =
    ap (λ u. items_behind whole l b u (drop (i + 1) xs)) one ∙ sym (ap (λ ys. items_behind whole l b w ys) (rest_is xs i x within is))

pub item_rows_more : (whole : Whole) (l : Linkage) (b : Base) (w v : Walk) (f g : Option Row) (xs : List ObjectItem) (i : ℕ) (x : ObjectItem) → i < length xs → x ≡ get_or xs i x → v ≡ item_behind whole l b w x → g ≡ told f (item_rows whole l b w x) → told g (items_rows whole l b v (drop (i + 1) xs)) ≡ told f (items_rows whole l b w (drop i xs))
item_rows_more whole l b w v f g xs i x within is one told_one =
    ap (λ u. told g (items_rows whole l b u (drop (i + 1) xs))) one
    ∙ ap (λ h. told h (items_rows whole l b (item_behind whole l b w x) (drop (i + 1) xs))) told_one
    ∙ sym (told_append f (item_rows whole l b w x) (items_rows whole l b (item_behind whole l b w x) (drop (i + 1) xs)))
    ∙ sym (ap (λ ys. told f (items_rows whole l b w ys)) (rest_is xs i x within is))

pub walk_more : (whole : Whole) (w v : Walk) (xs : List External) (i : ℕ) (x : External) → i < length xs → x ≡ get_or xs i x → v ≡ external_behind whole w x → walk_behind whole v (drop (i + 1) xs) ≡ walk_behind whole w (drop i xs)
walk_more whole w v xs i x within is one =
    ap (λ u. walk_behind whole u (drop (i + 1) xs)) one ∙ sym (ap (λ ys. walk_behind whole w ys) (rest_is xs i x within is))

pub walk_rows_more : (whole : Whole) (w v : Walk) (f g : Option Row) (xs : List External) (i : ℕ) (x : External) → i < length xs → x ≡ get_or xs i x → v ≡ external_behind whole w x → g ≡ told f (external_rows whole w x) → told g (walk_rows whole v (drop (i + 1) xs)) ≡ told f (walk_rows whole w (drop i xs))
walk_rows_more whole w v f g xs i x within is one told_one =
    ap (λ u. told g (walk_rows whole u (drop (i + 1) xs))) one
    ∙ ap (λ h. told h (walk_rows whole (external_behind whole w x) (drop (i + 1) xs))) told_one
    ∙ sym (told_append f (external_rows whole w x) (walk_rows whole (external_behind whole w x) (drop (i + 1) xs)))
    ∙ sym (ap (λ ys. told f (walk_rows whole w ys)) (rest_is xs i x within is))

-- a symbol's name more
pub names_more : (s : Table) (names later : List SymbolName) (i : ℕ) (n : List ℕ) → slice_get s.names i ≡ Some n → later ≡ names ++ record { name = n; local = nat_lt i s.locals } ∷ [] → later ++ symbol_names s (i + 1) (drop (i + 1) s.names) ≡ names ++ symbol_names s i (drop i s.names)
names_more s names later i n at one =
    ap (λ ns. ns ++ symbol_names s (i + 1) (drop (i + 1) s.names)) one
    ∙ append_assoc names (record { name = n; local = nat_lt i s.locals } ∷ []) (symbol_names s (i + 1) (drop (i + 1) s.names))
    ∙ sym (ap (λ ys. names ++ symbol_names s i ys) (rest_at s.names i n at))

-- what is known of a symbol more without a declaration
pub undeclared_more : (names : List (List ℕ)) (cs later : List Callee) (i : ℕ) (n : List ℕ) (c : Callee) → slice_get names i ≡ Some n → cs ≡ map undeclared (take i names) → c ≡ undeclared n → later ≡ cs ++ c ∷ [] → later ≡ map undeclared (take (i + 1) names)
undeclared_more names cs later i n c at before is one =
    one ∙ ap (λ ds. ds ++ c ∷ []) before ∙ ap (λ d. map undeclared (take i names) ++ d ∷ []) is
    ∙ sym (ap (map undeclared) (take_more names i n (slice_get_within names i n at) ∙ ap (λ m. take i names ++ m ∷ []) (get_or_from_slice_get names i n n at)) ∙ map-append undeclared (take i names) (n ∷ []))

-- a symbol more in the face
pub face_more : (s : Table) (scope : Visible) (needs : List ℕ) (face later : Face) (i : ℕ) → i < length s.names → later ≡ face_with s scope needs face i (name_of s i) → face_from s scope needs later (i + 1) (drop (i + 1) s.names) ≡ face_from s scope needs face i (drop i s.names)
face_more s scope needs face later i within one =
    ap (λ f. face_from s scope needs f (i + 1) (drop (i + 1) s.names)) one
    ∙ sym (ap (λ ns. face_from s scope needs face i ns) (drop_more s.names i [] within ∙ ap (λ n. n ∷ drop (i + 1) s.names) (sym (unwrap_or-slice_get s.names i []))))
