-- A member, one member more, and one declaration of members more.
use Rattle.std.proofs.Common.{ℕ, ◌≡◌, ◌+◌, ◌<◌, Bool, ◌||◌, List, ◌∷◌, length, drop, get_or, ap, sym, ◌∙◌}
use Rattle.std.specs.Prelude.{Option}
use Rattle.text_grammar.specs.declared.tree.Base.{Base}
use Rattle.text_grammar.specs.declared.tree.Declarator.{Declarator}
use Rattle.text_grammar.specs.declared.tree.Members.{Members}
use Rattle.typing_types.specs.Laid.{Laid}
use Rattle.typing_types.specs.Types.{Derived}
use Rattle.typing_faults.specs.declared.fault.Row.{Row}
use Rattle.typing_faults.specs.Faults.{told}
use Rattle.typing_faults.specs.laws.Faults.{told_append}
use Rattle.typing_scopes.specs.declared.entity.Member.{Member}
use Rattle.typing_scopes.specs.Tables.{with_entry}
use Rattle.typing_scopes.specs.Visible.{Visible}
use Rattle.typing_declarations.specs.declared.structs.Fields.{Fields}
use Rattle.typing_declarations.specs.Declarators.{type_of, laid_of}
use Rattle.typing_declarations.specs.Structs.{offset_in, laid_with, is_flawed, field_rows, with_field, with_fields, fields_rows, with_members, members_rows}
use Rattle.typing_declarations.proofs.Rests.{rest_is}

pub fields_more : (scope : Visible) (base : Base) (fields later : Fields) (ds : List Declarator) (i : ℕ) (d : Declarator) → i < length ds → d ≡ get_or ds i d → later ≡ with_field scope fields d (type_of scope base d) → with_fields scope base later (drop (i + 1) ds) ≡ with_fields scope base fields (drop i ds)
fields_more scope base fields later ds i d within is one =
    ap (λ f. with_fields scope base f (drop (i + 1) ds)) one ∙ sym (ap (with_fields scope base fields) (rest_is ds i d within is))

pub field_rows_more : (scope : Visible) (base : Base) (fields later : Fields) (r s : Option Row) (ds : List Declarator) (i : ℕ) (d : Declarator) → i < length ds → d ≡ get_or ds i d → later ≡ with_field scope fields d (type_of scope base d) → s ≡ told r (field_rows scope base fields d (type_of scope base d)) → told s (fields_rows scope base later (drop (i + 1) ds)) ≡ told r (fields_rows scope base fields (drop i ds))
field_rows_more scope base fields later r s ds i d within is one told_one =
    ap (λ f. told s (fields_rows scope base f (drop (i + 1) ds))) one
    ∙ ap (λ o. told o (fields_rows scope base (with_field scope fields d (type_of scope base d)) (drop (i + 1) ds))) told_one
    ∙ sym (told_append r (field_rows scope base fields d (type_of scope base d)) (fields_rows scope base (with_field scope fields d (type_of scope base d)) (drop (i + 1) ds)))
    ∙ sym (ap (λ xs. told r (fields_rows scope base fields xs)) (rest_is ds i d within is))

pub members_more : (scope : Visible) (fields later : Fields) (ms : List Members) (i : ℕ) (m : Members) → i < length ms → m ≡ get_or ms i m → later ≡ with_fields scope m.base fields m.fields → with_members scope later (drop (i + 1) ms) ≡ with_members scope fields (drop i ms)
members_more scope fields later ms i m within is one =
    ap (λ f. with_members scope f (drop (i + 1) ms)) one ∙ sym (ap (with_members scope fields) (rest_is ms i m within is))

pub rows_more : (scope : Visible) (fields later : Fields) (r s : Option Row) (ms : List Members) (i : ℕ) (m : Members) → i < length ms → m ≡ get_or ms i m → later ≡ with_fields scope m.base fields m.fields → s ≡ told r (fields_rows scope m.base fields m.fields) → told s (members_rows scope later (drop (i + 1) ms)) ≡ told r (members_rows scope fields (drop i ms))
rows_more scope fields later r s ms i m within is one told_one =
    ap (λ f. told s (members_rows scope f (drop (i + 1) ms))) one
    ∙ ap (λ o. told o (members_rows scope (with_fields scope m.base fields m.fields) (drop (i + 1) ms))) told_one
    ∙ sym (told_append r (fields_rows scope m.base fields m.fields) (members_rows scope (with_fields scope m.base fields m.fields) (drop (i + 1) ms)))
    ∙ sym (ap (λ xs. told r (members_rows scope fields xs)) (rest_is ms i m within is))

abbrev made : List (List ℕ × Member) → Option Laid → Bool → Fields
made members laid is_broken = record { members = members; laid = laid; is_broken = is_broken }

abbrev member : Derived → ℕ → Member
member t offset = record { ctype = t; offset = offset }

-- a member of a type, from its parts
pub field_made : (scope : Visible) (fields : Fields) (d : Declarator) (t u : Derived) (members : List (List ℕ × Member)) (name : List ℕ) (laid after : Option Laid) (offset : ℕ) (flawed is_broken : Bool) → t ≡ u → flawed ≡ is_flawed scope fields d t → laid ≡ laid_of scope t → offset ≡ offset_in fields.laid laid → is_broken ≡ (fields.is_broken || flawed) → after ≡ laid_with fields.laid laid → name ≡ d.name.bytes → members ≡ with_entry fields.members name (member t offset) → made members after is_broken ≡ with_field scope fields d u
field_made scope fields d t u members name laid after offset flawed is_broken same flawed_is laid_is offset_is broken_is after_is name_is members_are =
    ap (λ ms. made ms after is_broken) (members_are ∙ ap (λ n. with_entry fields.members n (member t offset)) name_is ∙ ap (λ o. with_entry fields.members d.name.bytes (member t o)) (offset_is ∙ ap (λ l. offset_in fields.laid l) laid_is))
    ∙ ap (λ l. made (with_entry fields.members d.name.bytes (member t (offset_in fields.laid (laid_of scope t)))) l is_broken) (after_is ∙ ap (λ l. laid_with fields.laid l) laid_is)
    ∙ ap (λ b. made (with_entry fields.members d.name.bytes (member t (offset_in fields.laid (laid_of scope t)))) (laid_with fields.laid (laid_of scope t)) b) (broken_is ∙ ap (λ b. fields.is_broken || b) flawed_is)
    ∙ ap (λ x. with_field scope fields d x) same
