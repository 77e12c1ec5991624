-- The definition of a struct (C11, 6.7.2.1). Within it the struct is as it was before, so its size is not known there.
use Rattle.std.specs.Prelude.{ℕ, Bool, false, not, cond, nat_le, ◌&&◌, ◌||◌, List, [], ◌∷◌, ◌++◌, Option, Some, None, unwrap_or, is_some, is_none}
use Rattle.std.specs.Option.{option_and_then}
use Rattle.text_grammar.specs.declared.tree.Base.{Base}
use Rattle.text_grammar.specs.declared.tree.NameAt.{NameAt}
use Rattle.text_grammar.specs.declared.tree.Declarator.{Declarator}
use Rattle.text_grammar.specs.declared.tree.Members.{Members}
use Rattle.typing_types.specs.Laid.{Laid, laid}
use Rattle.typing_types.specs.Widths.{largest}
use Rattle.typing_types.specs.Types.{Derived}
use Rattle.typing_types.specs.Sizes.{is_unfinished}
use Rattle.typing_types.specs.Structs.{offset_behind, end_behind, laid_behind, struct_size, struct_laid}
use Rattle.typing_faults.specs.declared.fault.Row.{Row}
use Rattle.typing_faults.specs.declared.fault.TypeKind.TheVariants as row
use Rattle.typing_scopes.specs.Visible.{Visible}
use Rattle.typing_scopes.specs.Tables.{found, with_entry}
use Rattle.typing_scopes.specs.Names.{is_ended}
use Rattle.typing_scopes.specs.Growth.{with_struct}
use Rattle.typing_declarations.specs.declared.structs.Fields.{Fields}
use Rattle.typing_declarations.specs.Rows.{row_if}
use Rattle.typing_declarations.specs.Declarators.{type_of, is_unfit, laid_of}

abbrev pub no_fields : Fields
no_fields = record { members = []; laid = Some (laid 0 1); is_broken = false }

-- Where a member begins, and what stands in the struct with it. A limit is passed where it has no such place.

abbrev pub offset_at : Laid → Laid → Option ℕ
offset_at before member = cond (nat_le (offset_behind before member) largest) (Some (offset_behind before member)) None

abbrev pub laid_at : Laid → Laid → Option Laid
laid_at before member = cond (nat_le (end_behind before member) largest) (Some (laid_behind before member)) None

abbrev pub offset_in : Option Laid → Option Laid → ℕ
offset_in before member = unwrap_or (option_and_then (λ b. option_and_then (offset_at b) member) before) 0

abbrev pub laid_with : Option Laid → Option Laid → Option Laid
laid_with before member = option_and_then (λ b. option_and_then (laid_at b) member) before

-- The rules that a member of this type may break.

-- a name that stands twice in the struct
abbrev pub is_doubled : Fields → Declarator → Bool
is_doubled fields d = is_some (found fields.members d.name.bytes)

-- a type that no object has; a member has a length wherever it has `[ ]`
abbrev pub is_unfit_member : Derived → Declarator → Bool
is_unfit_member t d = is_unfit t || d.is_open

abbrev pub is_flawed : Visible → Fields → Declarator → Derived → Bool
is_flawed scope fields d t = is_unfinished scope.layouts t || (is_doubled fields d || is_unfit_member t d)

abbrev pub field_rows : Visible → Base → Fields → Declarator → Derived → List Row
field_rows scope base fields d t =
    row_if (is_unfinished scope.layouts t) row.Unknown base.at
    ++ row_if (is_doubled fields d) row.Twice d.name.at
    ++ row_if (is_unfit_member t d) row.Kind d.name.at

abbrev pub with_field : Visible → Fields → Declarator → Derived → Fields
with_field scope fields d t =
    record {
      members = with_entry fields.members d.name.bytes (record { ctype = t; offset = offset_in fields.laid (laid_of scope t) });
      laid = laid_with fields.laid (laid_of scope t);
      is_broken = fields.is_broken || is_flawed scope fields d t;
    }

-- the members that one declaration names
abbrev pub with_fields : Visible → Base → Fields → List Declarator → Fields
with_fields scope base fields [] = fields
with_fields scope base fields (d ∷ ds) = with_fields scope base (with_field scope fields d (type_of scope base d)) ds

abbrev pub fields_rows : Visible → Base → Fields → List Declarator → List Row
fields_rows scope base fields [] = []
fields_rows scope base fields (d ∷ ds) =
    field_rows scope base fields d (type_of scope base d) ++ fields_rows scope base (with_field scope fields d (type_of scope base d)) ds

-- all members
abbrev pub with_members : Visible → Fields → List Members → Fields
with_members scope fields [] = fields
with_members scope fields (m ∷ ms) = with_members scope (with_fields scope m.base fields m.fields) ms

abbrev pub members_rows : Visible → Fields → List Members → List Row
members_rows scope fields [] = []
members_rows scope fields (m ∷ ms) = fields_rows scope m.base fields m.fields ++ members_rows scope (with_fields scope m.base fields m.fields) ms

-- the struct of these members

abbrev pub struct_at : Laid → Option Laid
struct_at members = cond (nat_le (struct_size members) largest) (Some (struct_laid members)) None

-- none where a member breaks a rule, and where the struct's size is past the greatest
abbrev pub struct_of_fields : Fields → Option Laid
struct_of_fields fields = cond fields.is_broken None (option_and_then struct_at fields.laid)

abbrev pub is_large_struct : Fields → Bool
is_large_struct fields = not fields.is_broken && is_none (struct_of_fields fields)

abbrev pub struct_rows : Visible → NameAt → List Members → List Row
struct_rows scope tag members =
    row_if (is_ended scope tag.bytes) row.Twice tag.at
    ++ members_rows scope no_fields members
    ++ row_if (is_large_struct (with_members scope no_fields members)) row.Size tag.at

-- what stands behind the struct
abbrev pub struct_behind : Visible → NameAt → List Members → Visible
struct_behind scope tag members =
    let fields = with_members scope no_fields members in with_struct scope tag.bytes fields.members (struct_of_fields fields)
