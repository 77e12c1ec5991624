-- Objects at file scope (C11, 6.7, 6.9.2 and 6.2.2). What an initialiser says beside an array's length is not looked at here.
use Rattle.std.specs.Prelude.{ℕ, ◌+◌, Bool, true, false, not, cond, ◌&&◌, ◌||◌, List, ◌++◌, length, Option, Some, None, unwrap_or, is_none}
use Rattle.std.specs.Option.{option_map_or, option_and_then}
use Rattle.text_grammar.specs.declared.tree.Base.{Base}
use Rattle.text_grammar.specs.declared.tree.Linkage.{Linkage}
use Rattle.text_grammar.specs.declared.tree.Linkage.TheVariants as linkage
use Rattle.text_grammar.specs.declared.tree.Declarator.{Declarator}
use Rattle.text_grammar.specs.declared.tree.ObjectItem.{ObjectItem}
use Rattle.text_grammar.specs.declared.tree.Initialised.{Initialised}
use Rattle.text_grammar.specs.declared.tree.Initialiser.{Initialiser}
use Rattle.text_grammar.specs.declared.tree.Initialiser.TheOpen.{Initialiser-F}
use Rattle.text_grammar.specs.declared.tree.Initialiser.TheFolds.{fold-Initialiser}
use Rattle.typing_types.specs.declared.class.Integer.{Integer}
use Rattle.typing_types.specs.declared.class.Integer.TheVariants as integer
use Rattle.typing_types.specs.Types.{Derived, with_length, length_of, element_of}
use Rattle.typing_types.specs.Sizes.{is_unfinished}
use Rattle.typing_types.specs.Same.{agrees}
use Rattle.typing_types.specs.Operators.{integer_of}
use Rattle.typing_symbols.specs.Sights.{is_static}
use Rattle.typing_faults.specs.declared.fault.Row.{Row}
use Rattle.typing_faults.specs.declared.fault.TypeKind.TheVariants as row
use Rattle.typing_scopes.specs.declared.entity.Entity.{Entity}
use Rattle.typing_scopes.specs.declared.entity.Entity.TheVariants as entity
use Rattle.typing_scopes.specs.declared.entity.Declared.{Declared}
use Rattle.typing_scopes.specs.Visible.{Visible}
use Rattle.typing_scopes.specs.Names.{declared_of}
use Rattle.typing_scopes.specs.Growth.{with_declared}
use Rattle.typing_declarations.specs.declared.whole.Whole.{Whole}
use Rattle.typing_declarations.specs.Whole.{symbol_of}
use Rattle.typing_declarations.specs.Rows.{row_if}
use Rattle.typing_declarations.specs.Sums.{with_maybe_size, is_past_sum}
use Rattle.typing_declarations.specs.Declarators.{is_unfit, is_large, declared_size}
use Rattle.typing_declarations.specs.Reserved.{is_reserved, is_main}

-- The length that an initialiser states of an array of unknown length (C11, 6.7.9): the number of its items, or the string's
-- with its closing zero, which only an array of one-byte elements takes.

abbrev pub is_byte : Option Integer → Bool
is_byte (Some integer.Char) = true
is_byte (Some integer.UnsignedChar) = true
is_byte _ = false

abbrev pub has_bytes : Derived → Bool
has_bytes t = option_map_or (λ e. is_byte (integer_of e)) (element_of t) false

abbrev pub stated_step : Initialiser-F (Derived → Option ℕ) → Derived → Option ℕ
stated_step (Initialiser-F.Expr x) t = None
stated_step (Initialiser-F.String at bytes) t = cond (has_bytes t) (Some (length bytes + 1)) None
stated_step (Initialiser-F.List at items) t = Some (length items)

abbrev pub stated_by : Initialiser → Derived → Option ℕ
stated_by = fold-Initialiser (Derived → Option ℕ) stated_step

abbrev pub stated_length : Option Initialised → Derived → Option ℕ
stated_length None t = None
stated_length (Some i) t = stated_by i.value t

-- the type with the length that is stated, where the declarator leaves it open
abbrev pub stated_type : ObjectItem → Derived → Derived
stated_type item t = cond item.declarator.is_open (option_map_or (λ n. with_length n t) (stated_length item.initialised t) t) t

-- What is known of the name by earlier declarations.

abbrev pub was_defined : Option Declared → Bool
was_defined old = option_map_or (λ (d : Declared). d.is_defined) old false

-- the first declaration says whether it is static
abbrev pub was_static : Option Declared → Bool → Bool
was_static old is_static = option_map_or (λ (d : Declared). d.is_static) old is_static

-- `extern` declares, and each other declaration defines
abbrev pub is_definition : Linkage → Bool
is_definition linkage.Plain = true
is_definition linkage.Static = true
is_definition linkage.Extern = false

abbrev pub object_type : Entity → Option Derived
object_type (entity.Object symbol t) = Some t
object_type _ = None

abbrev pub old_type : Option Declared → Option Derived
old_type old = option_and_then (λ (d : Declared). object_type d.entity) old

abbrev pub same_bool : Bool → Bool → Bool
same_bool true b = b
same_bool false b = not b

-- a later declaration differs in type, or in being static
abbrev pub object_differs_from : Bool → Derived → Declared → Bool
object_differs_from is_static t d =
    not (option_map_or (λ s. agrees s t) (object_type d.entity) false) || not (same_bool d.is_static is_static)

abbrev pub object_differs : Option Declared → Bool → Derived → Bool
object_differs old is_static t = option_map_or (object_differs_from is_static t) old false

-- an array's length is neither written, nor stated by an initialiser, nor that of another unit's definition
abbrev pub lacks_length : Linkage → ObjectItem → Bool
lacks_length l item = item.declarator.is_open && (is_definition l && is_none item.initialised)

-- an array whose length is not known is measured by its elements
abbrev pub measured : ObjectItem → Derived → Derived
measured item t = cond (item.declarator.is_open && is_none (length_of t)) (unwrap_or (element_of t) t) t

-- the sum of the sizes of the objects that are defined so far, with this one
abbrev pub sum_behind : Visible → ℕ → Linkage → Derived → ℕ
sum_behind scope sum l t = cond (is_definition l) (with_maybe_size sum (declared_size scope t)) sum

-- The rules that an object's declarator may break. `t` is its type as it is written, and `s` with the length that is stated.
abbrev pub object_rows : Visible → ℕ → Linkage → Base → ObjectItem → Derived → Derived → List Row
object_rows scope sum l base item t s =
    let name = item.declarator.name in
    let old = declared_of scope name.bytes in
    row_if (is_unfinished scope.layouts t) row.Unknown base.at
    ++ row_if (is_definition l && was_defined old) row.Twice name.at
    ++ row_if (object_differs old (is_static l) s || (is_unfit s || lacks_length l item)) row.Kind name.at
    ++ row_if (is_reserved name.bytes) row.Reserved name.at
    ++ row_if (is_main name.bytes) row.MainShape name.at
    ++ row_if (is_large scope (measured item s) || (is_definition l && is_past_sum (sum_behind scope sum l s))) row.Size name.at

-- The type that a name has from here on: it has the length that this declaration states, or else an earlier one.
abbrev pub joined_with : Derived → Derived → Derived
joined_with t old = cond (is_none (length_of t) && agrees old t) old t

abbrev pub joined : Option Declared → Derived → Derived
joined old t = option_map_or (joined_with t) (old_type old) t

-- from the declarator on, within its own initialiser too
abbrev pub object_named : Whole → Visible → Linkage → Declarator → Derived → Visible
object_named whole scope l d t =
    let old = declared_of scope d.name.bytes in
    with_declared scope d.name.bytes (record {
      entity = entity.Object (symbol_of whole d.name.bytes) (joined old t);
      is_static = was_static old (is_static l);
      is_defined = was_defined old || is_definition l;
    })

-- and behind the initialiser, where its type has the length that this states
abbrev pub object_behind : Whole → Visible → Linkage → Declarator → Derived → Visible
object_behind whole scope l d s = object_named whole scope l d s
