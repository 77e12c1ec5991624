-- Prototypes and the heads of functions (C11, 6.7.6.3 and 6.9.1).
use Rattle.std.specs.Prelude.{ℕ, ◌+◌, Bool, false, not, nat_lt, ◌&&◌, ◌||◌, List, [], ◌∷◌, ◌++◌, map, length, Option, Some, None, is_some, is_none}
use Rattle.std.specs.Option.{option_map_or}
use Rattle.text_grammar.specs.declared.tree.NameAt.{NameAt}
use Rattle.text_grammar.specs.declared.tree.Parameter.{Parameter}
use Rattle.text_grammar.specs.declared.tree.Head.{Head}
use Rattle.typing_types.specs.Types.{Derived, is_of_structs}
use Rattle.typing_types.specs.Same.{same_type}
use Rattle.typing_types.specs.Operators.{is_void}
use Rattle.typing_symbols.specs.Sights.{is_static}
use Rattle.typing_faults.specs.declared.fault.Row.{Row}
use Rattle.typing_faults.specs.declared.fault.TypeKind.TheVariants as row
use Rattle.typing_scopes.specs.declared.entity.Entity.{Entity}
use Rattle.typing_scopes.specs.declared.entity.Entity.TheVariants as entity
use Rattle.typing_scopes.specs.declared.entity.Declared.{Declared}
use Rattle.typing_scopes.specs.declared.entity.Prototype.{Prototype}
use Rattle.typing_scopes.specs.Tables.{found}
use Rattle.typing_scopes.specs.Visible.{Visible}
use Rattle.typing_scopes.specs.Names.{declared_of, plain_of}
use Rattle.typing_scopes.specs.Growth.{with_declared, with_own, outside}
use Rattle.typing_declarations.specs.declared.whole.Whole.{Whole}
use Rattle.typing_declarations.specs.Whole.{symbol_of, has_function}
use Rattle.typing_declarations.specs.Rows.{row_if}
use Rattle.typing_declarations.specs.Reserved.{is_reserved, same_types, breaks_reserve, breaks_main}
use Rattle.typing_declarations.specs.Objects.{was_defined, was_static, same_bool}

abbrev pub parameter_type : Visible → Parameter → Derived
parameter_type scope p = plain_of scope p.base p.stars

abbrev pub prototype_of : Whole → Visible → Head → Prototype
prototype_of whole scope head =
    record { symbol = symbol_of whole head.name.bytes; result = plain_of scope head.base head.stars; parameters = map (parameter_type scope) head.parameters }

abbrev pub same_prototype : Prototype → Prototype → Bool
same_prototype p q = same_type p.result q.result && same_types p.parameters q.parameters

abbrev pub agrees_with : Prototype → Entity → Bool
agrees_with p (entity.Function q) = same_prototype q p
agrees_with p _ = false

-- a later declaration differs in type, or in being static
abbrev pub function_differs_from : Bool → Prototype → Declared → Bool
function_differs_from is_static p d = not (agrees_with p d.entity) || not (same_bool d.is_static is_static)

abbrev pub function_differs : Option Declared → Bool → Prototype → Bool
function_differs old is_static p = option_map_or (function_differs_from is_static p) old false

-- a function whose first declaration is static is defined in the unit
abbrev pub lacks_definition : Whole → Option Declared → Head → Bool
lacks_definition whole old head = is_static head.linkage && (is_none old && not (has_function whole head.name.bytes))

abbrev pub most_parameters : ℕ
most_parameters = 32

-- The rules that a head may break apart from its parameters. `p` is what it says of the function.
abbrev pub head_rows : Whole → Visible → Bool → Head → Prototype → List Row
head_rows whole scope is_definition head p =
    let old = declared_of scope head.name.bytes in
    row_if (lacks_definition whole old head) row.Unknown head.name.at
    ++ row_if (is_definition && was_defined old) row.Twice head.name.at
    ++ row_if (function_differs old (is_static head.linkage) p || is_of_structs p.result) row.Kind head.name.at
    ++ row_if (breaks_reserve is_definition (is_static head.linkage) head.name.bytes p) row.Reserved head.name.at
    ++ row_if (breaks_main (is_static head.linkage) head.name.bytes p) row.MainShape head.name.at
    ++ row_if (nat_lt most_parameters (length head.parameters)) row.Params head.name.at

-- the name of a function from its head on, in its own body too
abbrev pub function_named : Visible → Bool → Head → Prototype → Visible
function_named scope is_definition head p =
    let old = declared_of scope head.name.bytes in
    with_declared scope head.name.bytes (record {
      entity = entity.Function p;
      is_static = was_static old (is_static head.linkage);
      is_defined = was_defined old || is_definition;
    })

-- Parameters.

-- `void` or a struct
abbrev pub is_unfit_parameter : Derived → Bool
is_unfit_parameter t = is_void t || is_of_structs t

-- the rules that a name of a parameter or a local may break apart from its type
abbrev pub own_rows : Visible → NameAt → List Row
own_rows scope name =
    row_if (is_some (found scope.own name.bytes)) row.Twice name.at ++ row_if (is_reserved name.bytes) row.Reserved name.at

abbrev pub parameter_name_rows : Visible → Option NameAt → List Row
parameter_name_rows scope None = []
parameter_name_rows scope (Some name) = own_rows scope name

abbrev pub parameter_rows : Visible → Parameter → List Row
parameter_rows scope p = row_if (is_unfit_parameter (parameter_type scope p)) row.Kind p.base.at ++ parameter_name_rows scope p.name

-- a parameter is the temporary of its number
abbrev pub parameter_named : Visible → ℕ → Option NameAt → Derived → Visible
parameter_named scope number None t = scope
parameter_named scope number (Some name) t = with_own scope name.bytes (entity.Temporary number t)

abbrev pub parameter_behind : Visible → ℕ → Parameter → Visible
parameter_behind scope number p = parameter_named scope number p.name (parameter_type scope p)

-- all parameters from a number on
abbrev pub parameters_behind : Visible → ℕ → List Parameter → Visible
parameters_behind scope number [] = scope
parameters_behind scope number (p ∷ ps) = parameters_behind (parameter_behind scope number p) (number + 1) ps

abbrev pub parameters_rows : Visible → ℕ → List Parameter → List Row
parameters_rows scope number [] = []
parameters_rows scope number (p ∷ ps) = parameter_rows scope p ++ parameters_rows (parameter_behind scope number p) (number + 1) ps

-- Heads as a whole.

abbrev pub named_by : Whole → Visible → Bool → Head → Visible
named_by whole scope is_definition head = function_named (outside scope) is_definition head (prototype_of whole (outside scope) head)

abbrev pub rows_of_head : Whole → Visible → Bool → Head → List Row
rows_of_head whole scope is_definition head =
    head_rows whole (outside scope) is_definition head (prototype_of whole (outside scope) head)
    ++ parameters_rows (named_by whole scope is_definition head) 0 head.parameters

-- behind a head, with its parameters
abbrev pub head_behind : Whole → Visible → Bool → Head → Visible
head_behind whole scope is_definition head = parameters_behind (named_by whole scope is_definition head) 0 head.parameters
