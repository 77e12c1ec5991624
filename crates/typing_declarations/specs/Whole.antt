-- What the whole text of a unit says of a name, wherever it is asked.
use Rattle.std.specs.Prelude.{ℕ, Bool, codes, List, [], ◌∷◌, position, unwrap_or}
use Rattle.std.specs.Str.{bytes_eq}
use Rattle.text_grammar.specs.declared.tree.External.{External}
use Rattle.text_grammar.specs.declared.tree.External.TheVariants as top
use Rattle.typing_symbols.specs.Names.{is_among, with_name}
use Rattle.typing_symbols.specs.Symbols.{symbols_of}
use Rattle.typing_types.specs.declared.class.Base.TheVariants as base
use Rattle.typing_types.specs.Types.{plain}
use Rattle.typing_types.specs.Operators.{int}
use Rattle.typing_scopes.specs.declared.entity.Entity.TheVariants as entity
use Rattle.typing_scopes.specs.declared.entity.Prototype.{Prototype}
use Rattle.typing_scopes.specs.Visible.{Visible}
use Rattle.typing_scopes.specs.Growth.{with_built_in}
use Rattle.typing_declarations.specs.declared.whole.Whole.{Whole}

-- the names of the functions that a unit defines
abbrev pub with_function : List (List ℕ) → External → List (List ℕ)
with_function names (top.Struct tag members) = names
with_function names (top.Objects l t items) = names
with_function names (top.Prototype head) = names
with_function names (top.Function head locals body) = with_name names head.name.bytes

abbrev pub with_functions : List (List ℕ) → List External → List (List ℕ)
with_functions names [] = names
with_functions names (x ∷ xs) = with_functions (with_function names x) xs

abbrev pub whole_of : List External → Whole
whole_of tree = record { symbols = symbols_of tree; functions = with_functions [] tree }

-- the number of a name's symbol. A name without one is used nowhere but under `sizeof`, and its number is not asked for: it is 0
abbrev pub symbol_of : Whole → List ℕ → ℕ
symbol_of whole name = unwrap_or (position (bytes_eq name) whole.symbols.names) 0

-- whether the unit defines a function of this name
abbrev pub has_function : Whole → List ℕ → Bool
has_function whole name = is_among name whole.functions

-- `int getbyte(void)` and `void putbyte(int)` are known without a declaration
abbrev pub getbyte_of : Whole → Prototype
getbyte_of whole = record { symbol = symbol_of whole (codes "getbyte"); result = int; parameters = [] }

abbrev pub putbyte_of : Whole → Prototype
putbyte_of whole = record { symbol = symbol_of whole (codes "putbyte"); result = plain base.Void 0; parameters = int ∷ [] }

abbrev pub with_built_ins : Whole → Visible → Visible
with_built_ins whole scope =
    with_built_in (with_built_in scope (codes "getbyte") (entity.Function (getbyte_of whole))) (codes "putbyte") (entity.Function (putbyte_of whole))
