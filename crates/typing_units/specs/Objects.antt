-- The objects of file scope: the rows that their declarators and initialisers break, what is visible behind them, and what they are
-- in the typed unit (C11, 6.7, 6.7.9 and 6.9.2, of the subset).
use Rattle.std.specs.Prelude.{ℕ, ◌+◌, Bool, false, not, cond, nat_lt, ◌&&◌, ◌==◌, List, [], ◌∷◌, ◌++◌, map, slice_get, Option, unwrap_or}
use Rattle.std.specs.Option.{option_map_or}
use Rattle.cc_base.specs.declared.face.GlobalPart.{GlobalPart}
use Rattle.cc_base.specs.declared.face.WordUse.{WordUse}
use Rattle.text_grammar.specs.declared.tree.Base.{Base}
use Rattle.text_grammar.specs.declared.tree.Linkage.{Linkage}
use Rattle.text_grammar.specs.declared.tree.Declarator.{Declarator}
use Rattle.text_grammar.specs.declared.tree.ObjectItem.{ObjectItem}
use Rattle.typing_faults.specs.declared.fault.Row.{Row}
use Rattle.typing_faults.specs.declared.fault.TypeKind.TheVariants as kind
use Rattle.typing_types.specs.Types.{Derived}
use Rattle.typing_types.specs.Laid.{Laid}
use Rattle.typing_symbols.specs.Table.{Table}
use Rattle.typing_scopes.specs.Visible.{Visible}
use Rattle.typing_nodes.specs.Nodes.{told_nodes, object_nodes}
use Rattle.typing_declarations.specs.declared.whole.Whole.{Whole}
use Rattle.typing_declarations.specs.Whole.{symbol_of}
use Rattle.typing_declarations.specs.Rows.{row_if}
use Rattle.typing_declarations.specs.Declarators.{type_of, laid_of}
use Rattle.typing_declarations.specs.Objects.{is_definition, stated_type, object_rows, object_named, object_behind, sum_behind}
use Rattle.typing_initialisers.specs.declared.data.Data.{Data}
use Rattle.typing_initialisers.specs.declared.data.Pointed.{Pointed}
use Rattle.typing_initialisers.specs.Objects.{initial_rows, initial_data}
use Rattle.typing_units.specs.declared.walk.Walk.{Walk}

-- so many nodes a unit has at most
abbrev pub most_nodes : ℕ
most_nodes = 65536

-- the unit's nodes through a declarator or a function
abbrev pub nodes_rows : ℕ → ℕ → List Row
nodes_rows nodes at = row_if (nat_lt most_nodes nodes) kind.Nodes at

-- `const` before the type is that of the object where its declarator has no star
abbrev pub is_writable : Base → Declarator → Bool
is_writable base d = not (base.is_const && d.stars == 0)

abbrev pub is_local_symbol : Table → ℕ → Bool
is_local_symbol symbols number = nat_lt number symbols.locals

abbrev pub name_of : Table → ℕ → List ℕ
name_of symbols number = unwrap_or (slice_get symbols.names number) []

abbrev pub word_use : Table → Pointed → WordUse
word_use symbols p = record { offset = p.offset; name = name_of symbols p.to.symbol; plus = p.to.plus }

-- an object in the typed unit. It has a size, where no rule is broken
abbrev pub global_part : Whole → Base → Declarator → Option Laid → Data → GlobalPart
global_part whole base d shape content =
    record {
      name = d.name.bytes;
      local = is_local_symbol whole.symbols (symbol_of whole d.name.bytes);
      writable = is_writable base d;
      size = option_map_or (λ (s : Laid). s.size) shape 0;
      align = option_map_or (λ (s : Laid). s.align) shape 1;
      bytes = content.bytes;
      uses = map (word_use whole.symbols) content.words;
      shared = false;
    }

-- One declarator. Its initialiser sees its name.

abbrev pub item_type : Visible → Base → ObjectItem → Derived
item_type scope base item = type_of scope base item.declarator

abbrev pub item_stated : Visible → Base → ObjectItem → Derived
item_stated scope base item = stated_type item (item_type scope base item)

abbrev pub item_named : Whole → Visible → Linkage → Base → ObjectItem → Visible
item_named whole scope l base item = object_named whole scope l item.declarator (item_type scope base item)

abbrev pub item_initial_rows : Whole → Visible → Linkage → Base → ObjectItem → List Row
item_initial_rows whole scope l base item =
    initial_rows (item_named whole scope l base item) l (item_stated scope base item) item.initialised

abbrev pub item_data : Whole → Visible → Linkage → Base → ObjectItem → Data
item_data whole scope l base item = initial_data (item_named whole scope l base item) (item_stated scope base item) item.initialised

abbrev pub nodes_behind : Walk → ObjectItem → ℕ
nodes_behind walk item = told_nodes (walk.nodes + object_nodes item)

abbrev pub item_rows : Whole → Linkage → Base → Walk → ObjectItem → List Row
item_rows whole l base walk item =
    object_rows walk.scope walk.sum l base item (item_type walk.scope base item) (item_stated walk.scope base item)
    ++ (item_initial_rows whole walk.scope l base item
    ++ nodes_rows (nodes_behind walk item) item.declarator.name.at)

abbrev pub item_part : Whole → Linkage → Base → Walk → ObjectItem → GlobalPart
item_part whole l base walk item =
    global_part whole base item.declarator (laid_of walk.scope (item_stated walk.scope base item)) (item_data whole walk.scope l base item)

-- `extern` defines no object
abbrev pub with_global : Linkage → List GlobalPart → GlobalPart → List GlobalPart
with_global l globals part = cond (is_definition l) (globals ++ part ∷ []) globals

abbrev pub item_behind : Whole → Linkage → Base → Walk → ObjectItem → Walk
item_behind whole l base walk item =
    record walk {
      scope = object_behind whole (item_named whole walk.scope l base item) l item.declarator (item_stated walk.scope base item);
      sum = sum_behind walk.scope walk.sum l (item_stated walk.scope base item);
      nodes = nodes_behind walk item;
      globals = with_global l walk.globals (item_part whole l base walk item);
    }

-- The declarators of one declaration

abbrev pub items_rows : Whole → Linkage → Base → Walk → List ObjectItem → List Row
items_rows whole l base walk [] = []
items_rows whole l base walk (x ∷ xs) = item_rows whole l base walk x ++ items_rows whole l base (item_behind whole l base walk x) xs

abbrev pub items_behind : Whole → Linkage → Base → Walk → List ObjectItem → Walk
items_behind whole l base walk [] = walk
items_behind whole l base walk (x ∷ xs) = items_behind whole l base (item_behind whole l base walk x) xs
