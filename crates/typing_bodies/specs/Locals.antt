-- The locals of a function, one after another: the rows that they break, what is visible behind them, and what they come to in
-- the typed unit (C11, 6.2.1, 6.2.4 and 6.7.9, of the subset).
use Rattle.std.specs.Prelude.{ℕ, Bool, true, false, List, [], ◌∷◌, ◌++◌, Option, Some, None, unwrap_or}
use Rattle.std.specs.Option.{option_map}
use Rattle.text_grammar.specs.declared.tree.Base.{Base}
use Rattle.text_grammar.specs.declared.tree.LocalValue.{LocalValue}
use Rattle.text_grammar.specs.declared.tree.LocalItem.{LocalItem}
use Rattle.text_grammar.specs.declared.tree.Locals.{Locals}
use Rattle.typing_faults.specs.declared.fault.Row.{Row}
use Rattle.typing_types.specs.Types.{Derived}
use Rattle.typing_scopes.specs.Visible.{Visible}
use Rattle.clight_unit.specs.declared.expression.Place.TheVariants as place
use Rattle.clight_unit.specs.declared.statement.Statement.{Statement}
use Rattle.clight_unit.specs.declared.statement.Statement.TheVariants as typed
use Rattle.typing_expressions.specs.declared.node.Form.{Form}
use Rattle.typing_expressions.specs.declared.node.Form.TheVariants as form
use Rattle.typing_expressions.specs.declared.node.Node.{Node}
use Rattle.typing_declarations.specs.declared.locals.Frame.{Frame}
use Rattle.typing_declarations.specs.Declarators.{type_of, declared_size}
use Rattle.typing_declarations.specs.Locals.{local_rows, local_named, frame_behind}
use Rattle.typing_statements.specs.Gathering.{with_next}
use Rattle.typing_statements.specs.Assignments.{initialised, initialised_rows}
use Rattle.typing_bodies.specs.declared.prologue.Prologue.{Prologue}

-- what is visible at a place of a function, and what the locals before it come to
pub record Opened : Type 0 where
  pub visible : Visible
  pub prologue : Prologue

abbrev pub opened : Visible → Prologue → Opened
opened visible prologue = record { visible = visible; prologue = prologue }

-- a local as its initialiser's target: a temporary or a block, by the next number
abbrev pub local_form : Frame → Bool → Form
local_form frame true = form.Temporary frame.temporaries
local_form frame false = form.Place (place.Local frame.blocks)

abbrev pub local_node : Frame → Bool → Derived → Node
local_node frame is_register t = record { ctype = t; is_null = false; form = local_form frame is_register }

-- the initialiser of a local that is this node, which its name is visible in

abbrev pub value_rows : Visible → Node → Option LocalValue → List Row
value_rows scope n None = []
value_rows scope n (Some v) = initialised_rows scope v.at n v.value

abbrev pub with_value : Visible → Node → Option (List Statement) → Option LocalValue → Option (List Statement)
with_value scope n values None = values
with_value scope n values (Some v) = with_next values (option_map (λ a. typed.Initialise a) (initialised scope n v.value))

-- a local that is not `register` is a block of its size
abbrev pub with_block : Visible → Bool → Derived → List ℕ → List ℕ
with_block scope true t sizes = sizes
with_block scope false t sizes = sizes ++ unwrap_or (declared_size scope t) 0 ∷ []

-- One local

abbrev pub item_type : Visible → Base → LocalItem → Derived
item_type scope base item = type_of scope base item.declarator

abbrev pub item_named : Opened → Bool → Base → LocalItem → Visible
item_named o is_register base item = local_named o.visible o.prologue.frame is_register item.declarator (item_type o.visible base item)

abbrev pub item_node : Opened → Bool → Base → LocalItem → Node
item_node o is_register base item = local_node o.prologue.frame is_register (item_type o.visible base item)

abbrev pub item_rows : Opened → Bool → Base → LocalItem → List Row
item_rows o is_register base item =
    local_rows o.visible o.prologue.frame.sum is_register base item.declarator (item_type o.visible base item)
    ++ value_rows (item_named o is_register base item) (item_node o is_register base item) item.value

abbrev pub item_opened : Opened → Bool → Base → LocalItem → Prologue
item_opened o is_register base item =
    record {
      frame = frame_behind o.visible o.prologue.frame is_register (item_type o.visible base item);
      sizes = with_block o.visible is_register (item_type o.visible base item) o.prologue.sizes;
      values = with_value (item_named o is_register base item) (item_node o is_register base item) o.prologue.values item.value;
    }

abbrev pub item_behind : Opened → Bool → Base → LocalItem → Opened
item_behind o is_register base item = opened (item_named o is_register base item) (item_opened o is_register base item)

-- The locals that one declaration names

abbrev pub list_rows : Opened → Bool → Base → List LocalItem → List Row
list_rows o is_register base [] = []
list_rows o is_register base (x ∷ xs) = item_rows o is_register base x ++ list_rows (item_behind o is_register base x) is_register base xs

abbrev pub list_behind : Opened → Bool → Base → List LocalItem → Opened
list_behind o is_register base [] = o
list_behind o is_register base (x ∷ xs) = list_behind (item_behind o is_register base x) is_register base xs

-- All locals

abbrev pub locals_rows : Opened → List Locals → List Row
locals_rows o [] = []
locals_rows o (l ∷ ls) = list_rows o l.is_register l.base l.items ++ locals_rows (list_behind o l.is_register l.base l.items) ls

abbrev pub locals_behind : Opened → List Locals → Opened
locals_behind o [] = o
locals_behind o (l ∷ ls) = locals_behind (list_behind o l.is_register l.base l.items) ls
