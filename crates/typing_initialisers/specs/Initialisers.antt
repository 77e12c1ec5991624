-- What an initialiser gives to an object of file scope, and the rows that it breaks (C11, 6.7.9, of the subset). A scalar takes one
-- expression, which is constant; an array of characters may take a string; an array or a struct takes a list with at most as many
-- items as it has elements or members. The row of an item that does not fit stands at the item's own token. A rule about an item is
-- a rule about its form and the type of what it is for; only whether an expression is constant asks for the type of the expression.
use Rattle.std.specs.Prelude.{ℕ, ◌+◌, cond, List, [], ◌∷◌, ◌++◌, Option, Some, None}
use Rattle.std.specs.Option.{option_map, option_map_or}
use Rattle.text_grammar.specs.declared.tree.Initialiser.{Initialiser}
use Rattle.text_grammar.specs.declared.tree.Initialiser.TheOpen.{Initialiser-F}
use Rattle.text_grammar.specs.declared.tree.Initialiser.TheFolds.{fold-Initialiser}
use Rattle.typing_faults.specs.declared.fault.Row.{Row}
use Rattle.typing_faults.specs.declared.fault.TypeKind.TheVariants as kind
use Rattle.typing_types.specs.Types.{Derived}
use Rattle.typing_types.specs.Operators.{is_scalar}
use Rattle.typing_scopes.specs.Visible.{Visible}
use Rattle.typing_expressions.specs.declared.node.Node.{Node}
use Rattle.typing_expressions.specs.Expressions.{rows, node_of}
use Rattle.typing_expressions.specs.Places.{text_place}
use Rattle.typing_initialisers.specs.declared.slots.Slot.{Slot}
use Rattle.typing_initialisers.specs.declared.slots.Slots.{Slots}
use Rattle.typing_initialisers.specs.Data.{Part, Bytes, part_at}
use Rattle.typing_initialisers.specs.Constants.{constant_of}
use Rattle.typing_initialisers.specs.Slots.{slots_of, slot_in, takes_string, string_bytes}

-- what an initialiser gives, and the rows that it breaks
pub record Fill : Type 0 where
  pub rows : List Row
  pub parts : List Part

-- an item: its own place, the rows that its expressions break whatever it is for, and what it gives to an object of a type at a place
pub record Item : Type 0 where
  pub place : ℕ
  pub inner : List Row
  pub fill : Derived → ℕ → Fill

abbrev pub gives_nothing : List Row → Fill
gives_nothing rows = record { rows = rows; parts = [] }

-- first one, then another
abbrev pub both : Fill → Fill → Fill
both f g = record { rows = f.rows ++ g.rows; parts = f.parts ++ g.parts }

-- the item does not fit
abbrev pub refused : List Row → ℕ → Fill
refused inner place = gives_nothing (inner ++ record { kind = kind.Initialiser; at = place } ∷ [])

abbrev pub given : List Row → ℕ → Option Part → Fill
given inner place (Some p) = record { rows = inner; parts = p ∷ [] }
given inner place None = refused inner place

-- an expression that breaks a rule has no type, and then is not asked whether it is constant
abbrev pub scalar_fill : List Row → ℕ → Option Node → Derived → ℕ → Fill
scalar_fill inner place None t at = gives_nothing inner
scalar_fill inner place (Some n) t at = given inner place (option_map (part_at at) (constant_of t n))

abbrev pub node_fill : List Row → ℕ → Option Node → Derived → ℕ → Fill
node_fill inner place n t at = cond (is_scalar t) (scalar_fill inner place n t at) (refused inner place)

abbrev pub string_fill : ℕ → List ℕ → Derived → ℕ → Fill
string_fill place bytes t at = given [] place (cond (takes_string t bytes) (Some (Bytes at (string_bytes t bytes))) None)

-- an item in its part of the object, or one that is too many
abbrev pub in_slot : Item → Option Slot → Fill
in_slot item (Some s) = item.fill s.ctype s.at
in_slot item None = refused item.inner item.place

abbrev pub items_from : (ℕ → Option Slot) → ℕ → List Item → Fill
items_from slot index [] = gives_nothing []
items_from slot index (x ∷ xs) = both (in_slot x (slot index)) (items_from slot (index + 1) xs)

abbrev pub inner_rows : List Item → List Row
inner_rows [] = []
inner_rows (x ∷ xs) = x.inner ++ inner_rows xs

abbrev pub list_fill : Visible → ℕ → List Item → Derived → ℕ → Fill
list_fill scope place items t at =
    option_map_or (λ (s : Slots). items_from (slot_in scope s) 0 items) (slots_of scope t at) (refused (inner_rows items) place)

abbrev pub item_step : Visible → Initialiser-F Item → Item
item_step scope (Initialiser-F.Expr e) = record { place = text_place e; inner = rows scope e; fill = node_fill (rows scope e) (text_place e) (node_of scope e) }
item_step scope (Initialiser-F.String at bytes) = record { place = at; inner = []; fill = string_fill at bytes }
item_step scope (Initialiser-F.List at items) = record { place = at; inner = inner_rows items; fill = list_fill scope at items }

abbrev pub item_of : Visible → Initialiser → Item
item_of scope = fold-Initialiser Item (item_step scope)

-- what an initialiser gives to an object of this type, which stands at this place of a whole
abbrev pub fills : Visible → Initialiser → Derived → ℕ → Fill
fills scope i = (item_of scope i).fill
