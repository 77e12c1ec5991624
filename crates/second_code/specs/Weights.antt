-- A bound of what the object of a unit holds: what its names take in a table of names, and a little for each statement.
use Rattle.std.specs.Prelude.{ℕ, ◌+◌, ◌≤◌, List, length, Option, Some, None}
use Rattle.std.specs.List.{sum_by}
use Rattle.second_form.specs.declared.second_items.SmallStmt.{SmallStmt}
use Rattle.second_form.specs.declared.second_items.SmallStmt.TheVariants.{Put, Call, Return}
use Rattle.second_form.specs.declared.second_items.Item.{Item}

abbrev pub statement_weight : SmallStmt → ℕ
statement_weight (Put n) = 8
statement_weight (Call name) = length name + 1
statement_weight (Return n) = 1

abbrev pub body_weight : Option (List SmallStmt) → ℕ
body_weight None = 0
body_weight (Some statements) = sum_by statement_weight statements

abbrev pub item_weight : Item → ℕ
item_weight item = length item.name + 1 + body_weight item.body

abbrev pub unit_weight : List Item → ℕ
unit_weight items = sum_by item_weight items

-- no text of a unit weighs more: it has at most so many bytes
abbrev pub most_weight : ℕ
most_weight = 1048576

abbrev pub IsLight : List Item → Type 0
IsLight items = unit_weight items ≤ most_weight
