-- Lists that are gathered item by item, as long as none is missing, and rows of what is converted.
use Rattle.std.specs.Prelude.{ℕ, List, [], ◌∷◌, ◌++◌, Option, Some, None}
use Rattle.std.specs.Option.{option_and_then}
use Rattle.typing_faults.specs.declared.fault.Row.{Row}
use Rattle.typing_faults.specs.declared.fault.TypeKind.{TypeKind}
use Rattle.typing_faults.specs.declared.fault.TypeKind.TheVariants as kind
use Rattle.typing_types.specs.Types.{Derived}
use Rattle.clight_unit.specs.declared.expression.Test.{Test}
use Rattle.clight_unit.specs.declared.statement.Value.{Value}
use Rattle.typing_expressions.specs.declared.node.Node.{Node}
use Rattle.typing_expressions.specs.Uses.{assigned, test_of}

abbrev pub with_next : {A : Type 0} → Option (List A) → Option A → Option (List A)
with_next (Some xs) (Some x) = Some (xs ++ x ∷ [])
with_next (Some xs) None = None
with_next None x = None

abbrev pub row : TypeKind → ℕ → List Row
row k at = record { kind = k; at = at } ∷ []

-- Kind at a place, where there is nothing
abbrev pub kind_unless : {A : Type 0} → ℕ → Option A → List Row
kind_unless at None = row kind.Kind at
kind_unless at (Some x) = []

-- an expression that is assigned to an object of a type, passed for it or returned as it
abbrev pub converted : Derived → Option Node → Option Value
converted to n = option_and_then (assigned to) n

abbrev pub converted_rows : ℕ → Derived → Option Node → List Row
converted_rows at to None = []
converted_rows at to (Some n) = kind_unless at (assigned to n)

-- an expression that is a condition
abbrev pub condition : Option Node → Option Test
condition n = option_and_then test_of n

abbrev pub condition_rows : ℕ → Option Node → List Row
condition_rows at None = []
condition_rows at (Some n) = kind_unless at (test_of n)
