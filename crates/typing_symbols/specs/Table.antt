-- The symbols of a unit, as contracts see them.
use Rattle.std.specs.Prelude.{ℕ, List}

-- their names in the order of the symbol table, the names that the unit defines, and how many of the symbols are local: the first
pub record Table : Type 0 where
  pub names : List (List ℕ)
  pub defined : List (List ℕ)
  pub locals : ℕ
