-- What stands before a place of a unit, as far as names and types ask for it (C11, 6.2.1 and 6.2.3).
use Rattle.std.specs.Prelude.{ℕ, Bool, List, Option}
use Rattle.typing_types.specs.Laid.{Laid}
use Rattle.typing_scopes.specs.declared.entity.Entity.{Entity}
use Rattle.typing_scopes.specs.declared.entity.Declared.{Declared}
use Rattle.typing_scopes.specs.declared.entity.Member.{Member}

pub record Visible : Type 0 where
  -- the parameters and locals of the function that the place stands in
  pub own : List (List ℕ × Entity)
  -- the names that are declared at file scope
  pub names : List (List ℕ × Declared)
  -- the names that are known without a declaration
  pub built_in : List (List ℕ × Entity)
  -- the tags, and whether the definitions of their structs have ended. A struct goes by the place of its tag among them
  pub tags : List (List ℕ × Bool)
  -- the structs' layouts, where they are known
  pub layouts : List (Option Laid)
  -- the structs' members
  pub members : List (List (List ℕ × Member))
