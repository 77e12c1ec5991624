-- A rule that is broken at a place, where it is.
use Rattle.std.specs.Prelude.{ℕ, Bool, cond, List, [], ◌∷◌}
use Rattle.typing_faults.specs.declared.fault.Row.{Row}
use Rattle.typing_faults.specs.declared.fault.TypeKind.{TypeKind}

abbrev pub row_if : Bool → TypeKind → ℕ → List Row
row_if holds kind at = cond holds (record { kind = kind; at = at } ∷ []) []
