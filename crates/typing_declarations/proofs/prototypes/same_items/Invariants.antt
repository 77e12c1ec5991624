use Rattle.std.proofs.Common.{◌≡◌, drop}
use Rattle.typing_declarations.specs.Reserved.{same_types}
use Rattle.typing_declarations.proofs.prototypes.same_items.Given as goal

-- what is left decides
abbrev pub invariant-types : goal.invariant-types
invariant-types l = same_types (drop l.place l.left) (drop l.place l.right) ≡ same_types l.left l.right
