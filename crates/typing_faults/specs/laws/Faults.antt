-- What is told of rows one after another.
use Rattle.std.proofs.Common.{◌≡◌, List, [], ◌∷◌, ◌++◌, refl}
use Rattle.std.specs.Prelude.{Option}
use Rattle.typing_faults.specs.declared.fault.Row.{Row}
use Rattle.typing_faults.specs.Faults.{with_row, told}

pub told_append : (r : Option Row) (xs ys : List Row) → told r (xs ++ ys) ≡ told (told r xs) ys
told_append r [] ys = refl
told_append r (x ∷ xs) ys = told_append (with_row r x) xs ys
