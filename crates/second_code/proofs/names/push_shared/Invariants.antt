use Rattle.std.proofs.Common.{◌≡◌, ◌++◌, ◌||◌, filter, drop}
use Rattle.std.specs.Prelude.{not, ◌&&◌, is_some}
use Rattle.second_code.specs.Parts.{is_static}
use Rattle.second_code.specs.PartSteps.{bytes_of, found_at, has}
use Rattle.second_code.proofs.names.push_shared.Given as goal

abbrev pub invariant-loop-name : goal.invariant-loop-name
invariant-loop-name l =
    bytes_of l.chosen ++ filter (λ name. not (is_static (found_at l.definitions name)) && (is_some (found_at l.definitions name) || has l.used name)) (bytes_of (drop l.name-index l.names))
    ≡ bytes_of l.fn.chosen ++ filter (λ name. not (is_static (found_at l.definitions name)) && (is_some (found_at l.definitions name) || has l.used name)) (bytes_of l.names)
