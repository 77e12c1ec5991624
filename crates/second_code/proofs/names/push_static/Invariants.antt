use Rattle.std.proofs.Common.{◌≡◌, ◌++◌, filter, drop}
use Rattle.second_code.specs.Parts.{is_static}
use Rattle.second_code.specs.PartSteps.{bytes_of, found_at}
use Rattle.second_code.proofs.names.push_static.Given as goal

abbrev pub invariant-loop-name : goal.invariant-loop-name
invariant-loop-name l =
    bytes_of l.chosen ++ filter (λ name. is_static (found_at l.definitions name)) (bytes_of (drop l.name-index l.names))
    ≡ bytes_of l.fn.chosen ++ filter (λ name. is_static (found_at l.definitions name)) (bytes_of l.names)
