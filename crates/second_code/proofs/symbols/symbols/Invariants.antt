use Rattle.std.proofs.Common.{◌≡◌, ◌++◌, map, drop}
use Rattle.second_code.specs.Parts.{symbol_from}
use Rattle.second_code.specs.PartSteps.{bytes_of, found_at}
use Rattle.second_code.proofs.symbols.symbols.Given as goal

abbrev pub invariant-loop-name : goal.invariant-loop-name
invariant-loop-name l =
    l.symbols ++ map (λ name. symbol_from name (found_at l.definitions name)) (bytes_of (drop l.name-index l.names))
    ≡ map (λ name. symbol_from name (found_at l.definitions name)) (bytes_of l.names)
