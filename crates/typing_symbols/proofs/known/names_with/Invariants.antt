use Rattle.std.proofs.Common.{◌≡◌, [], drop, map, filter}
use Rattle.typing_symbols.specs.Held.{seen_in}
use Rattle.typing_symbols.specs.Names.{with_names}
use Rattle.typing_symbols.specs.Sights.{Seen}
use Rattle.typing_symbols.specs.Symbols.{plays, names_with}
use Rattle.typing_symbols.proofs.known.names_with.Given as goal

-- those that are left are added on from here
abbrev pub invariant-sights : goal.invariant-sights
invariant-sights l =
    with_names l.names (map (λ (s : Seen). s.name) (filter (λ (s : Seen). plays l.role s.how) (seen_in (drop l.sight-index l.sights))))
    ≡ names_with l.role (seen_in l.sights)
