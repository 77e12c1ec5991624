use Rattle.std.proofs.Common.{◌≡◌, drop}
use Rattle.typing_symbols.specs.Held.{seen_in}
use Rattle.typing_symbols.specs.Names.{with_names}
use Rattle.typing_symbols.specs.Symbols.{is_local, names_that}
use Rattle.typing_symbols.proofs.finding.add_locals.Given as goal

-- those that are left are added on from here
abbrev pub invariant-sights : goal.invariant-sights
invariant-sights l = with_names l.names (names_that (is_local l.known) (seen_in (drop l.sight-index l.sights))) ≡ with_names l.initial.names (names_that (is_local l.known) (seen_in l.sights))
