use Rattle.std.proofs.Common.{◌≡◌, drop}
use Rattle.typing_symbols.specs.Sights.{hidden_by}
use Rattle.typing_symbols.proofs.declarations.hide_parameters.Given as goal

-- those that are left hide on from here
abbrev pub invariant-parameters : goal.invariant-parameters
invariant-parameters l = hidden_by l.hidden (drop l.parameter-index l.parameters) ≡ hidden_by l.initial.hidden l.parameters
