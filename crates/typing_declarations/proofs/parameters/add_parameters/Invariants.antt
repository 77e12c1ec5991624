use Rattle.std.proofs.Common.{◌≡◌, drop}
use Rattle.typing_faults.specs.Faults.{told}
use Rattle.typing_declarations.specs.Functions.{parameters_behind, parameters_rows}
use Rattle.typing_declarations.proofs.parameters.add_parameters.Given as goal

-- those that are left are added from here on
abbrev pub invariant-parameters : goal.invariant-parameters
invariant-parameters l = record {
  number : l.number ≡ l.parameter-index;
  scope : parameters_behind l.scope l.number (drop l.parameter-index l.parameters) ≡ parameters_behind l.initial.scope 0 l.parameters;
  told : told l.faults (parameters_rows l.scope l.number (drop l.parameter-index l.parameters)) ≡ told l.initial.faults (parameters_rows l.initial.scope 0 l.parameters);
}
