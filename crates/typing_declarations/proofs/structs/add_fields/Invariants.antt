use Rattle.std.proofs.Common.{◌≡◌, drop}
use Rattle.typing_faults.specs.Faults.{told}
use Rattle.typing_declarations.specs.Structs.{with_fields, fields_rows}
use Rattle.typing_declarations.proofs.structs.add_fields.Given as goal

-- those that are left add to the members from here on
abbrev pub invariant-declarators : goal.invariant-declarators
invariant-declarators l = record {
  fields : with_fields l.scope l.base l.fields (drop l.declarator-index l.declarators) ≡ with_fields l.scope l.base l.initial.fields l.declarators;
  told : told l.faults (fields_rows l.scope l.base l.fields (drop l.declarator-index l.declarators)) ≡ told l.initial.faults (fields_rows l.scope l.base l.initial.fields l.declarators);
}
