use Rattle.std.proofs.Common.{◌≡◌, drop}
use Rattle.typing_faults.specs.Faults.{told}
use Rattle.typing_declarations.specs.Structs.{with_members, members_rows}
use Rattle.typing_declarations.proofs.structs.add_members.Given as goal

-- those that are left add to the members from here on
abbrev pub invariant-members : goal.invariant-members
invariant-members l = record {
  fields : with_members l.scope l.fields (drop l.list-index l.members) ≡ with_members l.scope l.initial.fields l.members;
  told : told l.faults (members_rows l.scope l.fields (drop l.list-index l.members)) ≡ told l.initial.faults (members_rows l.scope l.initial.fields l.members);
}
