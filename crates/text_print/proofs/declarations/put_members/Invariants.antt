use Rattle.std.proofs.Common.{◌≡◌, ◌++◌, take}
use Rattle.std.specs.List.{flat_map}
use Rattle.text_print.specs.Canonical.{member_tokens}
use Rattle.text_print.proofs.declarations.put_members.Given as goal

abbrev pub invariant-members : goal.invariant-members
invariant-members l = l.out ≡ l.initial.out ++ flat_map member_tokens (take l.member-index l.members)
