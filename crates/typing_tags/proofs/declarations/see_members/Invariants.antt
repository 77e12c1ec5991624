use Rattle.std.proofs.Common.{◌≡◌, ◌++◌, take}
use Rattle.std.specs.List.{flat_map}
use Rattle.typing_tags.specs.Tags.{members_tags}
use Rattle.typing_tags.proofs.declarations.see_members.Given as goal

abbrev pub invariant-members : goal.invariant-members
invariant-members l = l.out ≡ l.initial.out ++ flat_map members_tags (take l.list-index l.members)
