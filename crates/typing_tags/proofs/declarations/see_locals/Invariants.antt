use Rattle.std.proofs.Common.{◌≡◌, ◌++◌, take}
use Rattle.std.specs.List.{flat_map}
use Rattle.typing_tags.specs.Tags.{locals_tags}
use Rattle.typing_tags.proofs.declarations.see_locals.Given as goal

abbrev pub invariant-locals : goal.invariant-locals
invariant-locals l = l.out ≡ l.initial.out ++ flat_map locals_tags (take l.list-index l.locals)
