use Rattle.std.proofs.Common.{◌≡◌, take}
use Rattle.std.specs.List.{flat_map}
use Rattle.typing_tags.specs.Tags.{external_tags}
use Rattle.typing_tags.proofs.declarations.tags.Given as goal

abbrev pub invariant-externals : goal.invariant-externals
invariant-externals l = l.out ≡ flat_map external_tags (take l.external-index l.tree)
