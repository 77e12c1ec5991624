use Rattle.std.proofs.Common.{◌≡◌, ◌++◌, take}
use Rattle.std.specs.List.{flat_map}
use Rattle.typing_tags.specs.Tags.{expr_tags}
use Rattle.typing_tags.proofs.statements.see_arguments.Given as goal

abbrev pub invariant-arguments : goal.invariant-arguments
invariant-arguments l = l.out ≡ l.initial.out ++ flat_map expr_tags (take l.argument-index l.arguments)
