use Rattle.std.proofs.Common.{◌≡◌, ◌++◌, take}
use Rattle.std.specs.List.{flat_map}
use Rattle.typing_tags.specs.Tags.{stmt_tags}
use Rattle.typing_tags.proofs.declarations.see_statements.Given as goal

abbrev pub invariant-body : goal.invariant-body
invariant-body l = l.out ≡ l.initial.out ++ flat_map stmt_tags (take l.statement-index l.body)
