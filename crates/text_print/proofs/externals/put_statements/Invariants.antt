use Rattle.std.proofs.Common.{◌≡◌, ◌++◌, take}
use Rattle.std.specs.List.{flat_map}
use Rattle.text_print.specs.Canonical.{stmt_tokens}
use Rattle.text_print.proofs.externals.put_statements.Given as goal

abbrev pub invariant-body : goal.invariant-body
invariant-body l = l.out ≡ l.initial.out ++ flat_map stmt_tokens (take l.statement-index l.body)
