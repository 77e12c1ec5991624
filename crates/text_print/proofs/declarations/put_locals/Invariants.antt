use Rattle.std.proofs.Common.{◌≡◌, ◌++◌, take}
use Rattle.std.specs.List.{flat_map}
use Rattle.text_print.specs.Canonical.{locals_tokens}
use Rattle.text_print.proofs.declarations.put_locals.Given as goal

abbrev pub invariant-locals : goal.invariant-locals
invariant-locals l = l.out ≡ l.initial.out ++ flat_map locals_tokens (take l.list-index l.locals)
