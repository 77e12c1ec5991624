use Rattle.std.proofs.Common.{◌≡◌, ◌++◌, take}
use Rattle.std.specs.List.{flat_map}
use Rattle.text_print.specs.Canonical.{external_tokens}
use Rattle.text_print.proofs.externals.put_tree.Given as goal

abbrev pub invariant-externals : goal.invariant-externals
invariant-externals l = l.out ≡ l.initial.out ++ flat_map external_tokens (take l.external-index l.tree)
