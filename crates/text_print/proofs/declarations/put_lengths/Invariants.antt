use Rattle.std.proofs.Common.{◌≡◌, ◌++◌, take}
use Rattle.std.specs.List.{flat_map}
use Rattle.text_print.specs.Canonical.{length_tokens}
use Rattle.text_print.proofs.declarations.put_lengths.Given as goal

abbrev pub invariant-lengths : goal.invariant-lengths
invariant-lengths l = l.out ≡ l.initial.out ++ flat_map length_tokens (take l.length-index l.lengths)
