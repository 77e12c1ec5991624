use Rattle.std.proofs.Common.{◌≡◌, ◌++◌, drop}
use Rattle.second_code.specs.Parts.{text_of}
use Rattle.second_code.proofs.text.text.Given as goal

abbrev pub invariant-loop-item : goal.invariant-loop-item
invariant-loop-item l = l.text ++ text_of (drop l.item-index l.items) ≡ text_of l.items
