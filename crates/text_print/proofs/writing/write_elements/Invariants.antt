use Rattle.std.proofs.Common.{◌≡◌, ◌++◌, take}
use Rattle.std.specs.List.{flat_map}
use Rattle.text_print.specs.Spelling.{escaped}
use Rattle.text_print.proofs.writing.write_elements.Given as goal

abbrev pub invariant-bytes : goal.invariant-bytes
invariant-bytes l = l.text.items ≡ l.initial.text.items ++ flat_map escaped (take l.byte-index l.bytes)
