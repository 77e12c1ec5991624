use Rattle.std.proofs.Common.{◌≡◌, drop}
use Rattle.std.specs.Str.{bytes_eq}
use Rattle.indexmap.specs.IndexSet.{insert_all}
use Rattle.second_code.specs.Parts.{named, first_sights}
use Rattle.second_code.specs.PartSteps.{bytes_of}
use Rattle.second_code.proofs.names.first_sights.Given as goal

abbrev pub invariant-loop-item : goal.invariant-loop-item
invariant-loop-item l = insert_all bytes_eq (bytes_of l.names.keys) (named (drop l.item-index l.items)) ≡ first_sights l.items
