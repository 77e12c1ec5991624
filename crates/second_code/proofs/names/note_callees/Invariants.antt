use Rattle.std.proofs.Common.{◌≡◌, map, drop}
use Rattle.std.specs.Str.{bytes_eq}
use Rattle.indexmap.specs.IndexSet.{insert_all}
use Rattle.second_code.specs.Parts.{uses_from}
use Rattle.second_code.specs.PartSteps.{bytes_of}
use Rattle.second_code.proofs.names.note_callees.Given as goal

abbrev pub invariant-loop-statement : goal.invariant-loop-statement
invariant-loop-statement l =
    insert_all bytes_eq (bytes_of l.names.keys) (map (λ call. call.callee) (uses_from 0 (drop l.statement-index l.body)))
    ≡ insert_all bytes_eq (bytes_of l.fn.names.keys) (map (λ call. call.callee) (uses_from 0 l.body))
