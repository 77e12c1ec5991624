use Rattle.std.proofs.Common.{map}
use Rattle.std.specs.Str.{bytes_eq}
use Rattle.indexmap.specs.IndexSet.{insert_all}
use Rattle.second_code.specs.Parts.{uses_from}
use Rattle.second_code.specs.PartSteps.{bytes_of}
use Rattle.second_code.proofs.NameLemmas.{callees_more}
use Rattle.second_code.proofs.names.note_callees.Goals as goal

pub loop-statement-preserved : goal.loop-statement-preserved
loop-statement-preserved c =
    callees_more (bytes_of c.loop-statement.names.keys) (bytes_of c.note_callee.new.names.keys) (insert_all bytes_eq (bytes_of c.args.names.now.keys) (map (λ call. call.callee) (uses_from 0 c.args.body.now)))
    c.args.body.now c.loop-statement.statement-index c.statement-item.result c.loop-statement-test.true c.statement-item.is c.loop-statement.invariant c.in_ok-note_callee.ensures
