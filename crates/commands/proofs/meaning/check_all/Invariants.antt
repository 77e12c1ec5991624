use Rattle.std.proofs.Common.{drop}
use Rattle.cc_base.specs.Seen.{SourceSeen, SinkSeen}
use Rattle.command_words.specs.Orders.{texts}
use Rattle.commands.specs.Doing.{outside}
use Rattle.commands.specs.Meanings.{Checks}
use Rattle.commands.proofs.EachSteps.{Going}
use Rattle.commands.proofs.meaning.check_all.Given as goal

abbrev pub invariant-loop-name : goal.invariant-loop-name
invariant-loop-name g l = (input : SourceSeen) (output : SinkSeen)
    → Going Checks (texts l.names) (outside (g.F.Files.seen l.fn.files) input output) (drop l.name-index (texts l.names)) l.units (outside (g.F.Files.seen l.files) input output)
