use Rattle.std.proofs.Common.{List, ℕ, drop}
use Rattle.cc_base.specs.Seen.{SourceSeen, SinkSeen}
use Rattle.command_words.specs.Commands.{object_name}
use Rattle.command_words.specs.Orders.{texts}
use Rattle.commands.specs.Doing.{outside}
use Rattle.commands.specs.Steps.{CompilesTo}
use Rattle.commands.proofs.EachSteps.{Going}
use Rattle.commands.proofs.compiling.compile_all.Given as goal

abbrev pub invariant-loop-index : goal.invariant-loop-index
invariant-loop-index g l = (input : SourceSeen) (output : SinkSeen)
    → Going (λ (unit : List ℕ). CompilesTo unit (object_name unit)) (texts l.units) (outside (g.F.Files.seen l.fn.files) input output) (drop l.index (texts l.units)) l.contents (outside (g.F.Files.seen l.files) input output)
