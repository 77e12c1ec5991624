use Rattle.std.proofs.Common.{[]}
use Rattle.mean_run.proofs.Tables.{none_or}
use Rattle.mean_run.proofs.program.Program.objects.Goals as goal

pub returns-in-None : goal.returns-in-None
returns-in-None c = none_or c.args.self.now.objects c.args.unit [] c.in-None.ensures.value
