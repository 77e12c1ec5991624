use Rattle.std.proofs.Common.{List, [], get_or, ap, ◌∙◌}
use Rattle.unit_names.specs.declared.meaning.Meaning.{Meaning}
use Rattle.unit_names.specs.declared.meaning.Meaning.TheVariants.{Nothing}
use Rattle.mean_run.proofs.Tables.{none_or, some_or}
use Rattle.mean_run.proofs.program.Program.callee.Goals as goal

pub returns-in-None : goal.returns-in-None
returns-in-None c = ap (λ (l : List Meaning). get_or l c.args.symbol Nothing) (none_or c.args.self.now.callees c.args.unit [] c.in-None.ensures.value)

pub returns-in-None-get : goal.returns-in-None-get
returns-in-None-get c =
    none_or c.in-Some.callees.now c.args.symbol Nothing c.in-None-get.ensures.value
    ∙ ap (λ (l : List Meaning). get_or l c.args.symbol Nothing) (some_or c.args.self.now.callees c.args.unit c.in-Some.callees.now [] c.in-Some.ensures.value)
