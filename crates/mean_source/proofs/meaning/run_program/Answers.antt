use Rattle.std.proofs.Common.{Result, Ok, Err, sym, subst}
use Rattle.clight_sem.specs.Functions.{main_of}
use Rattle.clight_sem.specs.Turns.{entered_main}
use Rattle.mean_run.specs.declared.process.Process.{Process}
use Rattle.mean_run.specs.declared.process.Final.{Final}
use Rattle.mean_run.specs.declared.running.MeanEnd.{MeanEnd}
use Rattle.mean_run.specs.Processes.{linked_of, world_of, BeginsAs}
use Rattle.mean_source.specs.declared.meaning.MeanFault.{MeanFault}
use Rattle.mean_source.specs.Means.{Comes, Happens}
use Rattle.mean_source.specs.Programs.{program_after}
use Rattle.mean_source.proofs.Starts.{ends_at_once, ends, fails}
use Rattle.mean_source.proofs.meaning.run_program.Goals as goal

pub returns-in-Err : goal.returns-in-Err
returns-in-Err g c =
    let p = linked_of c.args.program.now in let i = g.S.Source.seen c.args.input.now in let o = g.O.Sink.seen c.args.output.now in
    let B : Result Process Final → Type 0 = λ r. BeginsAs (entered_main p (main_of p)) r in
    let R : MeanEnd → Type 0 = λ e. Comes (program_after p) c.args.steps i o (Ok e) i o × Happens p c.args.steps i o (Ok e) i o in
    subst R (sym c.at_once.ensures) (ends_at_once p c.args.steps i o c.in-Err.how (subst B c.in-Err.is c.in-Ok.ensures.begun))

pub returns-in-Ok-run : goal.returns-in-Ok-run
returns-in-Ok-run g c =
    let p = linked_of c.args.program.now in let i = g.S.Source.seen c.args.input.now in let o = g.O.Sink.seen c.args.output.now in
    let B : Result Process Final → Type 0 = λ r. BeginsAs (entered_main p (main_of p)) r in
    ends p c.args.steps i o (world_of c.in-Ok-begun.process) (subst B c.in-Ok-begun.is c.in-Ok.ensures.begun) c.in-Ok-run.end (world_of c.run.new.process)
    (g.S.Source.seen c.run.new.input) (g.O.Sink.seen c.run.new.output) c.in-Ok-run.ensures

pub returns : goal.returns
returns g c =
    let p = linked_of c.args.program.now in let i = g.S.Source.seen c.args.input.now in let o = g.O.Sink.seen c.args.output.now in
    let i' = g.S.Source.seen c.run.new.input in let o' = g.O.Sink.seen c.run.new.output in
    let B : Result Process Final → Type 0 = λ r. BeginsAs (entered_main p (main_of p)) r in
    let R : MeanFault → Type 0 = λ f. Comes (program_after p) c.args.steps i o (Err f) i' o' × Happens p c.args.steps i o (Err f) i' o' in
    subst R (sym c.of_run.ensures)
    (fails p c.args.steps i o (world_of c.in-Ok-begun.process) (subst B c.in-Ok-begun.is c.in-Ok.ensures.begun) c.in-Err-run.fault (world_of c.run.new.process) i' o' c.in-Err-run.ensures)
