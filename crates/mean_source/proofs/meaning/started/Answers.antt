use Rattle.std.proofs.Common.{◌≡◌, List, Option, IfOk, ap, ◌∙◌, sym, subst}
use Rattle.block_mem.specs.Start.{start}
use Rattle.clight_unit.specs.declared.unit.ClightUnit.{ClightUnit as TypedUnit}
use Rattle.unit_names.specs.declared.meaning.Meaning.{Meaning}
use Rattle.clight_sem.specs.Functions.{all_parts, shown_function, main_name, main_of}
use Rattle.clight_sem.specs.Turns.{entered_main}
use Rattle.mean_run.specs.Processes.{linked_of, BeginsAs}
use Rattle.mean_source.proofs.meaning.started.Goals as goal

pub returns-clause-begun : goal.returns-clause-begun
returns-clause-begun c =
    let p = linked_of c.args.program.now in
    let same = sym c.requires.units in
    let starts = c.in_ok-memory.ensures ∙ ap (λ (units : List TypedUnit). start (all_parts units)) same in
    let main : c.main_of-main.result ≡ main_of p = c.main_of-main.ensures ∙ ap (λ (units : List TypedUnit). shown_function units main_name) same in
    let P : Option Meaning → Type 0 = λ m. IfOk c.begin.result (λ r. BeginsAs (entered_main p m) r) in
    subst P main (c.begin.ensures.begun starts)
