use Rattle.std.proofs.Common.{List, ℕ, sym, ap, subst, ◌∙◌}
use Rattle.std.specs.Prelude.{Err}
use Rattle.elf_file.specs.declared.fault.ElfFault.{ElfFault}
use Rattle.commands.specs.declared.answer.Answer.TheVariants as answer
use Rattle.commands.specs.Doing.{outside}
use Rattle.commands.specs.Steps.{Runs, no_image, no_entry, no_memory, was_run}
use Rattle.commands.proofs.FromMachine.{ended, spent, stuck, read_failed, write_failed, wanted, entry_fault}
use Rattle.commands.proofs.running.run_image.Goals as goal

pub returns-in_default : goal.returns-in_default
returns-in_default g c files = no_memory

pub returns-in-Err-Form : goal.returns-in-Err-Form
returns-in-Err-Form g c files =
    let w = outside files (g.S.Source.seen c.args.input.now) (g.O.Sink.seen c.args.output.now) in
    let P : List ℕ → Type 0 = λ name. Runs c.args.steps c.args.name.now c.args.bytes.now w (answer.ImageForm name) w in
    subst P (sym (c.in-Ok.ensures ∙ c.as_bytes.ensures.value)) (no_image (c.in-Err-Form.ensures.form (ap (λ (e : ElfFault). Err e) c.in-Err-Form.field-0-is)))

pub returns-in-Err-Memory : goal.returns-in-Err-Memory
returns-in-Err-Memory g c files = no_memory

pub returns-in-Err-Entry : goal.returns-in-Err-Entry
returns-in-Err-Entry g c files =
    let w = outside files (g.S.Source.seen c.args.input.now) (g.O.Sink.seen c.args.output.now) in
    let P : List ℕ → Type 0 = λ name. Runs c.args.steps c.args.name.now c.args.bytes.now w (answer.ImageEntry name) w in
    subst P (sym (c.in-Ok.ensures ∙ c.as_bytes.ensures.value))
    (no_entry c.in-Ok-read_image.image c.in-Ok-read_image.ensures.ok (entry_fault c.in-Ok-read_image.image c.in-Err-Entry.field-0 c.in-Err-Entry.field-0-is c.in-Err-Entry.ensures.err))

pub returns-in-Err-Memory-load : goal.returns-in-Err-Memory-load
returns-in-Err-Memory-load g c files = no_memory

pub returns-in-Ended : goal.returns-in-Ended
returns-in-Ended g c files =
    let ok = c.in-Ok-load.ensures.ok in let image = c.in-Ok-read_image.image in
    was_run image c.in-Ok-read_image.ensures.ok ok.1 (answer.Ended c.in-Ended.status) _ (ended image files c.args.steps _ _ _ _ _ _ ok.0 c.in-Ended.status c.in-Ended.ensures.runs)

pub returns-in-Spent : goal.returns-in-Spent
returns-in-Spent g c files =
    let ok = c.in-Ok-load.ensures.ok in let image = c.in-Ok-read_image.image in
    was_run image c.in-Ok-read_image.ensures.ok ok.1 answer.Spent _ (spent image files c.args.steps _ _ _ _ _ _ ok.0 c.in-Spent.ensures.runs)

pub returns-in-Stuck : goal.returns-in-Stuck
returns-in-Stuck g c files =
    let ok = c.in-Ok-load.ensures.ok in let image = c.in-Ok-read_image.image in
    was_run image c.in-Ok-read_image.ensures.ok ok.1 (answer.Stuck c.in-Stuck.eip c.in-Stuck.cause) _ (stuck image files c.args.steps _ _ _ _ _ _ ok.0 c.in-Stuck.eip c.in-Stuck.cause c.in-Stuck.ensures.runs)

pub returns-in-Read : goal.returns-in-Read
returns-in-Read g c files =
    let ok = c.in-Ok-load.ensures.ok in let image = c.in-Ok-read_image.image in
    was_run image c.in-Ok-read_image.ensures.ok ok.1 answer.ReadFault _ (read_failed image files c.args.steps _ _ _ _ _ _ ok.0 c.in-Read.ensures.runs)

pub returns-in-Write : goal.returns-in-Write
returns-in-Write g c files =
    let ok = c.in-Ok-load.ensures.ok in let image = c.in-Ok-read_image.image in
    was_run image c.in-Ok-read_image.ensures.ok ok.1 answer.WriteFault _ (write_failed image files c.args.steps _ _ _ _ _ _ ok.0 c.in-Write.ensures.runs)

pub returns : goal.returns
returns g c files =
    let ok = c.in-Ok-load.ensures.ok in let image = c.in-Ok-read_image.image in
    was_run image c.in-Ok-read_image.ensures.ok ok.1 answer.Memory _ (wanted image files c.args.steps _ _ _ _ _ _ ok.0 c.in-Memory.ensures.runs)
