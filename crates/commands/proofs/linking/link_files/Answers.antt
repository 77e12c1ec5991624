use Rattle.std.proofs.Common.{List, ℕ, sym, subst}
use Rattle.std.specs.Prelude.{Result}
use Rattle.command_words.specs.Orders.{texts}
use Rattle.commands.specs.declared.answer.Answer.{Answer}
use Rattle.commands.specs.Steps.{LinkedFrom}
use Rattle.commands.proofs.EachSteps.{handed_on}
use Rattle.commands.proofs.WholeLinking.{files_of, linked_image, from_read, from_fault}
use Rattle.commands.proofs.linking.link_files.Goals as goal

pub returns-in_err-objects : goal.returns-in_err-objects
returns-in_err-objects c =
    let R : Result (List ℕ) Answer → Type 0 = λ r. LinkedFrom (texts c.args.names.now) c.args.files.now r in
    subst R (sym (handed_on c.from_residual.result _ c.from_residual.ensures)) (from_read (texts c.args.names.now) c.args.files.now _ c.in_err-objects.ensures)

pub returns-in-Ok : goal.returns-in-Ok
returns-in-Ok c =
    let names = texts c.args.names.now in let files = c.args.files.now in
    let are = files_of names files c.in_ok-objects.objects c.in_ok-objects.ensures in
    linked_image names files c.in_ok-objects.objects c.in-Ok.image c.image_file.result are c.in-Ok.ensures.linked c.in-Ok.ensures.no_fault c.in-Ok.ensures.well_formed c.image_file.ensures.entry c.image_file.ensures.written c.image_file.ensures.memory

pub returns : goal.returns
returns c =
    let names = texts c.args.names.now in let files = c.args.files.now in
    let are = files_of names files c.in_ok-objects.objects c.in_ok-objects.ensures in
    from_fault names files c.in_ok-objects.objects _ are c.in_ok-told-in-Err.ensures.told
