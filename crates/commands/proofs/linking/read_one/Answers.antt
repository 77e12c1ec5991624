use Rattle.std.proofs.Common.{ap, ◌∙◌}
use Rattle.std.specs.Prelude.{Err}
use Rattle.elf_file.specs.declared.fault.ElfFault.{ElfFault}
use Rattle.commands.specs.LinkingSteps.{is_object, is_none, no_memory}
use Rattle.commands.proofs.linking.read_one.Goals as goal

pub returns-in-Ok : goal.returns-in-Ok
returns-in-Ok c = let ok = c.in-Ok.ensures.ok in is_object c.in-Ok.view (record { parts = ok.0; file_of = ok.1; is = ok.2 })

pub returns-in-Ok-from_slice : goal.returns-in-Ok-from_slice
returns-in-Ok-from_slice c =
    is_none c.in-Ok-from_slice.which (c.in-Ok-from_slice.ensures ∙ c.as_bytes.ensures.value) (c.in-Err-Form.ensures.form (ap (λ (e : ElfFault). Err e) c.in-Err-Form.field-0-is))

pub returns-in-Err : goal.returns-in-Err
returns-in-Err c = no_memory

pub returns-in-Err-Memory : goal.returns-in-Err-Memory
returns-in-Err-Memory c = no_memory
