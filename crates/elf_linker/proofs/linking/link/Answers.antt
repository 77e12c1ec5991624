use Rattle.std.proofs.Common.{◌≡◌, ◌≢◌, [], ◌∷◌, ◌++◌, None, Some, List, ℕ, IfOk, ◌∙◌, sym, ap, subst}
use Rattle.std.specs.Prelude.{IfErr, Err}
use Rattle.elf_file.specs.declared.fault.ElfFault.{ElfFault}
use Rattle.elf_file.specs.Object.{Object}
use Rattle.elf_file.specs.Read.{IsFileOf}
use Rattle.elf_linker.specs.Runtime.{runtime, with_runtime}
use Rattle.elf_linker.specs.Linked.{Linked}
use Rattle.elf_linker.specs.Names.{link_fault}
use Rattle.elf_linker.specs.declared.fault.LinkFault.TheVariants.{Memory}
use Rattle.elf_linker.proofs.RuntimeFits.{runtime_file}
use Rattle.elf_linker.proofs.WholeLinking.{are_objects}
use Rattle.elf_linker.proofs.linking.link.Goals as goal

pub unreachable-requires : goal.unreachable-requires
unreachable-requires c =
    let F : List ℕ → Type 0 = λ file. IsFileOf runtime file in
    c.in-Err-Form.ensures.form (ap (λ (e : ElfFault). Err e) c.in-Err-Form.field-0-is) runtime (subst F (sym c.as_slice.ensures.value) (runtime_file c.in_ok-parts.parts c.in_ok-file.file.items c.in_ok-parts.ensures.runtime c.in_ok-file.ensures))

pub new-requires : goal.new-requires
new-requires c =
    let ok = c.in-Ok.ensures.ok in
    are_objects c.as_slice-2.result.now c.in-Ok.runtime c.as_slice-2.ensures.are (record { parts = ok.0; well_formed = ok.1.well_formed; in_range = ok.1.in_range; only_text = ok.1.only_text; is = ok.2 })

pub link_all-requires-clause-runtime : goal.link_all-requires-clause-runtime
link_all-requires-clause-runtime c =
    let F : List ℕ → Type 0 = λ file. IsFileOf runtime file in
    let view = c.in-Ok.ensures.back runtime (subst F (sym c.as_slice.ensures.value) (runtime_file c.in_ok-parts.parts c.in_ok-file.file.items c.in_ok-parts.ensures.runtime c.in_ok-file.ensures)) in
    record { given = c.as_slice-2.result.now; is = c.new.ensures ∙ ap (λ (o : Object). c.as_slice-2.result.now ++ o ∷ []) view }

pub returns-clause-linked : goal.returns-clause-linked
returns-clause-linked c =
    let F : List ℕ → Type 0 = λ file. IsFileOf runtime file in
    let view = c.in-Ok.ensures.back runtime (subst F (sym c.as_slice.ensures.value) (runtime_file c.in_ok-parts.parts c.in_ok-file.file.items c.in_ok-parts.ensures.runtime c.in_ok-file.ensures)) in
    let all = c.new.ensures ∙ ap (λ (o : Object). c.as_slice-2.result.now ++ o ∷ []) view ∙ ap (λ (os : List Object). with_runtime os) c.as_slice-2.ensures.objects in
    let P : List Object → Type 0 = λ os. IfOk c.link_all.result (λ image. Linked os image) in
    subst P all c.link_all.ensures.linked

pub returns-clause-no_fault : goal.returns-clause-no_fault
returns-clause-no_fault c =
    let F : List ℕ → Type 0 = λ file. IsFileOf runtime file in
    let view = c.in-Ok.ensures.back runtime (subst F (sym c.as_slice.ensures.value) (runtime_file c.in_ok-parts.parts c.in_ok-file.file.items c.in_ok-parts.ensures.runtime c.in_ok-file.ensures)) in
    let all = c.new.ensures ∙ ap (λ (o : Object). c.as_slice-2.result.now ++ o ∷ []) view ∙ ap (λ (os : List Object). with_runtime os) c.as_slice-2.ensures.objects in
    let P : List Object → Type 0 = λ os. IfOk c.link_all.result (λ image. link_fault os ≡ None) in
    subst P all c.link_all.ensures.no_fault

pub returns-clause-fault : goal.returns-clause-fault
returns-clause-fault c =
    let F : List ℕ → Type 0 = λ file. IsFileOf runtime file in
    let view = c.in-Ok.ensures.back runtime (subst F (sym c.as_slice.ensures.value) (runtime_file c.in_ok-parts.parts c.in_ok-file.file.items c.in_ok-parts.ensures.runtime c.in_ok-file.ensures)) in
    let all = c.new.ensures ∙ ap (λ (o : Object). c.as_slice-2.result.now ++ o ∷ []) view ∙ ap (λ (os : List Object). with_runtime os) c.as_slice-2.ensures.objects in
    let P : List Object → Type 0 = λ os. IfErr c.link_all.result (λ fault. fault ≢ Memory → link_fault os ≡ Some fault) in
    subst P all c.link_all.ensures.fault
