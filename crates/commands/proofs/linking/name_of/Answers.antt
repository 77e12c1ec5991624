use Rattle.std.proofs.Common.{◌≡◌, ◌<◌, ◌∙◌, List, ℕ, IfOk, sym, ap, subst, arith, length}
use Rattle.elf_file.specs.Object.{Object, symbol_of}
use Rattle.elf_linker.specs.Linked.{object_at}
use Rattle.commands.specs.Steps.{IsObjectFile}
use Rattle.commands.proofs.NamedSymbols.{same_many, file_there, last_object, own_object, view_is}
use Rattle.commands.proofs.linking.name_of.Goals as goal

pub runtime_name-requires : goal.runtime_name-requires
runtime_name-requires c =
    let objects = c.args.objects.now in
    let n = same_many c.args.files.now objects c.requires.files in
    let last = ap (λ (o : Object). length o.symbols) (last_object objects c.args.number (omega (arith, n, c.if-number-files.true)) c.requires.there.object) in
    omega (arith, last, c.requires.there.entry)

pub returns-then-number-files-clause-name : goal.returns-then-number-files-clause-name
returns-then-number-files-clause-name c =
    let objects = c.args.objects.now in
    let n = same_many c.args.files.now objects c.requires.files in
    let last = last_object objects c.args.number (omega (arith, n, c.if-number-files.true)) c.requires.there.object in
    let P : Object → Type 0 = λ o. IfOk c.runtime_name.result (λ name. name ≡ (symbol_of o c.args.symbol).name) in
    subst P (sym last) c.runtime_name.ensures.name

pub symbol_name-requires : goal.symbol_name-requires
symbol_name-requires c =
    let objects = c.args.objects.now in let number = c.args.number in
    let n = same_many c.args.files.now objects c.requires.files in
    let l : number < length c.args.files.now = omega (arith, c.if-number-files.false) in
    let F : List ℕ → Type 0 = λ f. IsObjectFile f (object_at objects number) in
    let o = subst F (sym c.as_slice.ensures) (file_there c.args.files.now objects c.requires.files number c.index-files-number.result l c.index-files-number.is) in
    let v = view_is c.as_slice.result.now (object_at objects number) c.in-Ok.view o (c.in-Ok.ensures.back o.parts) in
    let own = own_object objects number (omega (arith, n, l)) in
    let many = ap (λ (x : Object). length x.symbols) (v ∙ sym own) in
    omega (arith, many, c.requires.there.entry)

pub returns-in-Ok-clause-name : goal.returns-in-Ok-clause-name
returns-in-Ok-clause-name c =
    let objects = c.args.objects.now in let number = c.args.number in
    let n = same_many c.args.files.now objects c.requires.files in
    let l : number < length c.args.files.now = omega (arith, c.if-number-files.false) in
    let F : List ℕ → Type 0 = λ f. IsObjectFile f (object_at objects number) in
    let o = subst F (sym c.as_slice.ensures) (file_there c.args.files.now objects c.requires.files number c.index-files-number.result l c.index-files-number.is) in
    let v = view_is c.as_slice.result.now (object_at objects number) c.in-Ok.view o (c.in-Ok.ensures.back o.parts) in
    let own = own_object objects number (omega (arith, n, l)) in
    let P : List ℕ → Type 0 = λ x. IfOk c.copy.result (λ name. name ≡ x) in
    subst P (c.symbol_name.ensures ∙ ap (λ (x : Object). (symbol_of x c.args.symbol).name) (v ∙ sym own)) c.copy.ensures.name
