use Rattle.std.proofs.Common.{List, arith, subst, ap, ◌∙◌}
use Rattle.elf_file.specs.Object.{Object, symbol_of}
use Rattle.elf_linker.specs.Linked.{object_at}
use Rattle.elf_linker.specs.LinkSteps.{AreAddresses}
use Rattle.elf_linker.proofs.Addressing.{address_inside}
use Rattle.elf_linker.proofs.addresses.Addresses.defined.Goals as goal

pub overflow_add-result : goal.overflow_add-result
overflow_add-result c =
    let A : List Object → Type 0 = λ o. AreAddresses o c.self.inside.definitions.now c.self.inside.texts.now c.self.inside.behind in
    let a = subst A c.self.view_is c.self.invariant in
    let h = address_inside c.args.self.now a.are a.inside c.args.number c.args.symbol c.args.section c.requires.object c.requires.symbol c.requires.place in
    let v = c.symbol_value.ensures ∙ ap (λ (o : Object). (symbol_of o c.args.symbol).value) (c.at.ensures ∙ ap (λ (os : List Object). object_at os c.args.number) c.self.view_is) in
    omega (arith, h, c.section.ensures, v)
