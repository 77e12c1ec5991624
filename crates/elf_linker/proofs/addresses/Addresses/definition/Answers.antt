use Rattle.std.proofs.Common.{List, sym, ap, ◌∙◌, subst}
use Rattle.elf_file.specs.Object.{Object, symbol_of}
use Rattle.elf_linker.specs.Names.{all_symbols}
use Rattle.elf_linker.specs.Linked.{object_at}
use Rattle.elf_linker.specs.LinkSteps.{found_at, symbol_at, AreAddresses}
use Rattle.elf_linker.proofs.Addressing.{noted_is, noted_site, noted_defines, not_undefined, not_absolute}
use Rattle.elf_linker.proofs.addresses.Addresses.definition.Goals as goal

pub unreachable-requires : goal.unreachable-requires
unreachable-requires c =
    let objects = c.args.self.now in
    let A : List Object → Type 0 = λ o. AreAddresses o c.self.inside.definitions.now c.self.inside.texts.now c.self.inside.behind in
    let a = subst A c.self.view_is c.self.invariant in
    noted_is objects (all_symbols objects) c.args.name.now (found_at c.self.inside.definitions.now c.args.name.now) (a.noted c.args.name.now) c.requires (sym c.look_up.ensures ∙ c.in_default.is)

pub unreachable-requires-in-Undefined : goal.unreachable-requires-in-Undefined
unreachable-requires-in-Undefined c =
    let objects = c.args.self.now in
    let A : List Object → Type 0 = λ o. AreAddresses o c.self.inside.definitions.now c.self.inside.texts.now c.self.inside.behind in
    let a = subst A c.self.view_is c.self.invariant in
    let site = c.in-Some.site in
    let first = noted_site objects (all_symbols objects) c.args.name.now (found_at c.self.inside.definitions.now c.args.name.now) site (a.noted c.args.name.now) (sym c.look_up.ensures ∙ c.in-Some.is) in
    let d = noted_defines objects (all_symbols objects) c.args.name.now site first in
    not_undefined (symbol_at objects site.object site.symbol).place d.placed (ap (λ (o : Object). (symbol_of o site.symbol).place) (sym (c.at.ensures ∙ ap (λ (os : List Object). object_at os site.object) c.self.view_is)) ∙ sym c.symbol_place.ensures ∙ c.in-Undefined.is)

pub unreachable-requires-in-Absolute : goal.unreachable-requires-in-Absolute
unreachable-requires-in-Absolute c =
    let objects = c.args.self.now in
    let A : List Object → Type 0 = λ o. AreAddresses o c.self.inside.definitions.now c.self.inside.texts.now c.self.inside.behind in
    let a = subst A c.self.view_is c.self.invariant in
    let site = c.in-Some.site in
    let first = noted_site objects (all_symbols objects) c.args.name.now (found_at c.self.inside.definitions.now c.args.name.now) site (a.noted c.args.name.now) (sym c.look_up.ensures ∙ c.in-Some.is) in
    let d = noted_defines objects (all_symbols objects) c.args.name.now site first in
    not_absolute (symbol_at objects site.object site.symbol).place d.placed (ap (λ (o : Object). (symbol_of o site.symbol).place) (sym (c.at.ensures ∙ ap (λ (os : List Object). object_at os site.object) c.self.view_is)) ∙ sym c.symbol_place.ensures ∙ c.in-Absolute.is)

pub returns : goal.returns
returns c =
    let objects = c.args.self.now in
    let A : List Object → Type 0 = λ o. AreAddresses o c.self.inside.definitions.now c.self.inside.texts.now c.self.inside.behind in
    let a = subst A c.self.view_is c.self.invariant in
    let site = c.in-Some.site in
    let first = noted_site objects (all_symbols objects) c.args.name.now (found_at c.self.inside.definitions.now c.args.name.now) site (a.noted c.args.name.now) (sym c.look_up.ensures ∙ c.in-Some.is) in
    let d = noted_defines objects (all_symbols objects) c.args.name.now site first in
    record {
      number = site.object;
      symbol = site.symbol;
      section = c.in-At.section;
      in_objects = first.in_objects;
      in_table = first.in_table;
      shown = d.shown;
      named = d.named;
      at = (ap (λ (o : Object). (symbol_of o site.symbol).place) (sym (c.at.ensures ∙ ap (λ (os : List Object). object_at os site.object) c.self.view_is)) ∙ sym c.symbol_place.ensures ∙ c.in-At.is, c.defined.ensures);
    }
