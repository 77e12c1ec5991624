use Rattle.std.proofs.Common.{◌∙◌, ap, sym, subst, drop}
use Rattle.elf_file.specs.Object.{Object, section_of}
use Rattle.elf_file.specs.WellFormed.{WellFormed}
use Rattle.elf_file.specs.declared.parts.ObjectParts.{ObjectParts}
use Rattle.elf_file.proofs.PartsBack.{same_parts}
use Rattle.elf_file.proofs.tests.parts_of.Goals as goal

pub returns : goal.returns
returns c =
    let is = c.requires.2 in
    let P : ObjectParts → Type 0 = λ p. WellFormed p in
    subst P (sym (same_parts _ c.requires.0
    (c.in_ok-from_slice.ensures ∙ c.section_bytes.ensures ∙ ap (λ (o : Object). (section_of o 1).bytes) is)
    (c.in_ok-from_slice-2.ensures ∙ c.section_bytes-2.ensures ∙ ap (λ (o : Object). (section_of o 2).bytes) is)
    (c.in_ok-from_slice-3.ensures ∙ c.section_bytes-3.ensures ∙ ap (λ (o : Object). (section_of o 3).bytes) is)
    (c.size.ensures ∙ ap (λ (o : Object). (section_of o 4).size) is)
    (c.in_ok-symbols.ensures ∙ ap (λ (o : Object). drop 1 o.symbols) is)
    (c.in_ok-relocs.ensures ∙ ap (λ (o : Object). o.relocs) is))) c.requires.1
