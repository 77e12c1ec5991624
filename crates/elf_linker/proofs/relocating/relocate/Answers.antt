use Rattle.std.proofs.Common.{◌≡◌, ◌+◌, ◌-◌, ℕ, ap, sym, subst, ◌∙◌, arith, refl}
use Rattle.elf_file.specs.Object.{Object, reloc_of}
use Rattle.elf_file.specs.Read.{IsObject}
use Rattle.elf_linker.specs.Placement.{text_of, text_address}
use Rattle.elf_linker.specs.Linked.{object_at, offset}
use Rattle.elf_file.specs.declared.parts.RelocPart.{RelocPart}
use Rattle.elf_linker.specs.LinkSteps.{IsAside}
use Rattle.elf_linker.proofs.Placing.{has_text, text_kept, object_read}
use Rattle.elf_linker.proofs.Relocated.{reached, relocated_there}
use Rattle.elf_linker.proofs.relocating.relocate.Goals as goal

pub section_bytes-requires-clause-range : goal.section_bytes-requires-clause-range
section_bytes-requires-clause-range c =
    let I : Object → Type 0 = λ o. IsObject o in
    has_text c.object-view.result.now (subst I (sym c.object-view.ensures) (object_read c.args.addresses.now c.requires.fit.are c.args.number c.requires.object))

pub section_bytes-requires-clause-kept : goal.section_bytes-requires-clause-kept
section_bytes-requires-clause-kept c =
    let I : Object → Type 0 = λ o. IsObject o in
    text_kept c.object-view.result.now (subst I (sym c.object-view.ensures) (object_read c.args.addresses.now c.requires.fit.are c.args.number c.requires.object))

pub overflow_add-place : goal.overflow_add-place
overflow_add-place c =
    let objects = c.args.addresses.now in let number = c.args.number in
    let h = reached objects c.requires.fit number c.args.index c.requires.object c.requires.reloc c.object-view.result.now c.object-view.ensures c.reloc-reloc.result c.reloc-reloc.ensures c.section-text.result c.section-text.ensures c.section_bytes.result.now c.section_bytes.ensures in
    let to = h.to in omega (arith, to)

pub overflow_sub-place : goal.overflow_sub-place
overflow_sub-place c =
    let objects = c.args.addresses.now in let number = c.args.number in
    let h = reached objects c.requires.fit number c.args.index c.requires.object c.requires.reloc c.object-view.result.now c.object-view.ensures c.reloc-reloc.result c.reloc-reloc.ensures c.section-text.result c.section-text.ensures c.section_bytes.result.now c.section_bytes.ensures in
    let from = h.from in omega (arith, from)

pub returns-clause-there : goal.returns-clause-there
returns-clause-there c =
    let objects = c.args.addresses.now in let number = c.args.number in
    let h = reached objects c.requires.fit number c.args.index c.requires.object c.requires.reloc c.object-view.result.now c.object-view.ensures c.reloc-reloc.result c.reloc-reloc.ensures c.section-text.result c.section-text.ensures c.section_bytes.result.now c.section_bytes.ensures in
    let same = sym (c.reloc-reloc.ensures ∙ ap (λ (o : Object). reloc_of o c.args.index) c.object-view.ensures) in
    relocated_there objects c.put_word.new.code number c.reloc-reloc.result (reloc_of (object_at objects number) c.args.index) c.section-text.result c.symbol-address.result c.word_at-addend.result (c.section-text.result + c.reloc-reloc.result.offset)
    c.stored-word.result (c.section-text.result + c.reloc-reloc.result.offset - 134516736) c.section_bytes.result.now
    same c.section-text.ensures (c.section_bytes.ensures ∙ ap (λ (o : Object). (text_of o).bytes) c.object-view.ensures) h.from c.symbol-address.ensures c.word_at-addend.ensures refl c.stored-word.ensures refl c.put_word.ensures.there

pub returns-clause-others : goal.returns-clause-others
returns-clause-others c k aside =
    let objects = c.args.addresses.now in let number = c.args.number in
    let h = reached objects c.requires.fit number c.args.index c.requires.object c.requires.reloc c.object-view.result.now c.object-view.ensures c.reloc-reloc.result c.reloc-reloc.ensures c.section-text.result c.section-text.ensures c.section_bytes.result.now c.section_bytes.ensures in
    let same = c.reloc-reloc.ensures ∙ ap (λ (o : Object). reloc_of o c.args.index) c.object-view.ensures in
    let from = h.from in let t = c.section-text.ensures in let off = ap (λ (r : RelocPart). r.offset) same in
    let place : offset (text_address objects number) + (reloc_of (object_at objects number) c.args.index).offset ≡ c.section-text.result + c.reloc-reloc.result.offset - 134516736 = omega (arith, from, t, off) in
    let P : ℕ → Type 0 = λ n. IsAside n k in
    c.put_word.ensures.others k (subst P place aside)
