use Rattle.std.proofs.Common.{◌≡◌, ℕ, ap, ◌∙◌, subst, arith, length}
use Rattle.elf_file.specs.Object.{Object}
use Rattle.elf_linker.specs.Linked.{object_at}
use Rattle.elf_linker.proofs.Words.{Half, half_more, half_all}
use Rattle.elf_linker.proofs.relocating.relocate_text.Goals as goal

pub loop-index-preserved : goal.loop-index-preserved
loop-index-preserved c =
    let objects = c.args.addresses.now in let number = c.args.number in
    let count = c.relocs-index-end.ensures ∙ ap (λ (o : Object). length o.relocs) c.object.ensures in
    half_more objects c.requires.fit number c.requires.object c.args.code.now c.requires.copied.inside c.loop-index.code c.relocate.new.code c.loop-index.index c.loop-index.invariant (omega (arith, c.loop-index-test.true, count))
    c.relocate.ensures.there c.relocate.ensures.length c.relocate.ensures.others

pub returns-clause-placed : goal.returns-clause-placed
returns-clause-placed c =
    let objects = c.args.addresses.now in let number = c.args.number in
    let count = c.relocs-index-end.ensures ∙ ap (λ (o : Object). length o.relocs) c.object.ensures in
    let all : c.loop-index.index ≡ length (object_at objects number).relocs = omega (arith, count, c.loop-index-test.false, c.loop-index.auto.index-end) in
    let P : ℕ → Type 0 = λ n. Half objects number c.args.code.now c.loop-index.code n in
    half_all objects c.requires.fit number c.requires.object c.args.code.now c.requires.copied.inside c.loop-index.code (subst P all c.loop-index.invariant)
