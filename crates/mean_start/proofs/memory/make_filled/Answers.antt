use Rattle.std.proofs.Common.{ap, ◌∙◌}
use Rattle.block_mem.specs.Blocks.{Blocks, first, inside}
use Rattle.block_mem.specs.declared.value.Byte.TheVariants.{Plain}
use Rattle.mean_start.proofs.Making.{filled_inside, filled_on}
use Rattle.mean_start.proofs.memory.make_filled.Goals as goal

pub set_first-requires : goal.set_first-requires
set_first-requires c =
    ap (λ (m : Blocks). inside m c.args.name c.places.place) c.places.invariant
    ∙ filled_inside c.args.memory.now c.args.name c.args.bytes.now c.args.size c.places.place c.args.writable c.requires.fit c.places-test.true

pub places-preserved : goal.places-preserved
places-preserved c =
    let byte = c.byte_or_zero-byte.result in
    c.set_first.ensures
    ∙ ap (λ (m : Blocks). first m c.args.name c.places.place (Plain byte)) c.places.invariant
    ∙ filled_on c.args.memory.now c.args.name c.args.bytes.now c.args.size c.places.place byte c.args.writable c.requires.fit c.places-test.true c.byte_or_zero-byte.ensures
