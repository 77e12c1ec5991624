use Rattle.std.proofs.Common.{◌≡◌, ◌*◌, ◌<◌, ◌≤◌, length, get_or, sym, ap, ◌∙◌, arith}
use Rattle.block_mem.specs.Blocks.{Block}
use Rattle.block_mem.specs.declared.value.Byte.TheVariants.{Unset}
use Rattle.block_mem.proofs.Bytes.{size_is, byte_at}
use Rattle.block_mem.proofs.cells.Cells.byte_at.Goals as goal

pub byte-requires : goal.byte-requires
byte-requires c =
    let long : length c.args.self.now.bytes ≡ c.self.inside.size = size_is c.self.inside.quads c.self.inside.size c.self.inside.writable c.args.self.now c.self.view_is in
    let enough : c.self.inside.size ≤ 4 * length c.self.inside.quads = c.self.invariant in
    omega (arith, long, enough, c.requires)

pub returns : goal.returns
returns c =
    let long : length c.args.self.now.bytes ≡ c.self.inside.size = size_is c.self.inside.quads c.self.inside.size c.self.inside.writable c.args.self.now c.self.view_is in
    let small : c.args.offset < c.self.inside.size = omega (arith, long, c.requires) in
    c.byte.ensures ∙ sym (byte_at c.self.inside.quads c.self.inside.size c.args.offset small) ∙ ap (λ (k : Block). get_or k.bytes c.args.offset Unset) c.self.view_is
