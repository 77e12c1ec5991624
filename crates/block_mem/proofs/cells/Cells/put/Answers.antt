use Rattle.std.proofs.Common.{◌≡◌, ◌*◌, ◌<◌, ◌≤◌, List, length, set, ap, ◌∙◌, arith}
use Rattle.block_mem.specs.Blocks.{Block}
use Rattle.block_mem.specs.Quads.{bytes_of}
use Rattle.block_mem.specs.declared.quads.Quad.{Quad}
use Rattle.block_mem.specs.declared.value.Byte.{Byte}
use Rattle.block_mem.proofs.Bytes.{size_is, put_one}
use Rattle.block_mem.proofs.cells.Cells.put.Goals as goal

pub put_byte-requires : goal.put_byte-requires
put_byte-requires c =
    let long : length c.args.self.now.bytes ≡ c.self.inside.size = size_is c.self.inside.quads c.self.inside.size c.self.inside.writable c.args.self.now c.self.view_is in
    let enough : c.self.inside.size ≤ 4 * length c.self.inside.quads = c.self.invariant in
    omega (arith, long, enough, c.requires)

pub returns : goal.returns
returns c =
    let long : length c.args.self.now.bytes ≡ c.self.inside.size = size_is c.self.inside.quads c.self.inside.size c.self.inside.writable c.args.self.now c.self.view_is in
    let enough : c.self.inside.size ≤ 4 * length c.self.inside.quads = c.self.invariant in
    let small : c.args.offset < c.self.inside.size = omega (arith, long, c.requires) in
    ap (λ (qs : List Quad). record { bytes = bytes_of qs c.self.inside.size; writable = c.self.inside.writable }) c.put_byte.ensures
    ∙ ap (λ (xs : List Byte). record { bytes = xs; writable = c.self.inside.writable }) (put_one c.self.inside.quads c.self.inside.size c.args.offset c.args.byte small enough)
    ∙ ap (λ (k : Block). record k { bytes = set k.bytes c.args.offset c.args.byte }) c.self.view_is
