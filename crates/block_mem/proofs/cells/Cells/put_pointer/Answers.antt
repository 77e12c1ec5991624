use Rattle.std.proofs.Common.{◌≡◌, ◌*◌, ◌/◌, ◌≤◌, List, length, set, ap, ◌∙◌, arith}
use Rattle.block_mem.specs.Blocks.{Block}
use Rattle.block_mem.specs.Access.{put_four}
use Rattle.block_mem.specs.Quads.{bytes_of}
use Rattle.block_mem.specs.declared.quads.Quad.{Quad}
use Rattle.block_mem.specs.declared.value.Byte.{Byte}
use Rattle.block_mem.specs.declared.value.Byte.TheVariants.{Part}
use Rattle.block_mem.proofs.Bytes.{size_is, inside_word, put_quad}
use Rattle.block_mem.proofs.cells.Cells.put_pointer.Goals as goal

pub put-requires : goal.put-requires
put-requires c =
    let long : length c.args.self.now.bytes ≡ c.self.inside.size = size_is c.self.inside.quads c.self.inside.size c.self.inside.writable c.args.self.now c.self.view_is in
    let enough : c.self.inside.size ≤ 4 * length c.self.inside.quads = c.self.invariant in
    let word = inside_word c.args.self.now c.self.inside.size c.args.offset long c.requires in
    omega (arith, enough, word.0, word.1)

pub returns : goal.returns
returns c =
    let long : length c.args.self.now.bytes ≡ c.self.inside.size = size_is c.self.inside.quads c.self.inside.size c.self.inside.writable c.args.self.now c.self.view_is in
    let enough : c.self.inside.size ≤ 4 * length c.self.inside.quads = c.self.invariant in
    let word = inside_word c.args.self.now c.self.inside.size c.args.offset long c.requires in
    let parts : Quad = record { zero = Part c.args.block c.args.place 0; one = Part c.args.block c.args.place 1; two = Part c.args.block c.args.place 2; three = Part c.args.block c.args.place 3 } in
    let is : c.put.new.self ≡ set c.self.inside.quads (c.args.offset / 4) parts = cc in
    ap (λ (qs : List Quad). record { bytes = bytes_of qs c.self.inside.size; writable = c.self.inside.writable }) is
    ∙ ap (λ (xs : List Byte). record { bytes = xs; writable = c.self.inside.writable }) (put_quad c.self.inside.quads c.self.inside.size c.args.offset parts word.0 word.1 enough)
    ∙ ap (λ (k : Block). record k { bytes = put_four k.bytes c.args.offset (Part c.args.block c.args.place 0) (Part c.args.block c.args.place 1) (Part c.args.block c.args.place 2) (Part c.args.block c.args.place 3) }) c.self.view_is
