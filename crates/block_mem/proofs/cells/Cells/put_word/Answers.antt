use Rattle.std.proofs.Common.{◌≡◌, ◌*◌, ◌/◌, ◌≤◌, List, length, set, ap, ◌∙◌, arith}
use Rattle.block_mem.specs.Blocks.{Block}
use Rattle.block_mem.specs.Access.{put_four}
use Rattle.block_mem.specs.Quads.{bytes_of, quad_of_plain}
use Rattle.cc_base.specs.Words.{byte_of}
use Rattle.block_mem.specs.declared.quads.Quad.{Quad}
use Rattle.block_mem.specs.declared.value.Byte.{Byte}
use Rattle.block_mem.specs.declared.value.Byte.TheVariants.{Plain}
use Rattle.block_mem.proofs.Bytes.{size_is, inside_word, put_quad, word_quad}
use Rattle.block_mem.proofs.cells.Cells.put_word.Goals as goal

pub put_plain-requires : goal.put_plain-requires
put_plain-requires c =
    let long : length c.args.self.now.bytes ≡ c.self.inside.size = size_is c.self.inside.quads c.self.inside.size c.self.inside.writable c.args.self.now c.self.view_is in
    let enough : c.self.inside.size ≤ 4 * length c.self.inside.quads = c.self.invariant in
    let word = inside_word c.args.self.now c.self.inside.size c.args.offset long c.requires in
    omega (arith, enough, word.0, word.1)

pub returns : goal.returns
returns c =
    let long : length c.args.self.now.bytes ≡ c.self.inside.size = size_is c.self.inside.quads c.self.inside.size c.self.inside.writable c.args.self.now c.self.view_is in
    let enough : c.self.inside.size ≤ 4 * length c.self.inside.quads = c.self.invariant in
    let word = inside_word c.args.self.now c.self.inside.size c.args.offset long c.requires in
    ap (λ (qs : List Quad). record { bytes = bytes_of qs c.self.inside.size; writable = c.self.inside.writable }) c.put_plain.ensures
    ∙ ap (λ (q : Quad). record { bytes = bytes_of (set c.self.inside.quads (c.args.offset / 4) q) c.self.inside.size; writable = c.self.inside.writable }) (word_quad c.to_le_bytes.result c.args.word c.to_le_bytes.ensures)
    ∙ ap (λ (xs : List Byte). record { bytes = xs; writable = c.self.inside.writable }) (put_quad c.self.inside.quads c.self.inside.size c.args.offset (quad_of_plain (byte_of c.args.word 0) (byte_of c.args.word 1) (byte_of c.args.word 2) (byte_of c.args.word 3)) word.0 word.1 enough)
    ∙ ap (λ (k : Block). record k { bytes = put_four k.bytes c.args.offset (Plain (byte_of c.args.word 0)) (Plain (byte_of c.args.word 1)) (Plain (byte_of c.args.word 2)) (Plain (byte_of c.args.word 3)) }) c.self.view_is
