use Rattle.std.proofs.Common.{◌≡◌, ◌*◌, ◌≤◌, length, sym, ap, ◌∙◌, arith}
use Rattle.block_mem.specs.Blocks.{Block}
use Rattle.block_mem.specs.Access.{read}
use Rattle.block_mem.specs.declared.value.Width.TheVariants.{Pointer}
use Rattle.block_mem.proofs.Bytes.{size_is, inside_word, read_pointer}
use Rattle.block_mem.proofs.cells.Cells.pointer_at.Goals as goal

pub pointer-requires : goal.pointer-requires
pointer-requires c =
    let long : length c.args.self.now.bytes ≡ c.self.inside.size = size_is c.self.inside.quads c.self.inside.size c.self.inside.writable c.args.self.now c.self.view_is in
    let enough : c.self.inside.size ≤ 4 * length c.self.inside.quads = c.self.invariant in
    let word = inside_word c.args.self.now c.self.inside.size c.args.offset long c.requires in
    omega (arith, enough, word.0, word.1)

pub returns : goal.returns
returns c =
    let long : length c.args.self.now.bytes ≡ c.self.inside.size = size_is c.self.inside.quads c.self.inside.size c.self.inside.writable c.args.self.now c.self.view_is in
    let word = inside_word c.args.self.now c.self.inside.size c.args.offset long c.requires in
    c.pointer.ensures ∙ sym (read_pointer c.self.inside.quads c.self.inside.size c.args.offset word.0 word.1) ∙ ap (λ (k : Block). read Pointer k.bytes c.args.offset) c.self.view_is
