use Rattle.std.proofs.Common.{◌≡◌, ◌+◌, ◌%◌, length, leb, eqb, sym, ap, ◌∙◌}
use Rattle.std.specs.Prelude.{◌&&◌}
use Rattle.block_mem.proofs.Bytes.{size_is, fits_word, fits_no_word}
use Rattle.block_mem.proofs.cells.Cells.has_word.Goals as goal

pub returns-then-offset-self : goal.returns-then-offset-self
returns-then-offset-self c =
    let long : length c.args.self.now.bytes ≡ c.self.inside.size = size_is c.self.inside.quads c.self.inside.size c.self.inside.writable c.args.self.now c.self.view_is in
    fits_word c.self.inside.size c.args.offset c.if-offset-self.true ∙ ap (λ n. leb (c.args.offset + 4) n && eqb (c.args.offset % 4) 0) (sym long)

pub returns-else-offset-self : goal.returns-else-offset-self
returns-else-offset-self c =
    let long : length c.args.self.now.bytes ≡ c.self.inside.size = size_is c.self.inside.quads c.self.inside.size c.self.inside.writable c.args.self.now c.self.view_is in
    fits_no_word c.self.inside.size c.args.offset c.if-offset-self.false ∙ ap (λ n. leb (c.args.offset + 4) n && eqb (c.args.offset % 4) 0) (sym long)
