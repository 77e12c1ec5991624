use Rattle.std.proofs.Common.{leb, eqb, ◌+◌, ◌%◌, length, ap, sym, ◌∙◌}
use Rattle.std.specs.Prelude.{◌&&◌}
use Rattle.block_mem.specs.Blocks.{Block}
use Rattle.block_mem.proofs.Bytes.{length-bytes_of, fits_byte}
use Rattle.block_mem.proofs.cells.Cells.has_byte.Goals as goal

pub returns : goal.returns
returns c = fits_byte c.self.inside.size c.args.offset ∙ ap (λ n. leb (c.args.offset + 1) n && eqb (c.args.offset % 1) 0) (sym (length-bytes_of c.self.inside.quads c.self.inside.size) ∙ ap (λ (k : Block). length k.bytes) c.self.view_is)
