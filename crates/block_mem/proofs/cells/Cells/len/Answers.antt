use Rattle.std.proofs.Common.{length, sym, ap, ◌∙◌}
use Rattle.block_mem.specs.Blocks.{Block}
use Rattle.block_mem.proofs.Bytes.{length-bytes_of}
use Rattle.block_mem.proofs.cells.Cells.len.Goals as goal

pub returns : goal.returns
returns c = sym (length-bytes_of c.self.inside.quads c.self.inside.size) ∙ ap (λ (k : Block). length k.bytes) c.self.view_is
