use Rattle.std.proofs.Common.{◌+◌, ◌*◌, ◌/◌, ◌≤◌, List, ap, ◌∙◌, arith}
use Rattle.block_mem.specs.Quads.{bytes_of}
use Rattle.block_mem.specs.declared.quads.Quad.{Quad}
use Rattle.block_mem.specs.declared.value.Byte.{Byte}
use Rattle.block_mem.proofs.Bytes.{unset_bytes}
use Rattle.block_mem.proofs.cells.Cells.new.Goals as goal

pub returns : goal.returns
returns c =
    let enough : c.args.size ≤ 4 * ((c.args.size + 3) / 4) = omega arith in
    ap (λ (qs : List Quad). record { bytes = bytes_of qs c.args.size; writable = c.args.writable }) c.in_ok-quads.ensures
    ∙ ap (λ (xs : List Byte). record { bytes = xs; writable = c.args.writable }) (unset_bytes ((c.args.size + 3) / 4) c.args.size enough)
