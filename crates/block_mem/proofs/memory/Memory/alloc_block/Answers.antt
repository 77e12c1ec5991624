use Rattle.std.proofs.Common.{ap, ◌∙◌}
use Rattle.std.specs.FinMap as map
use Rattle.block_mem.specs.Blocks.{Block, Blocks, made}
use Rattle.block_mem.proofs.Lookups.{inserted}
use Rattle.block_mem.proofs.memory.Memory.alloc_block.Goals as goal

pub returns-clause-ok : goal.returns-clause-ok
returns-clause-ok c =
    inserted c.self.inside.named.entries c.insert.new.self.entries c.args.name c.in_ok-cells.cells c.in_ok-insert.ensures.updates.0
    ∙ ap (λ (k : Block). map.insert (map.from_entries c.self.inside.named.entries) c.args.name k) c.in_ok-cells.ensures
    ∙ ap (λ (m : Blocks). made m c.args.name c.args.size c.args.writable) c.self.view_is
