use Rattle.std.proofs.Common.{ap, ◌∙◌}
use Rattle.block_mem.specs.Blocks.{Blocks, ended}
use Rattle.block_mem.proofs.Lookups.{removed}
use Rattle.block_mem.proofs.memory.Memory.free_block.Goals as goal

pub returns : goal.returns
returns c = removed c.self.inside.named.entries c.remove.new.self.entries c.args.name c.remove.ensures.updates.0 ∙ ap (λ (m : Blocks). ended m c.args.name) c.self.view_is
