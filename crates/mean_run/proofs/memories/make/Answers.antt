use Rattle.std.proofs.Common.{◌≡◌, true, ap, subst, ◌∙◌}
use Rattle.std.specs.Prelude.{OnOk}
use Rattle.std.specs.FinMap as map
use Rattle.block_mem.specs.Blocks.{Blocks, made}
use Rattle.mean_run.proofs.Blocks.{made-ended, get-ended}
use Rattle.mean_run.proofs.memories.make.Goals as goal

pub alloc_block-requires : goal.alloc_block-requires
alloc_block-requires c = ap (λ (m : Blocks). map.get m c.args.name) c.end.ensures ∙ get-ended c.args.memory.now c.args.name

pub returns : goal.returns
returns c = subst (λ (m : Blocks). OnOk c.alloc_block.result (c.alloc_block.new.self ≡ m)) (ap (λ (m : Blocks). made m c.args.name c.args.size true) c.end.ensures ∙ made-ended c.args.memory.now c.args.name c.args.size) c.alloc_block.ensures.ok
