use Rattle.std.proofs.Common.{◌≡◌, false, Option, Some, None, refl, sym, ◌∙◌}
use Rattle.block_mem.specs.Blocks.{Block, live_in}
use Rattle.test_runs.proofs.blocks.make.Goals as goal

-- a block that is not live is none
none_of : (r : Option Block) → live_in r ≡ false → r ≡ None
none_of None h = refl
none_of (Some k) h = cc

pub alloc_block-requires : goal.alloc_block-requires
alloc_block-requires c = none_of _ (sym c.is_live.ensures ∙ c.if-is_live.false)
