use Rattle.std.proofs.Common.{◌≡◌, Option, Some, None, refl, sym, ap, ◌∙◌}
use Rattle.std.specs.Prelude.{is_some}
use Rattle.std.specs.Map.{lookup}
use Rattle.std.specs.FinMap as map
use Rattle.block_mem.specs.Blocks.{Block, Blocks, live_in}
use Rattle.block_mem.proofs.Lookups.{same, get_is}
use Rattle.block_mem.proofs.memory.Memory.is_live.Goals as goal

live_some : (r : Option Block) → is_some r ≡ live_in r
live_some None = refl
live_some (Some c) = refl

pub returns : goal.returns
returns c =
    c.contains_key.ensures ∙ live_some (lookup (same c.args.block) c.self.inside.named.entries)
    ∙ ap live_in (sym (get_is c.self.inside.named.entries c.args.block)) ∙ ap (λ (m : Blocks). live_in (map.get m c.args.block)) c.self.view_is
