use Rattle.std.proofs.Common.{◌≡◌, ℕ, Option, Some, None, leb, sym, ap, ◌∙◌}
use Rattle.std.specs.FinMap as map
use Rattle.block_mem.specs.Blocks.{Block, Blocks, within_in}
use Rattle.block_mem.proofs.Lookups.{get_is}
use Rattle.block_mem.proofs.memory.Memory.within.Goals as goal

pub returns-in-Some : goal.returns-in-Some
returns-in-Some c =
    let at : map.get c.args.self.now c.args.block ≡ Some c.in-Some.cells.now = ap (λ (m : Blocks). map.get m c.args.block) (sym c.self.view_is) ∙ get_is c.self.inside.named.entries c.args.block ∙ sym c.in-Some.ensures.value in
    ap (λ (n : ℕ). leb c.args.offset n) c.len.ensures ∙ sym (ap (λ (r : Option Block). within_in r c.args.offset) at)

pub returns-in-None : goal.returns-in-None
returns-in-None c =
    let at : map.get c.args.self.now c.args.block ≡ None = ap (λ (m : Blocks). map.get m c.args.block) (sym c.self.view_is) ∙ get_is c.self.inside.named.entries c.args.block ∙ sym c.in-None.ensures.value in
    sym (ap (λ (r : Option Block). within_in r c.args.offset) at)
