use Rattle.std.proofs.Common.{◌≡◌, Option, Some, None, sym, ap, ◌∙◌}
use Rattle.std.specs.FinMap as map
use Rattle.block_mem.specs.Blocks.{Block, Blocks}
use Rattle.block_mem.specs.Access.{load, load_in}
use Rattle.block_mem.specs.declared.value.Value.{Value}
use Rattle.block_mem.proofs.Lookups.{get_is}
use Rattle.block_mem.proofs.memory.Memory.load.Goals as goal

pub returns-in-None : goal.returns-in-None
returns-in-None c =
    let at : map.get c.args.self.now c.in-Ptr.block ≡ None = ap (λ (m : Blocks). map.get m c.in-Ptr.block) (sym c.self.view_is) ∙ get_is c.self.inside.named.entries c.in-Ptr.block ∙ sym c.in-None.ensures.value in
    sym (ap (λ (v : Value). load c.args.self.now v c.args.width) c.in-Ptr.is ∙ ap (λ (r : Option Block). load_in r c.args.width c.in-Ptr.offset) at)

pub returns-in-Some : goal.returns-in-Some
returns-in-Some c =
    let at : map.get c.args.self.now c.in-Ptr.block ≡ Some c.in-Some.cells.now = ap (λ (m : Blocks). map.get m c.in-Ptr.block) (sym c.self.view_is) ∙ get_is c.self.inside.named.entries c.in-Ptr.block ∙ sym c.in-Some.ensures.value in
    c.read.ensures ∙ sym (ap (λ (v : Value). load c.args.self.now v c.args.width) c.in-Ptr.is ∙ ap (λ (r : Option Block). load_in r c.args.width c.in-Ptr.offset) at)
