use Rattle.std.proofs.Common.{◌≡◌, Option, Some, None, refl, sym, ap, subst, ◌∙◌, ltb-true}
use Rattle.std.specs.Prelude.{IsSome}
use Rattle.std.proofs.lemmas.Bool.{false≢true}
use Rattle.std.specs.FinMap as map
use Rattle.block_mem.specs.Blocks.{Block, Blocks, first_in, inside_in}
use Rattle.block_mem.proofs.Lookups.{get_is, inserted}
use Rattle.block_mem.proofs.memory.Memory.set_first.Goals as goal

pub returns-in_default : goal.returns-in_default
returns-in_default c =
    let at : map.get c.args.self.now c.args.name ≡ None = ap (λ (m : Blocks). map.get m c.args.name) (sym c.self.view_is) ∙ get_is c.self.inside.named.entries c.args.name ∙ sym c.in_default.ensures.value in
    absurd (false≢true (sym (ap (λ (r : Option Block). inside_in r c.args.offset) at) ∙ c.requires))

pub put-requires : goal.put-requires
put-requires c =
    let at : map.get c.args.self.now c.args.name ≡ Some c.in-Some.cells.now = ap (λ (m : Blocks). map.get m c.args.name) (sym c.self.view_is) ∙ get_is c.self.inside.named.entries c.args.name ∙ sym c.in-Some.ensures.value in
    ltb-true _ _ (sym (ap (λ (r : Option Block). inside_in r c.args.offset) at) ∙ c.requires)

pub returns : goal.returns
returns c =
    let at : map.get c.args.self.now c.args.name ≡ Some c.in-Some.cells.now = ap (λ (m : Blocks). map.get m c.args.name) (sym c.self.view_is) ∙ get_is c.self.inside.named.entries c.args.name ∙ sym c.in-Some.ensures.value in
    inserted c.self.inside.named.entries (c.get_mut.follows.lender c.put.new.self).entries c.args.name c.put.new.self ((c.get_mut.follows.holds c.put.new.self).3 (subst IsSome c.in-Some.ensures.value refl)).0
    ∙ ap (λ (m : Blocks). map.insert m c.args.name c.put.new.self) c.self.view_is
    ∙ ap (λ (k : Block). map.insert c.args.self.now c.args.name k) c.put.ensures
    ∙ sym (ap (λ (r : Option Block). first_in c.args.self.now c.args.name r c.args.offset c.args.byte) at)
