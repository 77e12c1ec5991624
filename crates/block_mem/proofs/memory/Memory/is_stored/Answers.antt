use Rattle.std.proofs.Common.{◌≡◌, Some, None, refl, sym, ap, subst, ◌∙◌}
use Rattle.std.specs.Prelude.{IsSome, if◌then◌else◌}
use Rattle.std.specs.FinMap as map
use Rattle.block_mem.specs.Blocks.{Block, Blocks}
use Rattle.block_mem.specs.Access.{store}
use Rattle.block_mem.specs.declared.value.Value.{Value}
use Rattle.block_mem.proofs.Lookups.{get_is, inserted, insert_same, store_is, store_none}
use Rattle.block_mem.proofs.memory.Memory.is_stored.Goals as goal

pub returns-in_default-get_mut-clause-stored : goal.returns-in_default-get_mut-clause-stored
returns-in_default-get_mut-clause-stored c =
    let at : map.get c.args.self.now c.in-Ptr.block ≡ None = ap (λ (m : Blocks). map.get m c.in-Ptr.block) (sym c.self.view_is) ∙ get_is c.self.inside.named.entries c.in-Ptr.block ∙ sym c.in_default-get_mut.ensures.value in
    sym (ap (λ (v : Value). store c.args.self.now v c.args.width c.args.value.now) c.in-Ptr.is ∙ store_none c.args.self.now c.in-Ptr.block c.in-Ptr.offset c.args.width c.args.value.now at)

pub returns-clause-stored : goal.returns-clause-stored
returns-clause-stored c =
    let at : map.get c.args.self.now c.in-Ptr.block ≡ Some c.in-Some.cells.now = ap (λ (m : Blocks). map.get m c.in-Ptr.block) (sym c.self.view_is) ∙ get_is c.self.inside.named.entries c.in-Ptr.block ∙ sym c.in-Some.ensures.value in
    let new : Block = record { bytes = c.write.new.self.bytes; writable = c.in-Some.cells.now.writable } in
    let is_new : c.write.new.self ≡ new = ap (λ r. record { bytes = c.write.new.self.bytes; writable = r }) c.write.ensures.rights in
    let is = store_is c.args.self.now c.in-Ptr.block c.in-Some.cells.now c.in-Ptr.offset c.args.width c.args.value.now c.write.result c.write.new.self.bytes at c.write.ensures.stored in
    let there = inserted c.self.inside.named.entries (c.get_mut.follows.lender c.write.new.self).entries c.in-Ptr.block c.write.new.self ((c.get_mut.follows.holds c.write.new.self).3 (subst IsSome c.in-Some.ensures.value refl)).0
    ∙ ap (λ (m : Blocks). map.insert m c.in-Ptr.block c.write.new.self) c.self.view_is
    ∙ ap (λ (k : Block). map.insert c.args.self.now c.in-Ptr.block k) is_new in
    ap (λ (m : Blocks). if◌then◌else◌ c.write.result (Some m) None) there ∙ sym is ∙ sym (ap (λ (v : Value). store c.args.self.now v c.args.width c.args.value.now) c.in-Ptr.is)

pub returns-clause-same : goal.returns-clause-same
returns-clause-same c = λ off.
    let at : map.get c.args.self.now c.in-Ptr.block ≡ Some c.in-Some.cells.now = ap (λ (m : Blocks). map.get m c.in-Ptr.block) (sym c.self.view_is) ∙ get_is c.self.inside.named.entries c.in-Ptr.block ∙ sym c.in-Some.ensures.value in
    inserted c.self.inside.named.entries (c.get_mut.follows.lender c.write.new.self).entries c.in-Ptr.block c.write.new.self ((c.get_mut.follows.holds c.write.new.self).3 (subst IsSome c.in-Some.ensures.value refl)).0
    ∙ ap (λ (m : Blocks). map.insert m c.in-Ptr.block c.write.new.self) c.self.view_is
    ∙ ap (λ (k : Block). map.insert c.args.self.now c.in-Ptr.block k) (c.write.ensures.same off)
    ∙ insert_same c.args.self.now c.in-Ptr.block c.in-Some.cells.now at
