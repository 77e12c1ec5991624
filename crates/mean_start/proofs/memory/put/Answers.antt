use Rattle.std.proofs.Common.{◌≤◌, ℕ, ap, sym, subst, arith, ◌∙◌}
use Rattle.block_mem.specs.Blocks.{Blocks}
use Rattle.mean_start.specs.Making.{size_in}
use Rattle.mean_start.proofs.Blocks.{size-first, first_past}
use Rattle.mean_start.proofs.memory.put.Goals as goal

pub returns-then-place-from-clause-size : goal.returns-then-place-from-clause-size
returns-then-place-from-clause-size c =
    ap (λ (m : Blocks). size_in m c.args.name) c.set_first.ensures
    ∙ size-first c.args.memory.now c.args.name c.args.place c.args.byte
    ∙ c.requires.size

pub returns-else-place-from-clause-put : goal.returns-else-place-from-clause-put
returns-else-place-from-clause-put c =
    let behind : c.args.size ≤ c.args.place = omega arith in
    sym (first_past c.args.memory.now c.args.name c.args.place c.args.byte (subst (λ (n : ℕ). n ≤ c.args.place) (sym c.requires.size) behind))
