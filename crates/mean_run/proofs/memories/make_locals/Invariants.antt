use Rattle.std.proofs.Common.{◌≡◌, drop}
use Rattle.clight_sem.specs.Turns.{with_locals}
use Rattle.mean_run.proofs.memories.make_locals.Given as goal

abbrev pub invariant-sizes : goal.invariant-sizes
invariant-sizes l = record {
  index : l.index ≡ l.size-index;
  left : with_locals l.memory l.activation l.index (drop l.size-index l.sizes) ≡ with_locals l.fn.memory l.activation 0 l.sizes;
}
