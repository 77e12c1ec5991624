use Rattle.std.proofs.Common.{◌≡◌, drop}
use Rattle.clight_sem.specs.Turns.{without_locals}
use Rattle.mean_run.proofs.memories.end_locals.Given as goal

abbrev pub invariant-sizes : goal.invariant-sizes
invariant-sizes l = record {
  index : l.index ≡ l.size-index;
  left : without_locals l.memory l.activation l.index (drop l.size-index l.sizes) ≡ without_locals l.fn.memory l.activation 0 l.sizes;
}
