use Rattle.std.proofs.Common.{◌≡◌, length, drop}
use Rattle.clight_sem.specs.Functions.{same_types}
use Rattle.mean_start.proofs.types.same_types.Given as goal

abbrev pub invariant-types : goal.invariant-types
invariant-types l = record {
  long : length l.left ≡ length l.right;
  left : same_types (drop l.index l.left) (drop l.index l.right) ≡ same_types l.left l.right;
}
