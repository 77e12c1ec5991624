-- What is left to multiply makes of the total what all lengths make of the size.
use Rattle.std.proofs.Common.{◌≡◌, ◌≤◌, drop}
use Rattle.typing_types.specs.Widths.{largest, scaled}
use Rattle.typing_types.proofs.sizes.product_of_all.Given as goal

abbrev pub invariant-loop-length : goal.invariant-loop-length
invariant-loop-length l = record {
  small : l.total ≤ largest;
  same : scaled l.total (drop l.length-index l.lengths) ≡ scaled l.fn.size l.lengths;
}
