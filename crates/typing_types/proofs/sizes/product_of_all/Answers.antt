-- One product is past the greatest size.
use Rattle.typing_types.proofs.Products.{scaled_past_at}
use Rattle.typing_types.proofs.sizes.product_of_all.Goals as goal

pub returns-in_err-total-clause-none : goal.returns-in_err-total-clause-none
returns-in_err-total-clause-none c =
    rw c.from_residual.ensures
    (scaled_past_at c.args.size c.loop-length.total c.loop-length.length-index _ c.args.lengths.now c.loop-length-test.true c.loop-length.invariant.same c.in_err-total.ensures)
