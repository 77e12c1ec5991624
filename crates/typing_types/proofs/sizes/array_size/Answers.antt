-- The outermost length is past the greatest size already, or the others are.
use Rattle.std.proofs.Common.{◌*◌, arith}
use Rattle.typing_types.proofs.Products.{scaled_more, array_past}
use Rattle.typing_types.proofs.sizes.array_size.Goals as goal

pub returns-in_err-product-clause-none : goal.returns-in_err-product-clause-none
returns-in_err-product-clause-none c =
    let past = c.in_err-product.ensures in
    rw c.from_residual.ensures
    (array_past c.args.size c.args.count c.args.inner.now (scaled_more (c.args.size * c.args.count) c.args.inner.now (omega arith)))
