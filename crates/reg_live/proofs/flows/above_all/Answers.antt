use Rattle.std.proofs.Common.{◌<◌, length, arith}
use Rattle.reg_live.proofs.Listing.{below_more, below_all}
use Rattle.reg_live.proofs.flows.above_all.Goals as goal

pub loop-temporary-preserved : goal.loop-temporary-preserved
loop-temporary-preserved c =
    let ts = c.args.temporaries.now in
    let i = c.loop-temporary.temporary-index in
    let was = c.loop-temporary.invariant in
    let inside : i < length ts = omega arith in
    record {
      below = below_more ts i c.loop-temporary.least c.greater-least.result inside was.below (omega (arith, c.greater-least.ensures)) (omega (arith, c.greater-least.ensures));
      small = omega (arith, c.greater-least.ensures, c.type_inv.temporaries i);
    }

pub returns-clause-below : goal.returns-clause-below
returns-clause-below c = below_all c.args.temporaries.now c.loop-temporary.temporary-index c.loop-temporary.least (omega arith) c.loop-temporary.invariant.below
