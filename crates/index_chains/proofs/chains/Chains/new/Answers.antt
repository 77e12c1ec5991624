use Rattle.std.proofs.Common.{arith}
use Rattle.index_chains.proofs.Calls.{new_shows, new_unlinked}
use Rattle.index_chains.proofs.chains.Chains.new.Goals as goal

pub invariant_of-result : goal.invariant_of-result
invariant_of-result c =
    (new_shows _ _ _ _ (omega (arith, c.ranges.nodes.fits)) c.in_ok-next.ensures.long c.in_ok-prev.ensures.long c.in_ok-next.ensures.lone c.in_ok-prev.ensures.lone).keeps

pub returns-clause-empty : goal.returns-clause-empty
returns-clause-empty c =
    (new_shows _ _ _ _ (omega (arith, c.ranges.nodes.fits)) c.in_ok-next.ensures.long c.in_ok-prev.ensures.long c.in_ok-next.ensures.lone c.in_ok-prev.ensures.lone).is

pub returns-clause-unlinked : goal.returns-clause-unlinked
returns-clause-unlinked c = new_unlinked c.args.heads c.args.nodes _ (returns-clause-empty c)
