use Rattle.index_chains.proofs.Calls.{test_shows, disjoint_shows}
use Rattle.index_chains.proofs.chains.Chains.is_linked.Goals as goal

pub returns-clause-linked : goal.returns-clause-linked
returns-clause-linked c = test_shows _ _ _ _ c.self.view_is c.self.invariant c.args.node _ c.requires c.index.ensures

pub returns-clause-disjoint : goal.returns-clause-disjoint
returns-clause-disjoint c = disjoint_shows _ _ _ _ c.self.view_is c.self.invariant
