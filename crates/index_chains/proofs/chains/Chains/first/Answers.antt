use Rattle.std.proofs.Common.{◌∙◌}
use Rattle.index_chains.proofs.Calls.{first_shows, read_linked}
use Rattle.index_chains.proofs.chains.Chains.first.Goals as goal

pub returns-clause-first : goal.returns-clause-first
returns-clause-first c =
    c.node_at.ensures
    ∙ first_shows _ _ _ _ c.self.view_is c.self.invariant c.args.head _ c.requires c.index.ensures

pub returns-clause-linked : goal.returns-clause-linked
returns-clause-linked c = read_linked c.args.self.now.lists c.args.head 0 _ (returns-clause-first c)
