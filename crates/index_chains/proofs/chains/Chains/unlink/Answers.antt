use Rattle.index_chains.proofs.Calls.{removal_shows, removal_unlinked, removal_others}
use Rattle.index_chains.proofs.chains.Chains.unlink.Goals as goal

pub invariant_of-self : goal.invariant_of-self
invariant_of-self c =
    (removal_shows _ _ _ _ c.self.view_is c.self.invariant c.args.node _ _ c.requires.node_in_range c.requires.linked c.index-before.ensures c.index-after.ensures).keeps

pub returns-clause-taken : goal.returns-clause-taken
returns-clause-taken c =
    (removal_shows _ _ _ _ c.self.view_is c.self.invariant c.args.node _ _ c.requires.node_in_range c.requires.linked c.index-before.ensures c.index-after.ensures).is

pub returns-clause-unlinked : goal.returns-clause-unlinked
returns-clause-unlinked c = removal_unlinked c.args.self.now _ c.args.node (returns-clause-taken c)

pub returns-clause-others : goal.returns-clause-others
returns-clause-others c = removal_others c.args.self.now _ c.args.node (returns-clause-taken c)
