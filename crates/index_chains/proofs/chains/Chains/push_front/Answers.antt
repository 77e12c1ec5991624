use Rattle.index_chains.proofs.Calls.{front_shows, front_linked, front_others}
use Rattle.index_chains.proofs.chains.Chains.push_front.Goals as goal

pub invariant_of-self : goal.invariant_of-self
invariant_of-self c =
    (front_shows _ _ _ _ c.self.view_is c.self.invariant c.args.head c.args.node _ c.requires.head_in_range c.requires.node_in_range c.requires.unlinked c.index-first.ensures).keeps

pub returns-clause-front : goal.returns-clause-front
returns-clause-front c =
    (front_shows _ _ _ _ c.self.view_is c.self.invariant c.args.head c.args.node _ c.requires.head_in_range c.requires.node_in_range c.requires.unlinked c.index-first.ensures).is

pub returns-clause-linked : goal.returns-clause-linked
returns-clause-linked c = front_linked c.args.self.now _ c.args.node c.args.head (returns-clause-front c) c.requires.head_in_range

pub returns-clause-others : goal.returns-clause-others
returns-clause-others c = front_others c.args.self.now _ c.args.node c.args.head (returns-clause-front c) c.requires.head_in_range
