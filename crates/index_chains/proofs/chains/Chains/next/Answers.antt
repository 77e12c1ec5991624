use Rattle.std.proofs.Common.{◌∙◌, ◌+◌}
use Rattle.index_chains.proofs.Calls.{next_shows, apart_shows, linked_shows, read_linked}
use Rattle.index_chains.proofs.chains.Chains.next.Goals as goal

pub returns-then-after-cell-clause-behind : goal.returns-then-after-cell-clause-behind
returns-then-after-cell-clause-behind c = λ head place at. absurd (apart_shows _ _ _ _ c.self.view_is c.self.invariant c.args.node _ c.requires c.index-after.ensures (head, place, at) c.if-after-cell.true)

pub returns-else-after-cell-clause-behind : goal.returns-else-after-cell-clause-behind
returns-else-after-cell-clause-behind c = λ head place at. c.node_at.ensures ∙ next_shows _ _ _ _ c.self.view_is c.self.invariant c.args.node _ c.requires c.index-after.ensures head place at

pub returns-else-after-cell-clause-unlinked : goal.returns-else-after-cell-clause-unlinked
returns-else-after-cell-clause-unlinked c = λ unlinked. absurd (unlinked (linked_shows _ _ _ _ c.self.view_is c.self.invariant c.args.node _ c.requires c.index-after.ensures c.if-after-cell.false))

pub returns-else-after-cell-clause-linked : goal.returns-else-after-cell-clause-linked
returns-else-after-cell-clause-linked c =
    let at = linked_shows _ _ _ _ c.self.view_is c.self.invariant c.args.node _ c.requires c.index-after.ensures c.if-after-cell.false in
    read_linked c.args.self.now.lists at.0 (at.1 + 1) _ (returns-else-after-cell-clause-behind c at.0 at.1 at.2)
