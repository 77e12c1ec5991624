use Rattle.std.proofs.Common.{◌≡◌, take}
use Rattle.std.specs.List.{sum_by}
use Rattle.typing_nodes.specs.Nodes.{told_nodes, initialiser_nodes}
use Rattle.typing_nodes.proofs.declarations.+initialiser.Given as goal

abbrev pub invariant-all_initialiser_nodes-items : goal.invariant-all_initialiser_nodes-items
invariant-all_initialiser_nodes-items l = l.count ≡ told_nodes (sum_by initialiser_nodes (take l.item-index l.items))
