use Rattle.std.proofs.Common.{◌≡◌, take}
use Rattle.std.specs.List.{sum_by}
use Rattle.typing_nodes.specs.Nodes.{told_nodes, object_nodes}
use Rattle.typing_nodes.proofs.declarations.all_object_nodes.Given as goal

abbrev pub invariant-items : goal.invariant-items
invariant-items l = l.count ≡ told_nodes (sum_by object_nodes (take l.item-index l.items))
