use Rattle.std.proofs.Common.{◌≡◌, take}
use Rattle.std.specs.List.{sum_by}
use Rattle.typing_nodes.specs.Nodes.{told_nodes, locals_nodes}
use Rattle.typing_nodes.proofs.declarations.locals_nodes.Given as goal

abbrev pub invariant-locals : goal.invariant-locals
invariant-locals l = l.count ≡ told_nodes (sum_by locals_nodes (take l.list-index l.locals))
