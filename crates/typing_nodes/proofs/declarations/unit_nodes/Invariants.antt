use Rattle.std.proofs.Common.{◌≡◌, take}
use Rattle.std.specs.List.{sum_by}
use Rattle.typing_nodes.specs.Nodes.{told_nodes, external_nodes}
use Rattle.typing_nodes.proofs.declarations.unit_nodes.Given as goal

abbrev pub invariant-externals : goal.invariant-externals
invariant-externals l = l.count ≡ told_nodes (sum_by external_nodes (take l.external-index l.tree))
