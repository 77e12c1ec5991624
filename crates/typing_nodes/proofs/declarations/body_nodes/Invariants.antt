use Rattle.std.proofs.Common.{◌≡◌, take}
use Rattle.std.specs.List.{sum_by}
use Rattle.typing_nodes.specs.Nodes.{told_nodes, stmt_nodes}
use Rattle.typing_nodes.proofs.declarations.body_nodes.Given as goal

abbrev pub invariant-body : goal.invariant-body
invariant-body l = l.count ≡ told_nodes (sum_by stmt_nodes (take l.statement-index l.body))
