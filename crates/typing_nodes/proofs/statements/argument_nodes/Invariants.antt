use Rattle.std.proofs.Common.{◌≡◌, take}
use Rattle.std.specs.List.{sum_by}
use Rattle.typing_nodes.specs.Nodes.{told_nodes, expr_nodes}
use Rattle.typing_nodes.proofs.statements.argument_nodes.Given as goal

abbrev pub invariant-arguments : goal.invariant-arguments
invariant-arguments l = l.count ≡ told_nodes (sum_by expr_nodes (take l.argument-index l.arguments))
