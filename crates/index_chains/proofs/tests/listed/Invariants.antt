use Rattle.std.proofs.Common.{◌<◌, IfSome}
use Rattle.index_chains.proofs.tests.listed.Given as goal

abbrev pub invariant-loop : goal.invariant-loop
invariant-loop l = IfSome l.at (λ node. node < l.chains.nodes)
