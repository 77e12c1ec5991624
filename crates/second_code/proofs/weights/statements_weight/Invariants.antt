use Rattle.std.proofs.Common.{◌≡◌, take}
use Rattle.std.specs.Prelude.{min}
use Rattle.std.specs.List.{sum_by}
use Rattle.second_code.specs.Weights.{statement_weight}
use Rattle.second_code.proofs.weights.statements_weight.Given as goal

abbrev pub invariant-statements : goal.invariant-statements
invariant-statements l = l.weight ≡ min (sum_by statement_weight (take l.statement-index l.statements)) 1048577
