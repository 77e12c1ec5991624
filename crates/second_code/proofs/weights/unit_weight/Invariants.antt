use Rattle.std.proofs.Common.{◌≡◌, take}
use Rattle.std.specs.Prelude.{min}
use Rattle.std.specs.List.{sum_by}
use Rattle.second_code.specs.Weights.{item_weight}
use Rattle.second_code.proofs.weights.unit_weight.Given as goal

abbrev pub invariant-items : goal.invariant-items
invariant-items l = l.weight ≡ min (sum_by item_weight (take l.item-index l.items)) 1048577
