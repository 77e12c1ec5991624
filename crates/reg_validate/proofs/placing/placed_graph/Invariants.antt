use Rattle.std.proofs.Common.{◌≡◌, map, take}
use Rattle.reg_homes.specs.Homes.{home_of, placed}
use Rattle.reg_validate.proofs.placing.placed_graph.Given as goal

-- those that were gone through are placed
abbrev pub invariant-nodes : goal.invariant-nodes
invariant-nodes l = l.made ≡ map (placed (home_of l.homes)) (take l.node-index l.graph)
