use Rattle.std.proofs.Common.{◌≡◌, map, take}
use Rattle.reg_homes.specs.Homes.{home_of}
use Rattle.reg_validate.proofs.placing.placed_arguments.Given as goal

-- those that were gone through are in their homes
abbrev pub invariant-arguments : goal.invariant-arguments
invariant-arguments l = l.made ≡ map (home_of l.homes) (take l.argument-index l.arguments)
