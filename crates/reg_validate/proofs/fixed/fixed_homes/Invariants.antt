use Rattle.std.proofs.Common.{◌≡◌}
use Rattle.reg_validate.specs.Fixed.{fixed_homes}
use Rattle.reg_validate.proofs.fixed.fixed_homes.Given as goal

-- those below have theirs
abbrev pub invariant-homes : goal.invariant-homes
invariant-homes l = l.homes ≡ fixed_homes l.temporary
