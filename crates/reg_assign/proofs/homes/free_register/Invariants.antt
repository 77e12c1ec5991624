use Rattle.std.proofs.Common.{◌≡◌, ◌≤◌, ◌<◌, ◌-◌, All, length}
use Rattle.reg_assign.specs.Rows.{IsSquare}
use Rattle.reg_assign.specs.Assignments.{HasOwnSlots}
use Rattle.reg_assign.proofs.homes.free_register.Given as goal

-- the bits that are left
abbrev pub decreases-loop-other : goal.decreases-loop-other
decreases-loop-other l = l.rows.width - l.from
