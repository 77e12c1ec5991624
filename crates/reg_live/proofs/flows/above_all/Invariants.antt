use Rattle.std.proofs.Common.{◌≤◌, ◌^◌, take}
use Rattle.reg_live.specs.Sweeps.{AreBelow}
use Rattle.reg_live.proofs.flows.above_all.Given as goal

-- above those that were gone through
abbrev pub invariant-loop-temporary : goal.invariant-loop-temporary
invariant-loop-temporary l = record { below : AreBelow l.least (take l.temporary-index l.temporaries); small : l.least ≤ 2 ^ 32 }
