use Rattle.std.proofs.Common.{take}
use Rattle.reg_live.specs.Sweeps.{Adds, InRow}
use Rattle.reg_live.proofs.sweeps.insert_all.Given as goal

-- those that were gone through are in the row
abbrev pub invariant-loop-temporary : goal.invariant-loop-temporary
invariant-loop-temporary l = Adds (InRow l.place (take l.temporary-index l.temporaries)) l.initial.rows l.rows l.changed
