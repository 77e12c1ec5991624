use Rattle.std.proofs.Common.{◌≡◌}
use Rattle.rtl_lang.specs.Routines.{routine}
use Rattle.bit_rows.specs.Rows.{height}
use Rattle.reg_live.specs.Sweeps.{Fits, IsSound, clear}
use Rattle.reg_live.proofs.sweeps.settle.Given as goal

-- rows fit, and are sound if they were so at first
abbrev pub invariant-loop-places : goal.invariant-loop-places
invariant-loop-places l = record { fits : Fits (routine l.function) l.rows; high : height l.rows ≡ height l.initial.rows; sound : IsSound (routine l.function) l.initial.rows → IsSound (routine l.function) l.rows }

-- the bits that are clear
abbrev pub decreases-loop-places : goal.decreases-loop-places
decreases-loop-places l = clear l.rows
