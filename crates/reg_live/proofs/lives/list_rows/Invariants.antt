use Rattle.reg_live.specs.Sweeps.{Listed}
use Rattle.reg_live.proofs.lives.list_rows.Given as goal

-- the rows that were gone through are listed
abbrev pub invariant-loop-place : goal.invariant-loop-place
invariant-loop-place l = Listed l.rows l.place l.lists
