use Rattle.std.proofs.Common.{◌≡◌, ℕ, ◌<◌, false}
use Rattle.rtl_lang.specs.Routines.{routine}
use Rattle.reg_live.specs.Sweeps.{IsSettled, Moves}
use Rattle.reg_live.proofs.sweeps.sweep.Given as goal

-- where nothing changed, the places that were gone through are settled
abbrev pub invariant-loop-place : goal.invariant-loop-place
invariant-loop-place l = record { moves : Moves (routine l.function) l.initial.rows l.rows l.changed; settled : l.changed ≡ false → (n : ℕ) → n < l.place → IsSettled (routine l.function) l.rows n }
