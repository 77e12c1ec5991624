-- A step only adds acts, and a run that is over stays as it is.
use Rattle.std.specs.Prelude.{ℕ, List}
use Rattle.cc_base.specs.Runs.{GrowsAt}
use Rattle.pass_core.specs.Semantics.{Steady}
use Rattle.pass_core.specs.laws.Simulation.{run_grows}
use Rattle.pass_core.specs.laws.Turns.{run_steady}
use Rattle.core_lang.specs.Meaning.{Program}
use Rattle.core_lang.specs.Units.{turns, core, linked, start_run, core_after}
use Rattle.core_lang.specs.declared.syntax.CoreUnit.{CoreUnit}

pub core_steady : (p : Program) → Steady (core p)
core_steady p = run_steady (turns p)

pub core_grows : (units : List CoreUnit) (room : ℕ) (input : List ℕ) (n : ℕ) → GrowsAt (core_after units room input) n
core_grows units room input n = run_grows (core (linked units room)) (core_steady (linked units room)) (start_run units room input) n
