-- A run of Ltl only adds acts, and one that is over stays as it is.
use Rattle.std.specs.Prelude.{ℕ, List}
use Rattle.cc_base.specs.Runs.{GrowsAt}
use Rattle.pass_core.specs.Semantics.{Steady}
use Rattle.pass_core.specs.laws.Simulation.{run_grows}
use Rattle.pass_core.specs.laws.Turns.{run_steady}
use Rattle.unit_passes.specs.declared.units.UnitOf.{UnitOf}
use Rattle.ltl_lang.specs.declared.syntax.LtlParts.{LtlParts}
use Rattle.ltl_lang.specs.Meaning.{LtlProgram}
use Rattle.ltl_lang.specs.Units.{ltl_turns, ltl, linked, start_run, ltl_after}

pub ltl_steady : (p : LtlProgram) → Steady (ltl p)
ltl_steady p = run_steady (ltl_turns p)

pub ltl_grows : (units : List (UnitOf LtlParts)) (room : ℕ) (input : List ℕ) (n : ℕ) → GrowsAt (ltl_after units room input) n
ltl_grows units room input n = run_grows (ltl (linked units room)) (ltl_steady (linked units room)) (start_run units room input) n
