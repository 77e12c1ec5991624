-- A run of Rtl only adds acts, and one that is over stays as it is.
use Rattle.std.specs.Prelude.{ℕ, List}
use Rattle.cc_base.specs.Runs.{GrowsAt}
use Rattle.pass_core.specs.Semantics.{Steady}
use Rattle.pass_core.specs.laws.Simulation.{run_grows}
use Rattle.pass_core.specs.laws.Turns.{run_steady}
use Rattle.unit_passes.specs.declared.units.UnitOf.{UnitOf}
use Rattle.rtl_lang.specs.declared.syntax.RtlParts.{RtlParts}
use Rattle.rtl_lang.specs.Meaning.{RtlProgram}
use Rattle.rtl_lang.specs.Units.{rtl_turns, rtl, linked, start_run, rtl_after}

pub rtl_steady : (p : RtlProgram) → Steady (rtl p)
rtl_steady p = run_steady (rtl_turns p)

pub rtl_grows : (units : List (UnitOf RtlParts)) (room : ℕ) (input : List ℕ) (n : ℕ) → GrowsAt (rtl_after units room input) n
rtl_grows units room input n = run_grows (rtl (linked units room)) (rtl_steady (linked units room)) (start_run units room input) n
