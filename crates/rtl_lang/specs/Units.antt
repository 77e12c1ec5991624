-- What linked units of Rtl do.
use Rattle.std.specs.Prelude.{ℕ, List}
use Rattle.cc_base.specs.Runs.{State}
use Rattle.pass_core.specs.Semantics.{Semantics, run_of}
use Rattle.pass_core.specs.Turns.{Run, Turns, turning}
use Rattle.unit_names.specs.Names.{FunctionPart, NamedUnit, main_of, start_of}
use Rattle.unit_passes.specs.declared.units.UnitOf.{UnitOf}
use Rattle.unit_passes.specs.Units.{named_of}
use Rattle.unit_passes.specs.Programs as programs
use Rattle.rtl_lang.specs.declared.syntax.RtlParts.{RtlParts}
use Rattle.rtl_lang.specs.Meaning.{RtlProgram, RtlWorld, rtl_turn, begun}
use Rattle.rtl_lang.specs.Prices.{price}

-- what each turn comes to, and what it costs
abbrev pub rtl_turns : RtlProgram → Turns RtlWorld
rtl_turns p = record { turn = rtl_turn p; price = price }

abbrev pub rtl : RtlProgram → Semantics (Run RtlWorld)
rtl p = turning (rtl_turns p)

abbrev pub function_part : RtlParts → FunctionPart
function_part f = record { symbol = f.symbol; is_static = f.is_static; need = f.need }

-- what naming needs of a unit
abbrev pub named : UnitOf RtlParts → NamedUnit
named u = named_of function_part u

abbrev pub all_named : List (UnitOf RtlParts) → List NamedUnit
all_named units = programs.all_named function_part units

-- the linked program
abbrev pub linked : List (UnitOf RtlParts) → ℕ → RtlProgram
linked units room = programs.linked function_part units room

-- it starts with `main`
abbrev pub start_run : List (UnitOf RtlParts) → ℕ → List ℕ → Run RtlWorld
start_run units room input = begun (linked units room) (start_of (all_named units)) (main_of (all_named units)) input

-- how linked units stand, and what they did to the outside, after so many steps
abbrev pub rtl_after : List (UnitOf RtlParts) → ℕ → List ℕ → ℕ → State
rtl_after units room input n = run_of (rtl (linked units room)) (start_run units room input) n
