-- What linked units of Ltl do.
use Rattle.std.specs.Prelude.{ℕ, List}
use Rattle.cc_base.specs.Runs.{State}
use Rattle.pass_core.specs.Semantics.{Semantics, run_of}
use Rattle.pass_core.specs.Turns.{Run, Turns, turning}
use Rattle.unit_names.specs.Names.{FunctionPart, NamedUnit, main_of, start_of}
use Rattle.unit_passes.specs.declared.units.UnitOf.{UnitOf}
use Rattle.unit_passes.specs.Units.{named_of}
use Rattle.unit_passes.specs.Programs as programs
use Rattle.ltl_lang.specs.declared.syntax.LtlParts.{LtlParts}
use Rattle.ltl_lang.specs.Meaning.{LtlProgram, LtlWorld, ltl_turn, begun}
use Rattle.ltl_lang.specs.Prices.{price}

-- what each turn comes to, and what it costs
abbrev pub ltl_turns : LtlProgram → Turns LtlWorld
ltl_turns p = record { turn = ltl_turn p; price = price }

abbrev pub ltl : LtlProgram → Semantics (Run LtlWorld)
ltl p = turning (ltl_turns p)

abbrev pub function_part : LtlParts → FunctionPart
function_part f = record { symbol = f.symbol; is_static = f.is_static; need = f.need }

-- what naming needs of a unit
abbrev pub named : UnitOf LtlParts → NamedUnit
named u = named_of function_part u

abbrev pub all_named : List (UnitOf LtlParts) → List NamedUnit
all_named units = programs.all_named function_part units

-- the linked program
abbrev pub linked : List (UnitOf LtlParts) → ℕ → LtlProgram
linked units room = programs.linked function_part units room

-- it starts with `main`
abbrev pub start_run : List (UnitOf LtlParts) → ℕ → List ℕ → Run LtlWorld
start_run units room input = begun (linked units room) (start_of (all_named units)) (main_of (all_named units)) input

-- how linked units stand, and what they did to the outside, after so many steps
abbrev pub ltl_after : List (UnitOf LtlParts) → ℕ → List ℕ → ℕ → State
ltl_after units room input n = run_of (ltl (linked units room)) (start_run units room input) n
