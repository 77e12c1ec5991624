-- What linked units of Core do.
use Rattle.std.specs.Prelude.{ℕ, List, map}
use Rattle.cc_base.specs.Runs.{State}
use Rattle.pass_core.specs.Semantics.{Semantics, run_of}
use Rattle.pass_core.specs.Turns.{Turns, turning}
use Rattle.unit_names.specs.Names.{FunctionPart, NamedUnit, all_objects, all_callees, main_of, start_of}
use Rattle.core_lang.specs.declared.syntax.Function.{Function}
use Rattle.core_lang.specs.declared.syntax.CoreUnit.{CoreUnit}
use Rattle.core_lang.specs.Meaning.{Program, World, Run, step, begun}
use Rattle.core_lang.specs.Prices.{price}

-- what a step from each world comes to, and what it costs
abbrev pub turns : Program → Turns World
turns p = record { turn = step p; price = price }

-- a run takes a step as long as it goes on
abbrev pub core : Program → Semantics Run
core p = turning (turns p)

abbrev pub function_part : Function → FunctionPart
function_part f = record { symbol = f.symbol; is_static = f.is_static; need = f.need }

-- what naming needs of a unit
abbrev pub named : CoreUnit → NamedUnit
named u = record { face = u.naming.face; globals = u.naming.globals; symbol_names = u.naming.symbol_names; functions = map function_part u.functions }

abbrev pub all_named : List CoreUnit → List NamedUnit
all_named units = map named units

abbrev pub all_functions : List CoreUnit → List (List Function)
all_functions units = map (λ (u : CoreUnit). u.functions) units

-- the linked program
abbrev pub linked : List CoreUnit → ℕ → Program
linked units room = record { functions = all_functions units; objects = all_objects (all_named units); callees = all_callees (all_named units); room = room }

-- it starts with `main`
abbrev pub start_run : List CoreUnit → ℕ → List ℕ → Run
start_run units room input = begun (linked units room) (start_of (all_named units)) (main_of (all_named units)) input

-- how linked units stand, and what they did to the outside, after so many steps
abbrev pub core_after : List CoreUnit → ℕ → List ℕ → ℕ → State
core_after units room input n = run_of (core (linked units room)) (start_run units room input) n
