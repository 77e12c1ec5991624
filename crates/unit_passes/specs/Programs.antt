-- Linked programs over functions of any language.
use Rattle.std.specs.Prelude.{ℕ, List, [], map, get_or, slice_get, Option}
use Rattle.std.specs.Option.{option_and_then}
use Rattle.block_mem.specs.declared.value.BlockName.{BlockName}
use Rattle.unit_names.specs.declared.meaning.Meaning.{Meaning}
use Rattle.unit_names.specs.declared.meaning.Meaning.TheVariants as meaning
use Rattle.unit_names.specs.Names.{FunctionPart, NamedUnit, all_objects, all_callees}
use Rattle.unit_passes.specs.declared.units.UnitOf.{UnitOf}
use Rattle.unit_passes.specs.Units.{named_of}

-- the functions of each unit, what each symbol of each unit means as an object and as a callee, and the room for the needs of all
-- active calls together, in bytes
pub record Program (F : Type 0) : Type 0 where
  pub functions : List (List F)
  pub objects : List (List (Option BlockName))
  pub callees : List (List Meaning)
  pub room : ℕ

abbrev pub function_at : {F : Type 0} → Program F → ℕ → ℕ → Option F
function_at {F} p unit index = option_and_then (λ (fs : List F). slice_get fs index) (slice_get p.functions unit)

abbrev pub objects_at : {F : Type 0} → Program F → ℕ → List (Option BlockName)
objects_at p unit = get_or p.objects unit []

abbrev pub callee_at : {F : Type 0} → Program F → ℕ → ℕ → Meaning
callee_at p unit symbol = get_or (get_or p.callees unit []) symbol meaning.Nothing

-- what naming needs of each unit
abbrev pub all_named : {F : Type 0} → (F → FunctionPart) → List (UnitOf F) → List NamedUnit
all_named part units = map (named_of part) units

abbrev pub all_functions : {F : Type 0} → List (UnitOf F) → List (List F)
all_functions {F} units = map (λ (u : UnitOf F). u.functions) units

-- the linked program
abbrev pub linked : {F : Type 0} → (F → FunctionPart) → List (UnitOf F) → ℕ → Program F
linked part units room = record { functions = all_functions units; objects = all_objects (all_named part units); callees = all_callees (all_named part units); room = room }
