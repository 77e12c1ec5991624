-- The typed unit of a tree, and the rules that the tree breaks.
use Rattle.std.specs.Prelude.{◌≡◌, ℕ, ⊤, List, [], Option, Some, None, Result, Ok, Err}
use Rattle.std.specs.Option.{option_map}
use Rattle.std.specs.List.{Contains}
use Rattle.text_grammar.specs.declared.tree.External.{External}
use Rattle.typing_faults.specs.declared.fault.Row.{Row}
use Rattle.typing_faults.specs.declared.fault.TypeKind.{TypeKind}
use Rattle.typing_faults.specs.Faults.{told}
use Rattle.clight_unit.specs.declared.unit.ClightUnit.{ClightUnit}
use Rattle.clight_unit.specs.declared.function.Function.{Function}
use Rattle.typing_declarations.specs.declared.whole.Whole.{Whole}
use Rattle.typing_declarations.specs.Whole.{whole_of}
use Rattle.typing_units.specs.declared.walk.Walk.{Walk}
use Rattle.typing_units.specs.declared.checking.TypeFault.{TypeFault}
use Rattle.typing_units.specs.declared.checking.TypeFault.TheVariants as fault
use Rattle.typing_units.specs.Walk.{walk_before, walk_rows, walk_behind}
use Rattle.typing_units.specs.Faces.{symbol_names, face_of, callees_of}

-- The rows that a tree breaks

abbrev pub rows_of : List External → List Row
rows_of tree = walk_rows (whole_of tree) (walk_before (whole_of tree) tree) tree

-- a rule of this kind is broken at this place
abbrev pub Broken : List External → TypeKind → ℕ → Type 0
Broken tree kind at = Contains (rows_of tree) (record { kind = kind; at = at })

-- the broken row of least place, and at one place the first kind
abbrev pub fault_of : List External → Option Row
fault_of tree = told None (rows_of tree)

-- The typed unit

abbrev pub unit_with : Whole → List External → Walk → List Function → ClightUnit
unit_with whole tree walk functions =
    record {
      face = face_of whole.symbols walk.scope functions;
      symbol_names = symbol_names whole.symbols 0 whole.symbols.names;
      callees = callees_of whole.symbols tree;
      globals = walk.globals;
      functions = functions;
      nodes = walk.nodes;
    }

abbrev pub unit_behind : Whole → List External → Walk → Option ClightUnit
unit_behind whole tree walk = option_map (unit_with whole tree walk) walk.functions

abbrev pub unit_of : List External → Option ClightUnit
unit_of tree = unit_behind (whole_of tree) tree (walk_behind (whole_of tree) (walk_before (whole_of tree) tree) tree)

-- no rule is broken, and this is the unit
pub record Typed (tree : List External) (unit : ClightUnit) : Type 0 where
  pub unbroken : rows_of tree ≡ []
  pub is_unit : unit_of tree ≡ Some unit

-- what `check` may answer
abbrev pub Checked : List External → Result ClightUnit TypeFault → Type 0
Checked tree (Ok unit) = Typed tree unit
Checked tree (Err (fault.Rule kind at)) = fault_of tree ≡ Some (record { kind = kind; at = at })
Checked tree (Err fault.Memory) = ⊤
