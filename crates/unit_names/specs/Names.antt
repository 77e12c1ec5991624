-- What names mean over linked units, in every language (C11, 6.2.2): in a unit its own definition, static or not, else the one that
-- another unit shows, else a function of the runtime. Of all that a unit is made of, one record decides it, which each language gives
-- of its units.
use Rattle.std.specs.Prelude.{ℕ, ◌+◌, Bool, not, cond, ◌&&◌, List, [], ◌∷◌, map, position, slice_get, Option, None, option_map, unwrap_or, codes}
use Rattle.std.specs.List.{list_any}
use Rattle.std.specs.Option.{option_or, option_map_or}
use Rattle.std.specs.Str.{bytes_eq}
use Rattle.cc_base.specs.Faces.{first_answer}
use Rattle.cc_base.specs.declared.face.Face.{Face}
use Rattle.cc_base.specs.declared.face.GlobalPart.{GlobalPart}
use Rattle.cc_base.specs.declared.face.SymbolName.{SymbolName}
use Rattle.block_mem.specs.Blocks.{Blocks}
use Rattle.block_mem.specs.Start.{UnitParts, is_own, is_seen, is_shared, object_in, object_of, meant, start}
use Rattle.block_mem.specs.declared.value.BlockName.{BlockName}
use Rattle.unit_names.specs.declared.meaning.Meaning.{Meaning}
use Rattle.unit_names.specs.declared.meaning.Meaning.TheVariants as meaning

-- what callers and other units need of a function: the number of its symbol, whether it is static, and the stack that a call of it
-- needs, in bytes
pub record FunctionPart : Type 0 where
  pub symbol : ℕ
  pub is_static : Bool
  pub need : ℕ

-- what a unit of any language brings beside its code
pub record NamedUnit : Type 0 where
  pub face : Face
  pub globals : List GlobalPart
  pub symbol_names : List SymbolName
  pub functions : List FunctionPart

-- the name of the symbol of this number, and no bytes where there is none
abbrev pub symbol_name : NamedUnit → ℕ → List ℕ
symbol_name u symbol = option_map_or (λ (s : SymbolName). s.name) (slice_get u.symbol_names symbol) []

abbrev pub main_name : List ℕ
main_name = codes "main"

abbrev pub is_function_named : NamedUnit → List ℕ → FunctionPart → Bool
is_function_named u name f = bytes_eq (symbol_name u f.symbol) name

-- other units see it under this name
abbrev pub is_shown : NamedUnit → List ℕ → FunctionPart → Bool
is_shown u name f = is_function_named u name f && not f.is_static

-- Objects: the blocks of the start

abbrev pub parts_of : NamedUnit → UnitParts
parts_of u = record { face = u.face; globals = u.globals }

abbrev pub all_parts : List NamedUnit → List UnitParts
all_parts units = map parts_of units

-- what a name means as an object in the unit of this number. A function of the unit is none
abbrev pub object_meant : List UnitParts → ℕ → NamedUnit → List ℕ → Option BlockName
object_meant parts unit u name = cond (list_any (is_function_named u name) u.functions) None (meant parts unit (parts_of u) name)

-- what its symbols mean as objects, in their order
abbrev pub objects_of : List UnitParts → ℕ → NamedUnit → List (Option BlockName)
objects_of parts unit u = map (λ (s : SymbolName). object_meant parts unit u s.name) u.symbol_names

-- Functions

-- the first function of a unit that passes a test
abbrev pub function_in : (NamedUnit → FunctionPart → Bool) → ℕ → NamedUnit → Option Meaning
function_in test unit u = option_map (λ index. meaning.Function unit index) (position (test u) u.functions)

-- an object that has the name in the unit, or that any unit shows or shares: it cannot be called
abbrev pub own_object : ℕ → UnitParts → List ℕ → Option Meaning
own_object unit u name = option_map (λ b. meaning.Nothing) (object_in (is_own name) unit u)

abbrev pub shown_object : List UnitParts → List ℕ → Option Meaning
shown_object parts name = option_map (λ b. meaning.Nothing) (option_or (object_of (is_seen name) parts) (object_of (is_shared name) parts))

-- the functions of the runtime
abbrev pub built_in : List ℕ → Meaning
built_in name = cond (bytes_eq name (codes "getbyte")) meaning.GetByte (cond (bytes_eq name (codes "putbyte")) meaning.PutByte meaning.Nothing)

-- the function that some unit shows
abbrev pub shown_function : List NamedUnit → List ℕ → Option Meaning
shown_function units name = first_answer (function_in (λ u. is_shown u name)) 0 units

-- the unit's own definition, and that of another unit
abbrev pub own_callee : ℕ → NamedUnit → List ℕ → Option Meaning
own_callee unit u name = option_or (function_in (λ v. is_function_named v name) unit u) (own_object unit (parts_of u) name)

abbrev pub shown_callee : List NamedUnit → List UnitParts → List ℕ → Option Meaning
shown_callee units parts name = option_or (shown_function units name) (shown_object parts name)

-- what a name means as a callee in the unit of this number
abbrev pub meant_as_callee : List NamedUnit → List UnitParts → ℕ → NamedUnit → List ℕ → Meaning
meant_as_callee units parts unit u name = unwrap_or (option_or (own_callee unit u name) (shown_callee units parts name)) (built_in name)

-- what its symbols mean as callees, in their order
abbrev pub callees_of : List NamedUnit → List UnitParts → ℕ → NamedUnit → List Meaning
callees_of units parts unit u = map (λ (s : SymbolName). meant_as_callee units parts unit u s.name) u.symbol_names

-- The linked program

-- something of each unit, where units are counted from k
abbrev pub of_each : {U A : Type 0} → (ℕ → U → A) → ℕ → List U → List A
of_each f k [] = []
of_each f k (u ∷ us) = f k u ∷ of_each f (k + 1) us

-- by unit and symbol: the object
abbrev pub all_objects : List NamedUnit → List (List (Option BlockName))
all_objects units = of_each (objects_of (all_parts units)) 0 units

-- by unit and symbol: what it means as a callee
abbrev pub all_callees : List NamedUnit → List (List Meaning)
all_callees units = of_each (callees_of units (all_parts units)) 0 units

-- the `main` that the program starts with
abbrev pub main_of : List NamedUnit → Option Meaning
main_of units = shown_function units main_name

-- memory as the program starts
abbrev pub start_of : List NamedUnit → Blocks
start_of units = start (all_parts units)
