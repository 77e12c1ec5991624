-- What names mean over the linked units (C11, 6.2.2): in a unit its own definition, static or not, else the one that another unit
-- shows, else a function of the runtime.
use Rattle.std.specs.Prelude.{ℕ, ◌+◌, Bool, true, false, not, cond, ◌&&◌, eqb, List, [], ◌∷◌, map, position, slice_get, get_or, Option, Some, None, option_map, option_and_then, unwrap_or, codes}
use Rattle.std.specs.List.{list_any}
use Rattle.std.specs.Option.{option_or, option_map_or}
use Rattle.std.specs.Str.{bytes_eq}
use Rattle.cc_base.specs.Faces.{first_answer}
use Rattle.cc_base.specs.declared.face.SymbolName.{SymbolName}
use Rattle.block_mem.specs.Start.{UnitParts, is_own, is_seen, is_shared, object_in, object_of, meant}
use Rattle.block_mem.specs.declared.value.BlockName.{BlockName}
use Rattle.clight_unit.specs.declared.unit.ClightUnit.{ClightUnit as TypedUnit}
use Rattle.clight_unit.specs.declared.function.Function.{Function}
use Rattle.clight_unit.specs.declared.signature.Callee.{Callee}
use Rattle.clight_unit.specs.declared.signature.Callee.TheVariants as callee
use Rattle.clight_unit.specs.declared.signature.Signature.{Signature}
use Rattle.clight_unit.specs.declared.signature.ValueType.{ValueType}
use Rattle.clight_unit.specs.declared.signature.ValueBase.{ValueBase}
use Rattle.clight_unit.specs.declared.signature.ValueBase.TheVariants as base
use Rattle.unit_names.specs.declared.meaning.Meaning.{Meaning}
use Rattle.unit_names.specs.declared.meaning.Meaning.TheVariants as meaning

-- Types. Structs are compared by their tags alone, where C11, 6.2.7, looks at the members of structs of two units too

abbrev pub same_base : ValueBase → ValueBase → Bool
same_base base.Int base.Int = true
same_base base.Char base.Char = true
same_base base.UnsignedInt base.UnsignedInt = true
same_base base.UnsignedChar base.UnsignedChar = true
same_base base.Void base.Void = true
same_base (base.Struct tag) (base.Struct other) = bytes_eq tag other
same_base a b = false

abbrev pub same_type : ValueType → ValueType → Bool
same_type a b = same_base a.base b.base && eqb a.stars b.stars

abbrev pub same_types : List ValueType → List ValueType → Bool
same_types [] [] = true
same_types [] (b ∷ bs) = false
same_types (a ∷ more) [] = false
same_types (a ∷ more) (b ∷ bs) = same_type a b && same_types more bs

abbrev pub same_signature : Signature → Signature → Bool
same_signature s t = same_type s.result t.result && same_types s.parameters t.parameters

abbrev pub plain_type : ValueBase → ValueType
plain_type b = record { base = b; stars = 0 }

-- `int getbyte(void)` and `void putbyte(int)`
abbrev pub getbyte_signature : Signature
getbyte_signature = record { result = plain_type base.Int; parameters = [] }

abbrev pub putbyte_signature : Signature
putbyte_signature = record { result = plain_type base.Void; parameters = plain_type base.Int ∷ [] }

-- a result of type `void` is none
abbrev pub is_void : ValueBase → Bool
is_void base.Void = true
is_void base.Int = false
is_void base.Char = false
is_void base.UnsignedInt = false
is_void base.UnsignedChar = false
is_void (base.Struct tag) = false

abbrev pub has_no_result : Signature → Bool
has_no_result s = is_void s.result.base && eqb s.result.stars 0

-- Names

abbrev pub symbol_name : TypedUnit → ℕ → List ℕ
symbol_name u symbol = option_map_or (λ (s : SymbolName). s.name) (slice_get u.symbol_names symbol) []

abbrev pub function_name : TypedUnit → Function → List ℕ
function_name u f = symbol_name u f.symbol

abbrev pub main_name : List ℕ
main_name = codes "main"

abbrev pub is_main : TypedUnit → Function → Bool
is_main u f = bytes_eq (function_name u f) main_name

abbrev pub is_function_named : TypedUnit → List ℕ → Function → Bool
is_function_named u name f = bytes_eq (function_name u f) name

abbrev pub is_shown : TypedUnit → List ℕ → Function → Bool
is_shown u name f = is_function_named u name f && not f.is_static

-- Objects: the blocks of the start

abbrev pub parts_of : TypedUnit → UnitParts
parts_of u = record { face = u.face; globals = u.globals }

abbrev pub all_parts : List TypedUnit → List UnitParts
all_parts units = map parts_of units

-- what a symbol of a unit means as an object. A function of the unit is none
abbrev pub object_meant : List UnitParts → ℕ → TypedUnit → List ℕ → Option BlockName
object_meant parts unit u name = cond (list_any (is_function_named u name) u.functions) None (meant parts unit (parts_of u) name)

abbrev pub objects_of : List UnitParts → ℕ → TypedUnit → List (Option BlockName)
objects_of parts unit u = map (λ (s : SymbolName). object_meant parts unit u s.name) u.symbol_names

-- Functions

abbrev pub function_in : (TypedUnit → Function → Bool) → ℕ → TypedUnit → Option Meaning
function_in test unit u = option_map (λ index. meaning.Function unit index) (position (test u) u.functions)

-- an object that has the name in the unit, or that any unit shows or shares: it cannot be called
abbrev pub own_object : ℕ → TypedUnit → List ℕ → Option Meaning
own_object unit u name = option_map (λ b. meaning.Nothing) (object_in (is_own name) unit (parts_of u))

abbrev pub shown_object : List UnitParts → List ℕ → Option Meaning
shown_object parts name = option_map (λ b. meaning.Nothing) (option_or (object_of (is_seen name) parts) (object_of (is_shared name) parts))

-- the functions of the runtime
abbrev pub built_in : List ℕ → Meaning
built_in name = cond (bytes_eq name (codes "getbyte")) meaning.GetByte (cond (bytes_eq name (codes "putbyte")) meaning.PutByte meaning.Nothing)

-- the function that some unit shows
abbrev pub shown_function : List TypedUnit → List ℕ → Option Meaning
shown_function units name = first_answer (function_in (λ u. is_shown u name)) 0 units

-- the unit's own definition, and that of another unit
abbrev pub own_callee : ℕ → TypedUnit → List ℕ → Option Meaning
own_callee unit u name = option_or (function_in (λ v. is_function_named v name) unit u) (own_object unit u name)

abbrev pub shown_callee : List TypedUnit → List UnitParts → List ℕ → Option Meaning
shown_callee units parts name = option_or (shown_function units name) (shown_object parts name)

-- what a name means as a callee in a unit
abbrev pub meant_as_callee : List TypedUnit → List UnitParts → ℕ → TypedUnit → List ℕ → Meaning
meant_as_callee units parts unit u name = unwrap_or (option_or (own_callee unit u name) (shown_callee units parts name)) (built_in name)

-- a function that has this meaning
abbrev pub function_at : List TypedUnit → ℕ → ℕ → Option Function
function_at units unit index = option_and_then (λ (u : TypedUnit). slice_get u.functions index) (slice_get units unit)

abbrev pub signature_of : List TypedUnit → Meaning → Option Signature
signature_of units (meaning.Function unit index) = option_map (λ (f : Function). f.signature) (function_at units unit index)
signature_of units meaning.GetByte = Some getbyte_signature
signature_of units meaning.PutByte = Some putbyte_signature
signature_of units meaning.Nothing = None

-- a call goes wrong where the types that its unit declares are not those of the definition
abbrev pub has_type : Signature → Option Signature → Bool
has_type declared None = false
has_type declared (Some defined) = same_signature declared defined

abbrev pub as_declared : List TypedUnit → Callee → Meaning → Meaning
as_declared units callee.Object m = meaning.Nothing
as_declared units (callee.Function declared) m = cond (has_type declared (signature_of units m)) m meaning.Nothing

-- what the symbols of a unit mean as callees
abbrev pub callees_from : (List ℕ → Meaning) → List TypedUnit → List SymbolName → List Callee → List Meaning
callees_from means units [] declared = []
callees_from means units (s ∷ ss) [] = []
callees_from means units (s ∷ ss) (d ∷ ds) = as_declared units d (means s.name) ∷ callees_from means units ss ds

abbrev pub callees_of : List TypedUnit → List UnitParts → ℕ → TypedUnit → List Meaning
callees_of units parts unit u = callees_from (meant_as_callee units parts unit u) units u.symbol_names u.callees

-- The linked program

-- the units, what each symbol of each unit means as an object and as a callee, and the room for the needs of all active calls
pub record Linked : Type 0 where
  pub units : List TypedUnit
  pub objects : List (List (Option BlockName))
  pub callees : List (List Meaning)
  pub room : ℕ

-- something of each unit, where units are counted from k
abbrev pub of_each : {A : Type 0} → (ℕ → TypedUnit → A) → ℕ → List TypedUnit → List A
of_each f k [] = []
of_each f k (u ∷ us) = f k u ∷ of_each f (k + 1) us

abbrev pub linked : List TypedUnit → ℕ → Linked
linked units room = record {
  units = units;
  objects = of_each (objects_of (all_parts units)) 0 units;
  callees = of_each (callees_of units (all_parts units)) 0 units;
  room = room;
}

abbrev pub objects_at : Linked → ℕ → List (Option BlockName)
objects_at p unit = get_or p.objects unit []

abbrev pub callee_at : Linked → ℕ → ℕ → Meaning
callee_at p unit symbol = get_or (get_or p.callees unit []) symbol meaning.Nothing

-- whether a function of a unit is `main`
abbrev pub is_main_of : Linked → ℕ → Function → Bool
is_main_of p unit f = option_map_or (λ u. is_main u f) (slice_get p.units unit) false

-- the `main` that the program starts with
abbrev pub main_of : Linked → Option Meaning
main_of p = shown_function p.units main_name
