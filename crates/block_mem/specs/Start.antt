-- Memory as a program starts: the objects of all units, with their initial bytes and pointers.
use Rattle.std.specs.Prelude.{ℕ, ◌+◌, ◌-◌, Bool, true, false, cond, not, ◌&&◌, List, [], ◌∷◌, ◌++◌, length, map, position, replicate, Option, Some, None, option_map}
use Rattle.std.specs.List.{list_any}
use Rattle.std.specs.Option.{option_or, option_map_or}
use Rattle.std.specs.Str.{bytes_eq}
use Rattle.std.specs.FinMap as map_of
use Rattle.cc_base.specs.Faces.{first_answer, all_defs, has_name, is_defined}
use Rattle.cc_base.specs.declared.face.Face.{Face}
use Rattle.cc_base.specs.declared.face.Def.{Def}
use Rattle.cc_base.specs.declared.face.GlobalPart.{GlobalPart}
use Rattle.cc_base.specs.declared.face.WordUse.{WordUse}
use Rattle.block_mem.specs.Names.{same_name}
use Rattle.block_mem.specs.Blocks.{Block, Blocks}
use Rattle.block_mem.specs.Access.{put_four}
use Rattle.block_mem.specs.declared.value.BlockName.{BlockName}
use Rattle.block_mem.specs.declared.value.BlockName.TheVariants.{Global}
use Rattle.block_mem.specs.declared.value.Byte.{Byte}
use Rattle.block_mem.specs.declared.value.Byte.TheVariants.{Unset, Plain, Part}

-- what a unit of any language brings to the start
pub record UnitParts : Type 0 where
  pub face : Face
  pub globals : List GlobalPart

abbrev pub is_own : List ℕ → GlobalPart → Bool
is_own name g = bytes_eq g.name name && not g.shared

abbrev pub is_seen : List ℕ → GlobalPart → Bool
is_seen name g = is_own name g && not g.local

abbrev pub is_shared : List ℕ → GlobalPart → Bool
is_shared name g = bytes_eq g.name name && g.shared

-- the first object of a unit that passes a test
abbrev pub object_in : (GlobalPart → Bool) → ℕ → UnitParts → Option BlockName
object_in test unit u = option_map (λ index. Global unit index) (position test u.globals)

-- the first of all units
abbrev pub object_of : (GlobalPart → Bool) → List UnitParts → Option BlockName
object_of test units = first_answer (object_in test) 0 units

abbrev pub faces_of : List UnitParts → List Face
faces_of units = map (λ (u : UnitParts). u.face) units

abbrev pub is_function : List ℕ → Def → Bool
is_function name d = has_name name d && d.function

-- the object that a name means in a unit: the unit's own, else the one that another unit defines, else the shared one.
-- A name that is defined as a function means no object
abbrev pub meant_elsewhere : List UnitParts → List ℕ → Option BlockName
meant_elsewhere units name = cond (list_any (is_function name) (all_defs (faces_of units))) None (option_or (object_of (is_seen name) units) (object_of (is_shared name) units))

abbrev pub meant : List UnitParts → ℕ → UnitParts → List ℕ → Option BlockName
meant units unit u name = option_or (object_in (is_own name) unit u) (meant_elsewhere units name)

-- an initial pointer: the four parts of the object's block, or unset bytes where the name means none
abbrev pub pointer_word : List Byte → ℕ → ℕ → Option BlockName → List Byte
pointer_word bytes offset plus None = put_four bytes offset Unset Unset Unset Unset
pointer_word bytes offset plus (Some b) = put_four bytes offset (Part b plus 0) (Part b plus 1) (Part b plus 2) (Part b plus 3)

abbrev pub with_pointers : (List ℕ → Option BlockName) → List WordUse → List Byte → List Byte
with_pointers means [] bytes = bytes
with_pointers means (w ∷ ws) bytes = with_pointers means ws (pointer_word bytes w.offset w.plus (means w.name))

-- the initial bytes: those that are given, zeros behind them, and the pointers
abbrev pub plain_bytes : GlobalPart → List Byte
plain_bytes g = map (λ x. Plain x) (g.bytes ++ replicate (g.size - length g.bytes) 0)

abbrev pub initial_bytes : List UnitParts → ℕ → UnitParts → GlobalPart → List Byte
initial_bytes units unit u g = with_pointers (meant units unit u) g.uses (plain_bytes g)

-- a shared object is writable and zero
abbrev pub shared_block : GlobalPart → Block
shared_block g = record { bytes = replicate g.size (Plain 0); writable = true }

abbrev pub first_block : List UnitParts → ℕ → UnitParts → GlobalPart → Block
first_block units unit u g = cond g.shared (shared_block g) (record { bytes = initial_bytes units unit u g; writable = g.writable })

-- a shared object is one block, under the name of the first unit that shares it, and none where some unit defines the name
abbrev pub is_first : BlockName → Option BlockName → Bool
is_first b first = option_map_or (same_name b) first false

abbrev pub is_block : List UnitParts → BlockName → GlobalPart → Bool
is_block units b g = cond g.shared (not (is_defined (all_defs (faces_of units)) g.name) && is_first b (object_of (is_shared g.name) units)) true

abbrev pub blocks_of_unit : List UnitParts → ℕ → UnitParts → ℕ → List GlobalPart → List (BlockName × Block)
blocks_of_unit units unit u index [] = []
blocks_of_unit units unit u index (g ∷ gs) = cond (is_block units (Global unit index) g) ((Global unit index, first_block units unit u g) ∷ blocks_of_unit units unit u (index + 1) gs) (blocks_of_unit units unit u (index + 1) gs)

abbrev pub blocks_from : List UnitParts → ℕ → List UnitParts → List (BlockName × Block)
blocks_from units unit [] = []
blocks_from units unit (u ∷ us) = blocks_of_unit units unit u 0 u.globals ++ blocks_from units (unit + 1) us

-- the blocks with which a program of these units starts
abbrev pub start : List UnitParts → Blocks
start units = map_of.from_entries (blocks_from units 0 units)
