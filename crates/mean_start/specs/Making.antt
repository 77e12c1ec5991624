-- The steps in which memory is made.
use Rattle.std.specs.Prelude.{ℕ, ◌+◌, ◌-◌, Bool, cond, List, [], ◌∷◌, ◌++◌, length, map, replicate, Option, Some, None}
use Rattle.std.specs.FinMap as map_of
use Rattle.cc_base.specs.declared.face.GlobalPart.{GlobalPart}
use Rattle.cc_base.specs.declared.face.WordUse.{WordUse}
use Rattle.block_mem.specs.Blocks.{Block, Blocks, first}
use Rattle.block_mem.specs.Start.{UnitParts, is_block, first_block}
use Rattle.block_mem.specs.declared.value.BlockName.{BlockName}
use Rattle.block_mem.specs.declared.value.BlockName.TheVariants.{Global}
use Rattle.block_mem.specs.declared.value.Byte.{Byte}
use Rattle.block_mem.specs.declared.value.Byte.TheVariants.{Unset, Plain, Part}

abbrev pub block_of : List Byte → Bool → Block
block_of bytes writable = record { bytes = bytes; writable = writable }

abbrev pub with_block : Blocks → BlockName → List Byte → Bool → Blocks
with_block m b bytes writable = map_of.insert m b (block_of bytes writable)

-- bytes with zeros behind them, up to a size
abbrev pub zeros_behind : List ℕ → ℕ → List Byte
zeros_behind bytes size = map (λ x. Plain x) (bytes ++ replicate (size - length bytes) 0)

-- the size of a block, and 0 of none
abbrev pub size_of_block : Option Block → ℕ
size_of_block None = 0
size_of_block (Some k) = length k.bytes

abbrev pub size_in : Blocks → BlockName → ℕ
size_in m b = size_of_block (map_of.get m b)

-- a part of an initial pointer, which is unset where the name means no object
abbrev pub part_of : Option BlockName → ℕ → ℕ → Byte
part_of None plus which = Unset
part_of (Some b) plus which = Part b plus which

abbrev pub pointed : Blocks → BlockName → ℕ → ℕ → Option BlockName → Blocks
pointed m b o plus meant = first (first (first (first m b o (part_of meant plus 0)) b (o + 1) (part_of meant plus 1)) b (o + 2) (part_of meant plus 2)) b (o + 3) (part_of meant plus 3)

abbrev pub all_pointed : (List ℕ → Option BlockName) → BlockName → List WordUse → Blocks → Blocks
all_pointed means b [] m = m
all_pointed means b (w ∷ ws) m = all_pointed means b ws (pointed m b w.offset w.plus (means w.name))

-- with an object, where it is a block
abbrev pub object_made : List UnitParts → ℕ → UnitParts → ℕ → GlobalPart → Blocks → Blocks
object_made units unit u index g m = cond (is_block units (Global unit index) g) (map_of.insert m (Global unit index) (first_block units unit u g)) m

-- with blocks, of which the first of a name counts
abbrev pub with_blocks : List (BlockName × Block) → Blocks → Blocks
with_blocks [] m = m
with_blocks (e ∷ es) m = map_of.insert (with_blocks es m) e.0 e.1
