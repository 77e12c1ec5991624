-- Memory: the live blocks by their names.
use Rattle.std.specs.Prelude.{ℕ, Bool, List, set, length, leb, ltb, false, true, replicate, Option, Some, None}
use Rattle.std.specs.FinMap as map
use Rattle.block_mem.specs.Names.{name_cmp}
use Rattle.block_mem.specs.declared.value.BlockName.{BlockName}
use Rattle.block_mem.specs.declared.value.Byte.{Byte}
use Rattle.block_mem.specs.declared.value.Byte.TheVariants.{Unset}

-- a live block
pub record Block : Type 0 where
  pub bytes : List Byte
  pub writable : Bool

-- the live blocks. A name that is not among them was never used, or its block's life is over
abbrev pub Blocks : Type 0
Blocks = map.FinMap name_cmp Block

-- a block whose bytes are unset
abbrev pub unset_block : ℕ → Bool → Block
unset_block size writable = record { bytes = replicate size Unset; writable = writable }

-- a new block under this name, with its bytes unset
abbrev pub made : Blocks → BlockName → ℕ → Bool → Blocks
made m b size writable = map.insert m b (unset_block size writable)

-- the block's life is over
abbrev pub ended : Blocks → BlockName → Blocks
ended m b = map.remove m b

-- with this byte at an offset of a live block
abbrev pub first_in : Blocks → BlockName → Option Block → ℕ → Byte → Blocks
first_in m b None o x = m
first_in m b (Some k) o x = map.insert m b (record k { bytes = set k.bytes o x })

abbrev pub first : Blocks → BlockName → ℕ → Byte → Blocks
first m b o x = first_in m b (map.get m b) o x

-- whether a block is live
abbrev pub live_in : Option Block → Bool
live_in None = false
live_in (Some k) = true

abbrev pub live : Blocks → BlockName → Bool
live m b = live_in (map.get m b)

-- whether an offset lies in 0 to the size of a live block
abbrev pub within_in : Option Block → ℕ → Bool
within_in None o = false
within_in (Some k) o = leb o (length k.bytes)

abbrev pub within : Blocks → BlockName → ℕ → Bool
within m b o = within_in (map.get m b) o

-- whether an offset lies below the size of a live block
abbrev pub inside_in : Option Block → ℕ → Bool
inside_in None o = false
inside_in (Some k) o = ltb o (length k.bytes)

abbrev pub inside : Blocks → BlockName → ℕ → Bool
inside m b o = inside_in (map.get m b) o
