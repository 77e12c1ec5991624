-- How the pieces of the code are regions.
use Rattle.std.specs.Prelude.{◌≡◌, ℕ, ◌+◌, ◌<◌, ◌≤◌, List, [], ◌∷◌, map, length, true, false, get_or}
use Rattle.i386_machine.specs.Regions.{Region, Shape, shape_of, shapes, spans, Disjoint}
use Rattle.i386_machine.specs.Known.{AllKnown}
use Rattle.i386_machine.specs.declared.memory.Piece.{Piece}
use Rattle.i386_machine.specs.declared.memory.Memory.TheInside.{Inside}

abbrev pub region_of : Piece → Region
region_of p = record { base = p.base; bytes = p.bytes.items; writable = p.writable; executable = p.executable }

-- each region ends at or below the end of the address space
abbrev pub EndsWithin : List Shape → Type 0
EndsWithin [] = Unit {0}
EndsWithin (s ∷ ss) = (s.base + s.size ≤ 4294967296) × EndsWithin ss

pub record IsMemory (s : Inside) : Type 0 where
  pub apart : Disjoint (shapes (map region_of s.pieces.items))
  pub ends : EndsWithin (shapes (map region_of s.pieces.items))
  pub data_within : s.last_data < length s.pieces.items
  pub slots : length s.slots.items ≡ 4096
  pub known : AllKnown (map region_of s.pieces.items) s.slots.items

-- none of the first pieces has all n addresses from a on
abbrev pub HasNoneBelow : List Piece → ℕ → ℕ → ℕ → Type 0
HasNoneBelow ps a n i = (k : ℕ) → k < i → (d : Piece) → spans (shape_of (region_of (get_or ps k d))) a n ≡ false

abbrev pub HasNone : List Piece → ℕ → ℕ → Type 0
HasNone ps a n = HasNoneBelow ps a n (length ps)

-- the piece at a place has them all
pub record HasAt (ps : List Piece) (a n i : ℕ) : Type 0 where
  pub within : i < length ps
  pub has : (d : Piece) → spans (shape_of (region_of (get_or ps i d))) a n ≡ true
