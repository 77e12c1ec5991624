-- Lists of live locations: one for each node, by the numbers of the nodes, and a last one for the entry.
use Rattle.std.specs.Prelude.{◌≡◌, ◌≢◌, ◌↔◌, ℕ, ◌⊎◌, List, [], length, slice_get, slice_index_or, Option, Some, IsSome}
use Rattle.std.specs.List.{Contains}
use Rattle.std.specs.List.Sorted.{IsStrictlyIncreasing}
use Rattle.flow_walks.specs.Flows.{Flow, Routine, places}
use Rattle.flow_walks.specs.Liveness.{IsNode, IsLive}

abbrev pub list_of : {L : Type 0} → List (List L) → ℕ → List L
list_of lists n = slice_index_or lists n []

-- the place of this number
abbrev pub IsPlace : {L : Type 0} → Routine L → ℕ → Flow L → Type 0
IsPlace r n place = slice_get (places r) n ≡ Some place

-- each list has just those that are live after its place
pub record HasLive {L : Type 0} (r : Routine L) (lists : List (List L)) : Type 0 where
  pub whole : length lists ≡ length (places r)
  pub live : (n : ℕ) (place : Flow L) (k : L) → IsPlace r n place → Contains (list_of lists n) k ↔ IsLive r place k

-- temporaries, in rising order
pub record IsExact (r : Routine ℕ) (lists : List (List ℕ)) : Type 0 where
  pub has_live : HasLive r lists
  pub rising : (n : ℕ) → IsStrictlyIncreasing (list_of lists n)

-- the node reads k, or k is in the list of this node, which does not write it
abbrev pub Asks : {L : Type 0} → Flow L → List L → L → Type 0
Asks flow list k = Contains flow.reads k ⊎ (Contains list k × (¬ Contains flow.writes k))

-- each place has a list, and it has all that a node that follows asks for
pub record Closed {L : Type 0} (r : Routine L) (lists : List (List L)) : Type 0 where
  pub whole : length lists ≡ length (places r)
  pub asked : (n m : ℕ) (place flow : Flow L) (k : L) → IsPlace r n place → Contains place.next m → IsNode r m flow → Asks flow (list_of lists m) k → Contains (list_of lists n) k

-- k is in the list of the place, or written there
abbrev pub Stands : {L : Type 0} → Flow L → List L → L → Type 0
Stands place list k = Contains list k ⊎ Contains place.writes k

-- what is listed or written has a home, and where two stand together and one is listed, the homes are different
pub record Apart {L H : Type 0} (r : Routine L) (home : L → Option H) (lists : List (List L)) : Type 0 where
  pub housed : (n : ℕ) (place : Flow L) (k : L) → IsPlace r n place → Stands place (list_of lists n) k → IsSome (home k)
  pub different : (n : ℕ) (place : Flow L) (a b : L) → IsPlace r n place → Stands place (list_of lists n) a → Contains (list_of lists n) b → a ≢ b → home a ≢ home b
