-- Which locations are live after a node, by walks of the graph (Aho, Lam, Sethi and Ullman, Compilers, 9.2.5), and when locations
-- that are live together have different homes.
use Rattle.std.specs.Prelude.{◌≡◌, ◌≢◌, ℕ, zero, suc, ◌⊎◌, slice_get, Some}
use Rattle.std.specs.List.{Contains}
use Rattle.flow_walks.specs.Flows.{Flow, Routine, places}

-- the node of this number
abbrev pub IsNode : {L : Type 0} → Routine L → ℕ → Flow L → Type 0
IsNode r n flow = slice_get r.flows n ≡ Some flow

-- a walk of so many moves leads from a node to one that reads k, and no node before that one writes k
abbrev pub IsRead : {L : Type 0} → Routine L → L → ℕ → ℕ → Type 0
IsRead {L} r k zero n = (flow : Flow L) × IsNode r n flow × Contains flow.reads k
IsRead {L} r k (suc moves) n = (flow : Flow L) × IsNode r n flow × (¬ Contains flow.writes k) × ((m : ℕ) × Contains flow.next m × IsRead r k moves m)

-- k is read, on some walk from this node, before it is written
abbrev pub IsWanted : {L : Type 0} → Routine L → ℕ → L → Type 0
IsWanted r n k = (moves : ℕ) × IsRead r k moves n

-- k is live after a place
abbrev pub IsLive : {L : Type 0} → Routine L → Flow L → L → Type 0
IsLive r place k = (m : ℕ) × Contains place.next m × IsWanted r m k

-- a is live after the place or written there, and b is live after it
abbrev pub Meet : {L : Type 0} → Routine L → Flow L → L → L → Type 0
Meet r place a b = (IsLive r place a ⊎ Contains place.writes a) × IsLive r place b

-- at some place
abbrev pub AreLiveTogether : {L : Type 0} → Routine L → L → L → Type 0
AreLiveTogether {L} r a b = (place : Flow L) × Contains (places r) place × (Meet r place a b ⊎ Meet r place b a)

-- two that are live together have different homes
abbrev pub Separates : {L H : Type 0} → Routine L → (L → H) → Type 0
Separates {L} r home = (a b : L) → a ≢ b → AreLiveTogether r a b → home a ≢ home b
