-- How the lists are kept. The cells are the nodes, by their numbers, and behind them the heads. Each list is a ring of links that
-- begins and ends at its head's cell, and a cell in no list is linked to itself.
use Rattle.std.specs.Prelude.{◌≡◌, ◌≢◌, ℕ, zero, suc, ◌+◌, ◌-◌, ◌^◌, ◌<◌, List, [], ◌∷◌, length, map, slice_index, nat_lt, if◌then◌else◌}
use Rattle.std.specs.List.{range_with_len}
use Rattle.index_chains.specs.Lists.{list_at, IsLinked}

-- the nodes from a cell on, at most so many, up to the first cell that is a head
abbrev pub walk : ℕ → List ℕ → ℕ → ℕ → List ℕ
walk zero next nodes cell = []
walk (suc most) next nodes cell = if nat_lt cell nodes then cell ∷ walk most next nodes (slice_index next cell) else []

-- the list of a head
unfoldable pub ring : List ℕ → ℕ → ℕ → List ℕ
ring next nodes head = walk nodes next nodes (slice_index next (nodes + head))

-- the lists of all heads
unfoldable pub rings : List ℕ → ℕ → List (List ℕ)
rings next nodes = map (ring next nodes) (range_with_len 0 (length next - nodes))

-- the links lead from a cell through just these nodes to another cell
abbrev pub Leads : List ℕ → ℕ → ℕ → List ℕ → ℕ → Type 0
Leads next nodes from [] to = slice_index next from ≡ to
Leads next nodes from (node ∷ rest) to = (slice_index next from ≡ node) × (node < nodes) × Leads next nodes node rest to

-- the links keep these lists: the two links of a cell undo each other, the ring of each head goes through its list, and a node that
-- is not linked to itself stands in a list
pub record Keeps (next prev : List ℕ) (nodes : ℕ) (lists : List (List ℕ)) : Type 0 where
  pub small : nodes < 2 ^ 32
  pub cells : length next ≡ nodes + length lists
  pub as_many : length prev ≡ length next
  pub next_in : (cell : ℕ) → cell < length next → slice_index next cell < length next
  pub prev_in : (cell : ℕ) → cell < length next → slice_index prev cell < length next
  pub there : (cell : ℕ) → cell < length next → slice_index prev (slice_index next cell) ≡ cell
  pub back : (cell : ℕ) → cell < length next → slice_index next (slice_index prev cell) ≡ cell
  pub closed : (head : ℕ) → head < length lists → Leads next nodes (nodes + head) (list_at lists head) (nodes + head)
  pub alone : (node : ℕ) → node < nodes → slice_index next node ≢ node → IsLinked lists node
