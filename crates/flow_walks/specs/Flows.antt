-- What the nodes of a graph read and write, and which follow them. L names a location: a temporary, a register or a slot.
use Rattle.std.specs.Prelude.{ℕ, List, [], ◌∷◌, ◌++◌}

-- a node
pub record Flow (L : Type 0) : Type 0 where
  pub reads : List L
  pub writes : List L
  pub next : List ℕ

-- a function: its first node, its parameters, and its nodes by their numbers
pub record Routine (L : Type 0) : Type 0 where
  pub entry : ℕ
  pub parameters : List L
  pub flows : List (Flow L)

-- the entry counts as a node that writes all parameters
abbrev pub entry_flow : {L : Type 0} → Routine L → Flow L
entry_flow r = record { reads = []; writes = r.parameters; next = r.entry ∷ [] }

-- all places after which locations may be live: the nodes, and the entry behind the last of them
abbrev pub places : {L : Type 0} → Routine L → List (Flow L)
places r = r.flows ++ entry_flow r ∷ []
