-- Lists of node numbers, and what is done to them.
use Rattle.std.specs.Prelude.{◌≡◌, ◌≢◌, ◌↔◌, ℕ, ◌<◌, ◌==◌, not, List, [], ◌∷◌, map, filter, slice_get, slice_index_or, slice_set, Some}

-- what contracts see: the list of each head, from its first node on, and how many nodes there are
pub record Lists : Type 0 where
  pub lists : List (List ℕ)
  pub nodes : ℕ

-- the list of a head
abbrev pub list_at : List (List ℕ) → ℕ → List ℕ
list_at lists head = slice_index_or lists head []

-- the node stands at that place of the head's list
abbrev pub Stands : List (List ℕ) → ℕ → ℕ → ℕ → Type 0
Stands lists head place node = slice_get (list_at lists head) place ≡ Some node

-- the node stands in some list
abbrev pub IsLinked : List (List ℕ) → ℕ → Type 0
IsLinked lists node = (head : ℕ) × (place : ℕ) × Stands lists head place node

-- each list holds just nodes, and each node stands at most once
pub record IsDisjoint (value : Lists) : Type 0 where
  pub in_range : (head place node : ℕ) → Stands value.lists head place node → node < value.nodes
  pub once : (head place head' place' node : ℕ) → Stands value.lists head place node → Stands value.lists head' place' node → (head ≡ head') × (place ≡ place')

-- with the node put first in the head's list
abbrev pub with_front : Lists → ℕ → ℕ → Lists
with_front old head node = record old { lists = slice_set old.lists head (node ∷ list_at old.lists head) }

-- without the node
abbrev pub without : Lists → ℕ → Lists
without old node = record old { lists = map (filter (λ other. not (other == node))) old.lists }

-- each other node stands in some list just if it did before
abbrev pub LeavesOthers : Lists → Lists → ℕ → Type 0
LeavesOthers old new node = (other : ℕ) → other ≢ node → (IsLinked new.lists other ↔ IsLinked old.lists other)
