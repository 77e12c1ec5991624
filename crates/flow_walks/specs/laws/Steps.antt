-- What holds of all that is wanted is kept from node to node. With "is equal in both" for P, two runs of one routine stay equal
-- where it matters; with "is in its home", a run over locations keeps what a run over temporaries has.
use Rattle.std.specs.Prelude.{◌≡◌, ℕ, suc, ◌⊎◌}
use Rattle.std.specs.List.{Contains}
use Rattle.std.proofs.Common.{◌∙◌, sym, inl, inr}
use Rattle.flow_walks.specs.Flows.{Flow, Routine}
use Rattle.flow_walks.specs.Liveness.{IsNode, IsWanted}

-- P holds of all that is wanted at a node
abbrev pub AllWanted : {L : Type 0} → Routine L → ℕ → (L → Type 0) → Type 0
AllWanted {L} r n P = (k : L) → IsWanted r n k → P k

-- it holds of what the node reads
pub holds_of_read : {L : Type 0} (r : Routine L) (P : L → Type 0) (n : ℕ) (flow : Flow L) (k : L) → AllWanted r n P → IsNode r n flow → Contains flow.reads k → P k
holds_of_read r P n flow k all here read = all k (0, (flow, here, read))

-- what is wanted at a node that follows is wanted here, where this node does not write it
pub wanted_before : {L : Type 0} (r : Routine L) (n m : ℕ) (flow : Flow L) (k : L) → IsNode r n flow → Contains flow.next m → (¬ Contains flow.writes k) → IsWanted r m k → IsWanted r n k
wanted_before r n m flow k here next unwritten wanted = (suc wanted.0, (flow, here, unwritten, (m, next, wanted.1)))

-- P at a node gives Q at one that follows, where Q holds of what is written, and P gives Q for all else
pub step_keeps : {L : Type 0} (r : Routine L) (P Q : L → Type 0) (n m : ℕ) (flow : Flow L) → AllWanted r n P → IsNode r n flow → Contains flow.next m → ((k : L) → IsWanted r m k → Q k ⊎ ((¬ Contains flow.writes k) × (P k → Q k))) → AllWanted r m Q
step_keeps {L} r P Q n m flow all here next change k wanted = elim (change k wanted) [
  | inl holds ↦ holds
  | inr other ↦ other.1 (all k (wanted_before r n m flow k here next other.0 wanted))
]

-- Two runs

-- the same value wherever one is wanted
abbrev pub AgreeAt : {L V : Type 0} → Routine L → ℕ → (L → V) → (L → V) → Type 0
AgreeAt r n s t = AllWanted r n (λ k. s k ≡ t k)

-- a step after which what is written is equal in both, and all else as it was in each
pub step_agrees : {L V : Type 0} (r : Routine L) (n m : ℕ) (flow : Flow L) (s t after_s after_t : L → V) → AgreeAt r n s t → IsNode r n flow → Contains flow.next m → ((k : L) → (after_s k ≡ after_t k) ⊎ ((¬ Contains flow.writes k) × (after_s k ≡ s k) × (after_t k ≡ t k))) → AgreeAt r m after_s after_t
step_agrees {L} r n m flow s t after_s after_t all here next change k wanted = elim (change k) [
  | inl same ↦ same
  | inr kept ↦ kept.1 ∙ all k (wanted_before r n m flow k here next kept.0 wanted) ∙ sym kept.2
]
