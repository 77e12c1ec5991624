-- What the homes of temporaries owe at a node and at the entry.
use Rattle.std.specs.Prelude.{◌≡◌, ◌≢◌, ℕ, ◌<◌, ◌+◌, List, [], ◌∷◌, slice_get, Some}
use Rattle.std.specs.List.{Contains, range_with_len}
use Rattle.std.proofs.Common.{zero, suc, refl, sym, subst, ◌∙◌, inl, inr, arith}
use Rattle.std.proofs.lemmas.List.Elements.{Contains-append_right}
use Rattle.std.proofs.lemmas.List.FromFn.{length-range_with_len, get_or-range_with_len}
use Rattle.flow_walks.specs.Flows.{Flow, Routine, entry_flow, places}
use Rattle.flow_walks.specs.Liveness.{IsNode, IsWanted, IsLive, Separates}
use Rattle.flow_walks.specs.laws.Cover.{node_is_place}
use Rattle.rtl_lang.specs.declared.syntax.RtlParts.{RtlParts}
use Rattle.rtl_lang.specs.Routines.{routine}

-- Members

pub first_in : (x : ℕ) (xs : List ℕ) → Contains (x ∷ xs) x
first_in x xs = (0, omega arith, refl)

pub later_in : (x y : ℕ) (xs : List ℕ) → Contains xs x → Contains (y ∷ xs) x
later_in x y xs m = (suc m.0, (let lt = m.1 in omega (arith, lt)), m.2)

pub not_in_nothing : (x : ℕ) → ¬ Contains [] x
not_in_nothing x m = let lt : m.0 < 0 = m.1 in absurd (omega (arith, lt))

-- what stands in a list is a member
pub contained : {X : Type 0} (xs : List X) (n : ℕ) (x : X) → slice_get xs n ≡ Some x → Contains xs x
contained [] n x e = cc
contained (y ∷ xs) zero x e = (0, omega arith, cc)
contained (y ∷ xs) (suc n) x e = let m = contained xs n x e in (suc m.0, (let lt = m.1 in omega (arith, lt)), m.2)

parameter_in : (n a : ℕ) → a < n → Contains (range_with_len 0 n) a
parameter_in n a lt = let same : 0 + a ≡ a = omega arith in let len = length-range_with_len 0 n in (a, omega (arith, lt, len), get_or-range_with_len 0 n a a lt ∙ same)

place_in : (g : Routine ℕ) (n : ℕ) (x : Flow ℕ) → IsNode g n x → Contains (places g) x
place_in g n x here = contained (places g) n x (node_is_place g n x here)

entry_in : (g : Routine ℕ) → Contains (places g) (entry_flow g)
entry_in g = Contains-append_right g.flows (entry_flow g ∷ []) (entry_flow g) (0, omega arith, refl)

-- what is written is another one
pub writes_nothing : (k : ℕ) (ws : List ℕ) → ws ≡ [] → ¬ Contains ws k
writes_nothing k ws none m = not_in_nothing k (subst (λ (xs : List ℕ). Contains xs k) none m)

pub writes_other : (j k : ℕ) (ws : List ℕ) → ws ≡ j ∷ [] → j ≢ k → ¬ Contains ws k
writes_other j k ws one ne m = only (subst (λ (xs : List ℕ). Contains xs k) one m)
  where
    only : Contains (j ∷ []) k → ⊥
    only (zero, lt, same) = ne same
    only (suc i, lt, same) = absurd (omega (arith, lt))

-- Homes

-- what a node writes keeps clear of what is live behind it
pub written_apart : {L : Type 0} (g : Routine ℕ) (home : ℕ → L) → Separates g home → (n j k : ℕ) (x : Flow ℕ) → IsNode g n x → x.writes ≡ j ∷ [] → IsLive g x k → j ≢ k → home j ≢ home k
written_apart g home apart n j k x here one live ne =
    apart j k ne (x, place_in g n x here, inl (inr (subst (λ (ws : List ℕ). Contains ws j) (sym one) (first_in j [])), live))

-- and so does a parameter at the entry
pub parameter_apart : {L : Type 0} (f : RtlParts) (home : ℕ → L) → Separates (routine f) home → (a b : ℕ) → a < f.parameters → IsWanted (routine f) f.entry b → a ≢ b → home a ≢ home b
parameter_apart f home apart a b lt wanted ne =
    apart a b ne (entry_flow (routine f), entry_in (routine f), inl (inr (parameter_in f.parameters a lt), (f.entry, first_in f.entry [], wanted)))
