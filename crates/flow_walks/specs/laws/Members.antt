-- Members of short lists, which is what a node reads, writes and is followed by.
use Rattle.std.specs.Prelude.{◌≡◌, zero, suc, ◌<◌, List, [], ◌∷◌, length, ◌⊎◌}
use Rattle.std.specs.List.{Contains}
use Rattle.std.proofs.Common.{refl, arith, inl, inr}

pub none_in : {X : Type 0} (x : X) → ¬ Contains [] x
none_in x c = let h : c.0 < 0 = c.1 in absurd (omega arith)

pub first_in : {X : Type 0} (x : X) (xs : List X) → Contains (x ∷ xs) x
first_in x xs = (0, (let h : 0 < length (x ∷ xs) = omega arith in h), refl)

pub later_in : {X : Type 0} (y x : X) (xs : List X) → Contains xs x → Contains (y ∷ xs) x
later_in y x xs c = (suc c.0, (let h : suc c.0 < length (y ∷ xs) = let l : c.0 < length xs = c.1 in omega arith in h), c.2)

-- a member is the first or a later one
pub which_in : {X : Type 0} (y x : X) (xs : List X) → Contains (y ∷ xs) x → (y ≡ x) ⊎ Contains xs x
which_in y x xs (zero, h, e) = inl e
which_in y x xs (suc k, h, e) = inr (k, (let l : k < length xs = omega arith in l), e)

-- a lone member is the only one
pub only_in : {X : Type 0} (y x : X) → Contains (y ∷ []) x → y ≡ x
only_in y x c = elim (which_in y x [] c) [ inl e ↦ e | inr r ↦ absurd (none_in x r) ]
