-- Laws of lists that match one by one.
use Rattle.std.specs.Prelude.{◌≡◌, ℕ, zero, suc, List, [], ◌∷◌, ◌++◌, map, slice_get, Some}
use Rattle.std.proofs.Common.{refl, ap, subst, ◌∙◌}
use Rattle.pass_core.specs.Lists.{EachMatches, Through, Split, Beside}

-- one more of both
pub each_push : {A B : Type 0} (m : A → B → Type 0) (xs : List A) (ys : List B) (x : A) (y : B) → EachMatches m xs ys → m x y → EachMatches m (xs ++ x ∷ []) (ys ++ y ∷ [])
each_push m [] [] x y h k = (k, tt)
each_push m (a ∷ xs) (b ∷ ys) x y h k = (h.0, each_push m xs ys x y h.1 k)
each_push m [] (b ∷ ys) x y h k = absurd h
each_push m (a ∷ xs) [] x y h k = absurd h

-- where members match through something, the lists do through a list
pub split : {A B C : Type 0} (p : A → B → Type 0) (q : B → C → Type 0) (xs : List A) (zs : List C) → EachMatches (Through p q) xs zs → Split p q xs zs
split p q [] [] h = record { middle = []; first = tt; second = tt }
split p q (x ∷ xs) (z ∷ zs) h =
    let r : Split p q xs zs = split p q xs zs h.1 in
    record { middle = h.0.middle ∷ r.middle; first = (h.0.first, r.first); second = (h.0.second, r.second) }
split p q [] (z ∷ zs) h = absurd h
split p q (x ∷ xs) [] h = absurd h

-- what units that match have in common the lists have in common: faces, what naming needs, ..
pub same_of_each : {A B R : Type 0} (f : A → R) (g : B → R) (m : A → B → Type 0) → ((x : A) (y : B) → m x y → g y ≡ f x) → (xs : List A) (ys : List B) → EachMatches m xs ys → map g ys ≡ map f xs
same_of_each f g m same [] [] h = refl
same_of_each {A} {B} {R} f g m same (x ∷ xs) (y ∷ ys) h = ap (λ (n : R). n ∷ map g ys) (same x y h.0) ∙ ap (λ (ns : List R). f x ∷ ns) (same_of_each f g m same xs ys h.1)
same_of_each f g m same [] (y ∷ ys) h = absurd h
same_of_each f g m same (x ∷ xs) [] h = absurd h

-- beside each unit stands one that matches
pub each_at : {A B : Type 0} (m : A → B → Type 0) (xs : List A) (ys : List B) (k : ℕ) (x : A) → EachMatches m xs ys → slice_get xs k ≡ Some x → Beside m ys k x
each_at m [] [] k x h e = cc
each_at {A} {B} m (a ∷ xs) (b ∷ ys) zero x h e = record { there = b; found = refl; match = let same : a ≡ x = cc in subst (λ (v : A). m v b) same h.0 }
each_at m (a ∷ xs) (b ∷ ys) (suc k) x h e =
    let r : Beside m ys k x = each_at m xs ys k x h.1 e in
    record { there = r.there; found = r.found; match = r.match }
each_at m [] (b ∷ ys) k x h e = absurd h
each_at m (a ∷ xs) [] k x h e = absurd h
