-- Lists of names, and the sets that hold them.
use Rattle.std.proofs.Common.{◌≡◌, ℕ, ◌+◌, Bool, true, false, cond, ◌||◌, List, [], ◌∷◌, ◌++◌, map, length, position, Option, Some, None, not, refl, sym, ap, ◌∙◌}
use Rattle.std.specs.Prelude.{nat_lt}
use Rattle.std.specs.List.{list_any, prefix_len}
use Rattle.std.specs.Str.{bytes_eq}
use Rattle.std.proofs.lemmas.List.{map-append, length-map}
use Rattle.indexmap.specs.IndexSet.{insert_key}
use denote.Ref.{Bor}
use Rattle.typing_symbols.specs.Names.{is_among, with_name}

pub list_any_map : {A : Type 0} (f : A → List ℕ) (p : List ℕ → Bool) (xs : List A) → list_any (λ x. p (f x)) xs ≡ list_any p (map f xs)
list_any_map f p [] = refl
list_any_map f p (x ∷ xs) = ap (λ b. p (f x) || b) (list_any_map f p xs)

prefix_map : {A : Type 0} (f : A → List ℕ) (p : List ℕ → Bool) (xs : List A) → prefix_len (λ x. p (f x)) xs ≡ prefix_len p (map f xs)
prefix_map f p [] = refl
prefix_map f p (x ∷ xs) = ap (λ n. cond (p (f x)) (1 + n) 0) (prefix_map f p xs)

pub position_map : {A : Type 0} (f : A → List ℕ) (p : List ℕ → Bool) (xs : List A) → position (λ x. p (f x)) xs ≡ position p (map f xs)
position_map f p xs =
    ap (λ n. cond (nat_lt n (length xs)) (Some n) None) (prefix_map f (λ n. not (p n)) xs)
    ∙ ap (λ n. cond (nat_lt (prefix_len (λ n. not (p n)) (map f xs)) n) (Some (prefix_len (λ n. not (p n)) (map f xs))) None) (sym (length-map xs f))

-- a key that is added to a set adds its name to the set's names
pub name_added : (ks : List (Bor (List ℕ))) (k : Bor (List ℕ)) → map (λ (x : Bor (List ℕ)). x.now) (insert_key (λ (x y : Bor (List ℕ)). bytes_eq x.now y.now) ks k) ≡ with_name (map (λ (x : Bor (List ℕ)). x.now) ks) k.now
name_added ks k =
    by (list_any (λ (x : Bor (List ℕ)). bytes_eq k.now x.now) ks)
    ∙ ap (λ b. cond b (map now ks) (map now ks ++ k.now ∷ [])) (list_any_map now (bytes_eq k.now) ks)
  where
    now : Bor (List ℕ) → List ℕ
    now = λ (x : Bor (List ℕ)). x.now

    by : (b : Bool) → map now (cond b ks (ks ++ k ∷ [])) ≡ cond b (map now ks) (map now ks ++ k.now ∷ [])
    by true = refl
    by false = map-append now ks (k ∷ [])
