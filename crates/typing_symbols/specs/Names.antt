-- Names, each once, in the order of first sight.
use Rattle.std.specs.Prelude.{ℕ, Bool, cond, List, [], ◌∷◌, ◌++◌, map}
use Rattle.std.specs.List.{list_any}
use Rattle.std.specs.HashSet.{HashSet}
use Rattle.std.specs.Str.{bytes_eq}
use denote.Ref.{Bor}

abbrev pub is_among : List ℕ → List (List ℕ) → Bool
is_among name names = list_any (bytes_eq name) names

-- a name that stands there is not added again
abbrev pub with_name : List (List ℕ) → List ℕ → List (List ℕ)
with_name names name = cond (is_among name names) names (names ++ name ∷ [])

-- each of these names is added in turn
abbrev pub with_names : List (List ℕ) → List (List ℕ) → List (List ℕ)
with_names names [] = names
with_names names (n ∷ ns) = with_names (with_name names n) ns

-- the names of a set
abbrev pub names_in : {S : Type 0} → HashSet (Bor (List ℕ)) S → List (List ℕ)
names_in s = map (λ (k : Bor (List ℕ)). k.now) s.keys
