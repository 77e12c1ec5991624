-- Tags in lists that were read off a tree.
use Rattle.std.proofs.Common.{◌≡◌, List, ℕ, map}
use Rattle.std.specs.List.{flat_map}
use Rattle.std.proofs.lemmas.List.Folds.{flat_map-map}
use Rattle.typing_tags.specs.Tags.{in_a_row}

pub in_a_row_map : {A : Type 0} (f : A → List (List ℕ)) (xs : List A) → in_a_row (map f xs) ≡ flat_map f xs
in_a_row_map f xs = flat_map-map (λ ts. ts) f xs
