-- Tokens of lists whose items were read off a tree.
use Rattle.std.proofs.Common.{◌≡◌, ℕ, List, [], ◌∷◌, ◌++◌, map, refl, ap}
use Rattle.std.specs.List.{flat_map}
use Rattle.std.proofs.lemmas.List.Folds.{flat_map-map}
use Rattle.text_grammar.specs.declared.kind.Kind.{Kind}
use Rattle.text_grammar.specs.Grammar.{Symbol}
use Rattle.text_print.specs.Spelling.{fixed}
use Rattle.text_print.specs.Canonical.{separated, in_a_row, spaced}
use Rattle.text_print.specs.Pieces.{token_of, tokens_in}
use Rattle.text_print.specs.declared.pieces.Piece.{Piece}

pub separated_map : {A : Type 0} (kind : Kind) (f : A → List Symbol) (xs : List A) → separated kind (λ ts. ts) (map f xs) ≡ separated kind f xs
separated_map kind f [] = refl
separated_map kind f (x ∷ xs) = ap (λ q. f x ++ q) (flat_map-map (λ y. fixed kind ∷ y) f xs)

pub in_a_row_map : {A : Type 0} (f : A → List Symbol) (xs : List A) → in_a_row (map f xs) ≡ flat_map f xs
in_a_row_map f xs = flat_map-map (λ ts. ts) f xs

-- the same, piece by piece
abbrev pub spaced_in : List Piece → List ℕ
spaced_in [] = []
spaced_in (p ∷ ps) = (token_of p).text ++ flat_map (λ q. 32 ∷ (token_of q).text) ps

pub spaced_map : (ps : List Piece) → spaced (tokens_in ps) ≡ spaced_in ps
spaced_map [] = refl
spaced_map (p ∷ ps) = ap (λ q. (token_of p).text ++ q) (flat_map-map (λ y. 32 ∷ y.text) token_of ps)
