-- A word is compared with the keywords that begin as it does, and is none of the others.
use Rattle.std.proofs.Common.{◌≡◌, ℕ, List, [], ◌∷◌, Bool, true, false, ◌||◌, refl, sym, ap, ◌∙◌, eq-eqb}
use Rattle.std.specs.Prelude.{slice_index, ◌==◌}
use Rattle.std.specs.List.{list_any, filter}
use Rattle.std.specs.Str.{bytes_eq}
use Rattle.std.proofs.lemmas.Map.Views.{any-filter_same}
use Rattle.std.proofs.lemmas.Slice.Eq.{bytes_eq-Decides}

first_same : (word other : List ℕ) (first : ℕ) → slice_index word 0 ≡ first → bytes_eq word other ≡ true → slice_index other 0 ≡ first
first_same word other first h e = ap (λ w. slice_index w 0) (sym ((bytes_eq-Decides word other).0 e)) ∙ h

pub by_first : (word : List ℕ) (first : ℕ) (words : List (List ℕ)) → slice_index word 0 ≡ first
    → list_any (bytes_eq word) (filter (λ other. slice_index other 0 == first) words) ≡ list_any (bytes_eq word) words
by_first word first words h =
    any-filter_same (bytes_eq word) (λ other. slice_index other 0 == first) true (λ other e. eq-eqb (slice_index other 0) first (first_same word other first h e)) words

-- none of the words begins so
abbrev pub BeginOtherwise : ℕ → List (List ℕ) → Type 0
BeginOtherwise first [] = Unit {0}
BeginOtherwise first (other ∷ words) = (slice_index other 0 ≡ first → ⊥) × BeginOtherwise first words

pub none_so : (word : List ℕ) (first : ℕ) (words : List (List ℕ)) → slice_index word 0 ≡ first → BeginOtherwise first words → list_any (bytes_eq word) words ≡ false
none_so word first [] h a = refl
none_so word first (other ∷ words) h a = go (bytes_eq word other) refl (none_so word first words h a.1)
  where
    go : (b : Bool) → bytes_eq word other ≡ b → list_any (bytes_eq word) words ≡ false → (b || list_any (bytes_eq word) words) ≡ false
    go true e n = absurd (a.0 (first_same word other first h e))
    go false e n = n
