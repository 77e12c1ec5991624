-- The first answer that an item of a list gives, found item by item.
use Rattle.std.proofs.Common.{◌≡◌, ℕ, ◌+◌, ◌<◌, ◌≤◌, List, Option, Some, None, drop, get_or, length, ap, ◌∙◌}
use Rattle.std.specs.Option.{option_or}
use Rattle.std.proofs.lemmas.List.{drop_more, drop_all}
use Rattle.cc_base.specs.Faces.{first_answer}

opened : {A R : Type 0} (ask : ℕ → A → Option R) (xs : List A) (k : ℕ) (d : A) → k < length xs
    → first_answer ask k (drop k xs) ≡ option_or (ask k (get_or xs k d)) (first_answer ask (k + 1) (drop (k + 1) xs))
opened {A} ask xs k d l = ap (λ (ys : List A). first_answer ask k ys) (drop_more xs k d l)

pub goes_on : {A R : Type 0} (ask : ℕ → A → Option R) (xs : List A) (k : ℕ) (d : A) → k < length xs → ask k (get_or xs k d) ≡ None
    → first_answer ask k (drop k xs) ≡ first_answer ask (k + 1) (drop (k + 1) xs)
goes_on {A} {R} ask xs k d l none = opened ask xs k d l ∙ ap (λ (o : Option R). option_or o (first_answer ask (k + 1) (drop (k + 1) xs))) none

pub found : {A R : Type 0} (ask : ℕ → A → Option R) (xs : List A) (k : ℕ) (d : A) (r : R) → k < length xs → ask k (get_or xs k d) ≡ Some r
    → first_answer ask k (drop k xs) ≡ Some r
found {A} {R} ask xs k d r l some = opened ask xs k d l ∙ ap (λ (o : Option R). option_or o (first_answer ask (k + 1) (drop (k + 1) xs))) some

pub none_left : {A R : Type 0} (ask : ℕ → A → Option R) (xs : List A) (k : ℕ) → length xs ≤ k → first_answer ask k (drop k xs) ≡ None
none_left {A} ask xs k l = ap (λ (ys : List A). first_answer ask k ys) (drop_all k xs l)
