-- What the first answer of a list's items tells of them, and a test of the joined lists of a list's items.
use Rattle.std.specs.Prelude.{◌≡◌, ℕ, zero, suc, ◌+◌, ◌<◌, List, [], ◌∷◌, ◌++◌, length, take, get_or, Option, Some, None, Bool, true}
use Rattle.std.specs.List.{list_any, flat_map}
use Rattle.std.specs.Option.{option_or}
use Rattle.std.proofs.Common.{arith, ◌∙◌, ap, sym, refl}
use Rattle.std.proofs.lemmas.Option.{none-some}
use Rattle.std.proofs.lemmas.List.{length-take, get_or-take}
use Rattle.std.proofs.lemmas.List.Folds.{list_any_at, list_any-append}
use Rattle.cc_base.specs.Faces.{first_answer}
use Rattle.second_code.proofs.Tests.{or_first, or_later}

-- where neither answers
pub or_none : {R : Type 0} (a b : Option R) → option_or a b ≡ None → (a ≡ None) × (b ≡ None)
or_none None b e = (refl, e)
or_none (Some r) b e = absurd (none-some r (sym e))

-- where there is no first answer no item has one
pub first_none : {A R : Type 0} (ask : ℕ → A → Option R) (k : ℕ) (xs : List A) → first_answer ask k xs ≡ None → (i j : ℕ) (d : A) → j ≡ k + i → i < length xs → ask j (get_or xs i d) ≡ None
first_none ask k [] e i j d same h = absurd (omega (arith, h))
first_none ask k (x ∷ xs) e zero j d same h = ap (λ (n : ℕ). ask n x) (let n : j ≡ k = omega (arith, same) in n) ∙ (or_none (ask k x) (first_answer ask (k + 1) xs) e).0
first_none ask k (x ∷ xs) e (suc i) j d same h = first_none ask (k + 1) xs (or_none (ask k x) (first_answer ask (k + 1) xs) e).1 i j d (omega (arith, same)) (omega (arith, h))

-- the item that gives it
pub record AnswersAt {A R : Type 0} (ask : ℕ → A → Option R) (k : ℕ) (xs : List A) (answer : R) : Type 0 where
  pub place : ℕ
  pub number : ℕ
  pub counts : number ≡ k + place
  pub inside : place < length xs
  pub is : (d : A) → ask number (get_or xs place d) ≡ Some answer

answers_first : {A R : Type 0} (ask : ℕ → A → Option R) (k : ℕ) (x : A) (xs : List A) (answer : R) → (first_answer ask (k + 1) xs ≡ Some answer → AnswersAt ask (k + 1) xs answer)
    → (o : Option R) → ask k x ≡ o → option_or o (first_answer ask (k + 1) xs) ≡ Some answer → AnswersAt ask k (x ∷ xs) answer
answers_first ask k x xs answer more None a e =
    let w = more e in let c = w.counts in let h = w.inside in
    record { place = suc w.place; number = w.number; counts = omega (arith, c); inside = omega (arith, h); is = w.is }
answers_first ask k x xs answer more (Some r) a e = record { place = 0; number = k; counts = omega arith; inside = omega arith; is = λ d. a ∙ e }

pub answers_at : {A R : Type 0} (ask : ℕ → A → Option R) (k : ℕ) (xs : List A) (answer : R) → first_answer ask k xs ≡ Some answer → AnswersAt ask k xs answer
answers_at ask k [] answer e = absurd (none-some answer e)
answers_at ask k (x ∷ xs) answer e = answers_first ask k x xs answer (answers_at ask (k + 1) xs answer) (ask k x) refl e

-- what passes in one list passes in all of them
pub any_first : {X : Type 0} (p : X → Bool) (xs ys : List X) → list_any p xs ≡ true → list_any p (xs ++ ys) ≡ true
any_first p xs ys e = list_any-append p xs ys ∙ or_first (list_any p xs) (list_any p ys) e

pub any_second : {X : Type 0} (p : X → Bool) (xs ys : List X) → list_any p ys ≡ true → list_any p (xs ++ ys) ≡ true
any_second p xs ys e = list_any-append p xs ys ∙ or_later (list_any p xs) (list_any p ys) e

any_joined : {X A : Type 0} (f : A → List X) (p : X → Bool) (xs : List A) (i : ℕ) (d : A) → i < length xs → list_any p (f (get_or xs i d)) ≡ true → list_any p (flat_map f xs) ≡ true
any_joined f p [] i d h e = absurd (omega (arith, h))
any_joined f p (x ∷ xs) zero d h e = any_first p (f x) (flat_map f xs) e
any_joined f p (x ∷ xs) (suc i) d h e = any_second p (f x) (flat_map f xs) (any_joined f p xs i d (omega (arith, h)) e)

-- also in the first of the lists
pub any_before : {X A : Type 0} (f : A → List X) (p : X → Bool) (xs : List A) (i n j : ℕ) (d : A) (e : X) → i < n → i < length xs → j < length (f (get_or xs i d)) → p (get_or (f (get_or xs i d)) j e) ≡ true
    → list_any p (flat_map f (take n xs)) ≡ true
any_before f p xs i n j d e l h k t =
    any_joined f p (take n xs) i d (omega (arith, l, h, length-take n xs))
    (ap (λ x. list_any p (f x)) (get_or-take n xs i d l) ∙ list_any_at p (f (get_or xs i d)) j e k t)
