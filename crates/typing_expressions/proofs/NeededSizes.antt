-- Sizes that are told to be too large are not known ones, but for pointers.
use Rattle.std.proofs.Common.{◌≡◌, ◌⊎◌, inl, inr, ℕ, zero, suc, ◌*◌, ◌<◌, Bool, true, ◌||◌, ◌==◌, List, [], ◌∷◌, Option, Some, None, refl, sym, ap, ◌∙◌, subst, arith}
use Rattle.std.specs.Option.{option_map, option_and_then}
use Rattle.std.proofs.lemmas.Bool.{false≢true}
use Rattle.std.proofs.Math.Dec.{eqb-suc-zero}
use Rattle.std.proofs.lemmas.Option.{none-some, same_Some}
use Rattle.typing_types.specs.declared.class.Base.{Base}
use Rattle.typing_types.specs.declared.class.Base.TheVariants as base
use Rattle.typing_types.specs.declared.class.Class.TheVariants as class
use Rattle.typing_types.specs.Types.{Derived, class_of, is_empty_among}
use Rattle.typing_types.specs.Laid.{Laid}
use Rattle.typing_types.specs.Structs.{base_size}
use Rattle.typing_types.specs.Sizes.{size_of, count_of, starred, times}
use Rattle.typing_types.specs.Widths.{largest}
use Rattle.typing_expressions.specs.Conversions.{within, needed_size}

-- no elements where one of the lengths is 0
count_empty : (ls : List (Option ℕ)) (c : ℕ) → is_empty_among ls ≡ true → count_of ls ≡ Some c → c ≡ 0
count_empty [] c e h = absurd (false≢true e)
count_empty (None ∷ ls) c e h = absurd (none-some c h)
count_empty (Some n ∷ ls) c e h = by n (count_of ls) (λ m g i. count_empty ls m i g) e h
  where
    by : (n : ℕ) (o : Option ℕ) → ((m : ℕ) → o ≡ Some m → is_empty_among ls ≡ true → m ≡ 0) → (n == 0 || is_empty_among ls) ≡ true → option_map (λ m. n * m) o ≡ Some c → c ≡ 0
    by n None f e h = absurd (none-some c h)
    by zero (Some m) f e h = omega (arith, same_Some (0 * m) c h)
    by (suc n) (Some m) f e h =
        let z : m ≡ 0 = f m refl (sym (ap (λ (b : Bool). b || is_empty_among ls) (eqb-suc-zero n)) ∙ e) in
        sym (same_Some (suc n * m) c h) ∙ ap (λ (x : ℕ). suc n * x) z ∙ omega arith

too_large : (n : ℕ) → largest < n → within n ≡ None
too_large n h = grind (arith, h)

none_of_zero : (n : ℕ) → n ≡ 0 → within n ≡ None
none_of_zero n h = subst (λ x. within x ≡ None) (sym h) refl

-- an array with an empty length has no bytes
empty : (layouts : List (Option Laid)) (b : Base) (stars : ℕ) (ls : List (Option ℕ)) (ps n : ℕ) → (class_of (record { base = b; stars = stars; lengths = ls; pointers = ps }) ≡ class.Pointer → ⊥) → size_of layouts (record { base = b; stars = stars; lengths = ls; pointers = ps }) ≡ Some n → is_empty_among ls ≡ true → n ≡ 0
empty layouts b stars [] ps n c h e = absurd (false≢true e)
empty layouts b stars (l ∷ ls) (suc ps) n c h e = absurd (c refl)
empty layouts b stars (l ∷ ls) zero n c h e = by (count_of (l ∷ ls)) (starred stars (base_size layouts b)) (λ m g. count_empty (l ∷ ls) m e g) h
  where
    by : (o p : Option ℕ) → ((m : ℕ) → o ≡ Some m → m ≡ 0) → times o p ≡ Some n → n ≡ 0
    by (Some m) (Some k) f h = sym (same_Some (m * k) n h) ∙ ap (λ x. x * k) (f m refl) ∙ omega arith
    by (Some m) None f h = absurd (none-some n h)
    by None p f h = absurd (none-some n h)

pub unknown_when_too_large : (layouts : List (Option Laid)) (t : Derived) (n : ℕ) → (class_of t ≡ class.Pointer → ⊥) → size_of layouts t ≡ Some n → ((largest < n) ⊎ (is_empty_among t.lengths ≡ true)) → needed_size layouts t ≡ None
unknown_when_too_large layouts t n c h (inl large) = ap (λ o. option_and_then within o) h ∙ too_large n large
unknown_when_too_large layouts t n c h (inr e) = ap (λ o. option_and_then within o) h ∙ none_of_zero n (empty layouts t.base t.stars t.lengths t.pointers n c h e)

pub pointer_known : (layouts : List (Option Laid)) (t : Derived) → class_of t ≡ class.Pointer → needed_size layouts t ≡ Some 4
pointer_known layouts t c = by t.base t.stars t.lengths t.pointers c
  where
    by : (b : Base) (stars : ℕ) (ls : List (Option ℕ)) (ps : ℕ) → class_of (record { base = b; stars = stars; lengths = ls; pointers = ps }) ≡ class.Pointer → needed_size layouts (record { base = b; stars = stars; lengths = ls; pointers = ps }) ≡ Some 4
    by b (suc s) [] zero c = refl
    by b stars [] (suc ps) c = refl
    by b stars (l ∷ ls) (suc ps) c = refl
    by (base.Integer i) zero [] zero c = cc
    by base.Void zero [] zero c = cc
    by (base.Struct tag) zero [] zero c = cc
    by b stars (l ∷ ls) zero c = cc
