-- The ones of a word.
use Rattle.std.proofs.Common.{◌≡◌, ◌≢◌, ℕ, zero, suc, ◌+◌, ◌-◌, ◌/◌, ◌%◌, ◌^◌, ◌<◌, ◌≤◌, Bool, true, false, ◌||◌, max, min, nat_eq, bit_and, bit_or, refl, sym, ap, subst, ◌∙◌, inl, inr, arith}
use Rattle.std.specs.Int.{bit_at, w64, bit_not, trailing_zeros}
use Rattle.std.proofs.lemmas.Nat.{shr-shr, shr_le}
use Rattle.std.proofs.lemmas.Nat.Bits.{bit_at-lt, bit_at_above, bit_at-trailing_zeros, bit_at_and, bit_at_or, bit_at_not, bit_at-zero}
use Rattle.bit_rows.specs.Words.{is_one}

pub is_one-of : (word word' k j : ℕ) → bit_at word k ≡ bit_at word' j → is_one word k ≡ is_one word' j
is_one-of word word' k j e = ap (λ (b : ℕ). nat_eq b 1) e

pub one : (word k : ℕ) → bit_at word k ≡ 1 → is_one word k ≡ true
one word k e = ap (λ (b : ℕ). nat_eq b 1) e

pub not_one : (word k : ℕ) → bit_at word k ≡ 0 → is_one word k ≡ false
not_one word k e = ap (λ (b : ℕ). nat_eq b 1) e

shifted : (word from i : ℕ) → bit_at (word / 2 ^ from) i ≡ bit_at word (from + i)
shifted word from i = ap (λ (q : ℕ). q % 2) (shr-shr word from i)

-- where nothing is left from a place on, there is no one from there on
pub none_from : (word from : ℕ) → word / 2 ^ from ≡ 0 → (k : ℕ) → from ≤ k → is_one word k ≡ false
none_from word from none k above =
    let i : ℕ = k - from in
    let at : from + i ≡ k = omega arith in
    not_one word k (ap (bit_at word) (sym at) ∙ sym (shifted word from i) ∙ ap (λ (r : ℕ). bit_at r i) none ∙ bit_at-zero i)

module _ (word from : ℕ) (fits : word < 2 ^ 64) (some : 0 < word / 2 ^ from) where
  rest : ℕ
  rest = word / 2 ^ from

  abbrev zeros : ℕ
  zeros = trailing_zeros w64 (word / 2 ^ from)

  known : (zeros < 64) × (bit_at (word / 2 ^ from) zeros ≡ 1) × ((i : ℕ) → i < zeros → bit_at (word / 2 ^ from) i ≡ 0)
  known = bit_at-trailing_zeros w64 (word / 2 ^ from) some (omega (arith, shr_le word from))

  bit_there : bit_at word (from + zeros) ≡ 1
  bit_there = sym (shifted word from zeros) ∙ known.1

  pub first_there : is_one word (from + zeros) ≡ true
  first_there = one word (from + zeros) bit_there

  pub first_within : from + zeros < 64
  first_within =
      elim (Rattle.std.proofs.lemmas.Bool.cases_lt (from + zeros) 64) [
        | inl h ↦ h
        | inr h ↦ absurd (omega (arith, bit_there, bit_at_above word 64 (from + zeros) fits h))
      ]

  pub none_before : (k : ℕ) → from ≤ k → k < from + zeros → is_one word k ≡ false
  none_before k above below =
      let i : ℕ = k - from in
      let at : from + i ≡ k = omega arith in
      not_one word k (ap (bit_at word) (sym at) ∙ sym (shifted word from i) ∙ known.2 i (omega arith))

-- a one of either word is one of both joined
pub is_one-or : (a b k : ℕ) → is_one (bit_or a b) k ≡ (is_one a k || is_one b k)
is_one-or a b k = ap (λ (m : ℕ). nat_eq m 1) (bit_at_or a b k) ∙ of_max (bit_at a k) (bit_at b k) (bit_at-lt a k) (bit_at-lt b k)
  where
    of_max : (x y : ℕ) → x < 2 → y < 2 → nat_eq (max x y) 1 ≡ (nat_eq x 1 || nat_eq y 1)
    of_max zero zero p q = refl
    of_max zero (suc zero) p q = refl
    of_max (suc zero) zero p q = refl
    of_max (suc zero) (suc zero) p q = refl
    of_max (suc (suc x)) y p q = absurd (omega arith)
    of_max zero (suc (suc y)) p q = absurd (omega arith)
    of_max (suc zero) (suc (suc y)) p q = absurd (omega arith)

-- what the second word has and the first has not
module _ (word added : ℕ) (fits : word < 2 ^ 64) where
  abbrev fresh : ℕ
  fresh = bit_and added (bit_not w64 word)

  of_fresh : (k : ℕ) → k < 64 → bit_at fresh k ≡ min (bit_at added k) (1 - bit_at word k)
  of_fresh k below = bit_at_and added (bit_not w64 word) k ∙ ap (min (bit_at added k)) (bit_at_not w64 word k fits below)

  pub all_there : fresh ≡ 0 → (k : ℕ) → k < 64 → is_one word k ≡ (is_one word k || is_one added k)
  all_there none k below =
      by_bits (bit_at word k) (bit_at added k) (bit_at-lt word k) (bit_at-lt added k) (sym (of_fresh k below) ∙ ap (λ (m : ℕ). bit_at m k) none ∙ bit_at-zero k)
    where
      by_bits : (x y : ℕ) → x < 2 → y < 2 → min y (1 - x) ≡ 0 → nat_eq x 1 ≡ (nat_eq x 1 || nat_eq y 1)
      by_bits zero zero p q e = refl
      by_bits zero (suc zero) p q e = absurd (omega arith)
      by_bits (suc zero) y p q e = refl
      by_bits (suc (suc x)) y p q e = absurd (omega arith)
      by_bits zero (suc (suc y)) p q e = absurd (omega arith)

  pub some_new : added < 2 ^ 64 → 0 < fresh → (k : ℕ) × (k < 64) × (is_one word k ≡ false) × (is_one added k ≡ true)
  some_new added_fits some =
      let known = bit_at-trailing_zeros w64 fresh some (omega (arith, Rattle.std.proofs.lemmas.Nat.and_le_l added (bit_not w64 word))) in
      let k : ℕ = trailing_zeros w64 fresh in
      let e : min (bit_at added k) (1 - bit_at word k) ≡ 1 = sym (of_fresh k known.0) ∙ known.1 in
      (k, known.0, not_one word k (omega (arith, e)), one added k (omega (arith, e, bit_at-lt added k)))
