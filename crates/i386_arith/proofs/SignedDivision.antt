-- What `checked_div` and `%` of 64 bits give of a word as divisor.
use Rattle.std.proofs.Common.{◌≡◌, ℕ, zero, suc, ◌<◌, ◌^◌, true, false, ◌==◌, if◌then◌else◌, ℤ, pos, negsuc, Some, None, Option, int_lt, int_div, int_rem, unsigned_abs, FitsSigned, w32, w64, to_z, of_z, sym, ap, subst, ◌∙◌, arith}
use Rattle.std.proofs.lemmas.Int.{ints, to_z-of_z, rem_below, fits_signed_from_abs}
use Rattle.std.proofs.lemmas.Bool.{cond-true, cond-false}
use Rattle.std.specs.Int.{IsNonZero}
use Rattle.i386_arith.specs.declared.division.Division.{Division}
use Rattle.i386_arith.specs.Words.{signed, is_signed_word}
use Rattle.i386_arith.specs.Division.{double_word, signed_divided}

word_fits : (n : ℕ) → n < 2 ^ 32 → FitsSigned w32 (to_z w32 n)
word_fits n h = omega (arith, ints)

double_fits : (n : ℕ) → n < 2 ^ 64 → FitsSigned w64 (to_z w64 n)
double_fits n h = omega (arith, ints)

widened : (z : ℤ) → FitsSigned w32 z → FitsSigned w64 z
widened z h = omega (arith, ints)

narrow : (q : ℤ) → int_lt q (negsuc 2147483647) ≡ false → int_lt (pos 2147483647) q ≡ false → FitsSigned w32 q
narrow q h k = omega (arith, ints)

in_range : (q : ℤ) → int_lt q (negsuc 2147483647) ≡ false → int_lt (pos 2147483647) q ≡ false → is_signed_word q ≡ true
in_range (pos n) h k = grind (arith, ints)
in_range (negsuc n) h k = grind (arith, ints)

-- the cast of a number of 64 bits that fits 32
cast_down : (z : ℤ) → FitsSigned w32 z → of_z w32 (to_z w32 (of_z w32 (to_z w64 (of_z w64 z)))) ≡ of_z w32 z
cast_down z h = ap (λ (x : ℤ). of_z w32 (to_z w32 (of_z w32 x))) (to_z-of_z w64 z (widened z h)) ∙ ap (of_z w32) (to_z-of_z w32 z h)

remainder_fits : (n d : ℤ) → FitsSigned w32 d → 0 < unsigned_abs d → FitsSigned w32 (int_rem n d)
remainder_fits n d h some = let b : unsigned_abs (int_rem n d) < unsigned_abs d = rem_below n d some in fits_signed_from_abs w32 (int_rem n d) (small d h b)
  where
    small : (d : ℤ) → FitsSigned w32 d → unsigned_abs (int_rem n d) < unsigned_abs d → unsigned_abs (int_rem n d) < 2 ^ 31
    small (pos k) h b = omega (arith, ints)
    small (negsuc k) h b = omega (arith, ints)

not_zero : (divisor : ℕ) → 0 < unsigned_abs (signed divisor) → (divisor == 0) ≡ false
not_zero zero some = absurd (omega arith)
not_zero (suc k) some = grind arith

-- a number that is not 0
some_size : (d : ℤ) → FitsSigned w64 d → IsNonZero w64 d → 0 < unsigned_abs d
some_size (pos k) h some = omega (arith, ints)
some_size (negsuc k) h some = omega (arith, ints)

-- the dividend and the divisor as the code has them, and what it makes of them
pub signed_quotient : (high low divisor : ℕ) (n d q : ℤ) (x y : ℕ) → high < 2 ^ 32 → low < 2 ^ 32 → divisor < 2 ^ 32
    → n ≡ to_z w64 (double_word high low) → d ≡ to_z w32 (of_z w32 (signed divisor)) → IsNonZero w64 (to_z w64 (of_z w64 d))
    → FitsSigned w64 (int_div (to_z w64 (of_z w64 n)) (to_z w64 (of_z w64 d)))
    → q ≡ int_div (to_z w64 (of_z w64 n)) (to_z w64 (of_z w64 d)) → int_lt (to_z w64 (of_z w64 q)) (negsuc 2147483647) ≡ false → int_lt (pos 2147483647) (to_z w64 (of_z w64 q)) ≡ false
    → x ≡ of_z w32 (to_z w32 (of_z w32 (to_z w64 (of_z w64 q)))) → y ≡ of_z w32 (to_z w32 (of_z w32 (to_z w64 (of_z w64 (int_rem (to_z w64 (of_z w64 n)) (to_z w64 (of_z w64 d)))))))
    → Some (record { quotient = x; remainder = y }) ≡ signed_divided high low divisor
signed_quotient high low divisor n d q x y high_fits low_fits fits n_was d_was non_zero q_fits is low_is high_is x_is y_is =
    let dividend = to_z w64 (double_word high low) in
    let e = signed divisor in
    let e_fits : FitsSigned w32 e = word_fits divisor fits in
    let n_is : to_z w64 (of_z w64 n) ≡ dividend = ap (λ (z : ℤ). to_z w64 (of_z w64 z)) n_was ∙ to_z-of_z w64 dividend (double_fits (double_word high low) (omega arith)) in
    let d_is : to_z w64 (of_z w64 d) ≡ e = ap (λ (z : ℤ). to_z w64 (of_z w64 z)) (d_was ∙ to_z-of_z w32 e e_fits) ∙ to_z-of_z w64 e (widened e e_fits) in
    let some : 0 < unsigned_abs e = some_size e (widened e e_fits) (subst (λ (z : ℤ). IsNonZero w64 z) d_is non_zero) in
    let q_is : q ≡ int_div dividend e = is ∙ ap (λ (z : ℤ). int_div z (to_z w64 (of_z w64 d))) n_is ∙ ap (int_div dividend) d_is in
    let same : to_z w64 (of_z w64 q) ≡ q = to_z-of_z w64 q (subst (λ (z : ℤ). FitsSigned w64 z) (sym is) q_fits) in
    let low : int_lt q (negsuc 2147483647) ≡ false = ap (λ (z : ℤ). int_lt z (negsuc 2147483647)) (sym same) ∙ low_is in
    let high : int_lt (pos 2147483647) q ≡ false = ap (int_lt (pos 2147483647)) (sym same) ∙ high_is in
    let ranged : is_signed_word (int_div dividend e) ≡ true = ap is_signed_word (sym q_is) ∙ in_range q low high in
    let x_good : x ≡ of_z w32 (int_div dividend e) = x_is ∙ cast_down q (narrow q low high) ∙ ap (of_z w32) q_is in
    let r_is : int_rem (to_z w64 (of_z w64 n)) (to_z w64 (of_z w64 d)) ≡ int_rem dividend e = ap (λ (z : ℤ). int_rem z (to_z w64 (of_z w64 d))) n_is ∙ ap (int_rem dividend) d_is in
    let y_good : y ≡ of_z w32 (int_rem dividend e) = y_is ∙ ap (λ (z : ℤ). of_z w32 (to_z w32 (of_z w32 (to_z w64 (of_z w64 z))))) r_is ∙ cast_down (int_rem dividend e) (remainder_fits dividend e e_fits some) in
    let found : Option Division = Some (record { quotient = of_z w32 (int_div dividend e); remainder = of_z w32 (int_rem dividend e) }) in
    let parts : Some (record { quotient = x; remainder = y }) ≡ found = cc in
    parts ∙ sym (cond-true (is_signed_word (int_div dividend e)) found None ranged) ∙ sym (cond-false (divisor == 0) None (if is_signed_word (int_div dividend e) then found else None) (not_zero divisor some))
