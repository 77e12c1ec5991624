-- The value of digits, read one by one.
use Rattle.std.proofs.Common.{◌≡◌, ℕ, ◌+◌, ◌*◌, ◌<◌, ◌≤◌, zero, suc, List, [], ◌∷◌, length, take, get_or, cond, refl, rules, ◌^◌, true, false, Bool, arith, ap, sym, ◌∙◌}
use borrow.Author.Tests.{ltb-true}
use Rattle.text_grammar.specs.Lexical.{is_unsigned, body_of, radix_of, digits_of, greatest, number_value, IsNumber}
use Rattle.std.specs.Char.{digit_value, is_digit}
use Rattle.std.specs.List.{prefix_len, take_while}
use Rattle.std.specs.Str.Parse.{AllDigits, digits_value}
use Rattle.std.proofs.lemmas.Int.Digits.{digits_value_more}
use Rattle.std.proofs.lemmas.Str.Parse.{digits_value-take-le}

pub digit_in : (radix : ℕ) (ds : List ℕ) (i : ℕ) → AllDigits radix ds → i < length ds → digit_value (get_or ds i 0) < radix
digit_in radix [] i a l = absurd (omega arith)
digit_in radix (d ∷ ds) zero a l = a.0
digit_in radix (d ∷ ds) (suc i) a l = digit_in radix ds i a.1 (omega arith)

pub next_value : (radix : ℕ) (ds : List ℕ) (i v d : ℕ) → i < length ds → v ≡ digits_value radix (take i ds) → d ≡ digit_value (get_or ds i 0) → v * radix + d ≡ digits_value radix (take (i + 1) ds)
next_value radix ds i v d l e f = let g = digits_value_more radix ds i l in ap (λ n. n * radix + d) e ∙ ap (λ n. digits_value radix (take i ds) * radix + n) f ∙ sym g

pub next_is_less : (radix : ℕ) (ds : List ℕ) (i v d : ℕ) → 2 ≤ radix → i < length ds → v ≡ digits_value radix (take i ds) → d ≡ digit_value (get_or ds i 0) → v * radix + d ≤ digits_value radix ds
next_is_less radix ds i v d r l e f =
    let g = next_value radix ds i v d l e f in
    let h = digits_value-take-le radix ds (i + 1) (omega arith) in omega (arith, g, h)

front_more : (radix b : ℕ) (text : List ℕ) (test : Bool) → is_digit b radix ≡ test → AllDigits radix (take_while (λ b. is_digit b radix) text) → AllDigits radix (take (cond test (1 + prefix_len (λ b. is_digit b radix) text) 0) (b ∷ text))
front_more radix b text true e a =
    let n : ℕ = prefix_len (λ b. is_digit b radix) text in
    let one : 1 + n ≡ suc n = omega arith in
    rw one (ltb-true (digit_value b) radix e, a)
front_more radix b text false e a = tt

-- the longest front of digits is of digits
pub front_digits : (radix : ℕ) (text : List ℕ) → AllDigits radix (take_while (λ b. is_digit b radix) text)
front_digits radix [] = tt
front_digits radix (b ∷ text) = front_more radix b text (is_digit b radix) refl (front_digits radix text)

greatest_is : (radix : ℕ) (unsigned : Bool) → greatest radix unsigned ≤ 4294967295
unfolding greatest
greatest_is radix unsigned = search rules

-- digits that are none, or whose value is past 32 bits
pub not_number : (run : List ℕ) (radix : ℕ) (ds : List ℕ) → radix ≡ radix_of (body_of run) → ds ≡ digits_of (body_of run) → ¬ (AllDigits radix ds × (digits_value radix ds < 2 ^ 32)) → ¬ IsNumber run
unfolding number_value
not_number run radix ds e f n h =
    n (rw (e, f) (h.digits.1, let g = greatest_is (radix_of (body_of run)) (is_unsigned run) in omega (arith, g, h.fits)))
