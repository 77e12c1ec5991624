-- A number that is spelled canonically has its value.
use Rattle.std.proofs.Common.{◌≡◌, ℕ, ◌+◌, ◌-◌, ◌<◌, ◌^◌, zero, suc, List, [], ◌∷◌, ◌++◌, length, take, drop, get_or, eqb, eqb-true, Bool, true, false, ◌&&◌, ◌||◌, if◌then◌else◌, decimal, refl, sym, ap, ◌∙◌, arith, nat_lt, length-append}
use Rattle.std.proofs.lemmas.List.{append-nil, get_or-append-add}
use Rattle.std.proofs.lemmas.Fmt.{first_decimal, decimal_digit, decimal_is_IsNumeral}
use Rattle.std.specs.Char.{digit_value}
use Rattle.std.specs.Str.Parse.{AllDigits, digits_value}
use Rattle.text_grammar.specs.Lexical.{is_unsigned, body_of, is_hexadecimal, radix_of, digits_of, number_value, is_unsigned_number}
use Rattle.text_print.specs.Spelling.{number_text}

true_false : true ≡ false → ⊥
true_false h = cc

not_eqb : (a b : ℕ) → (a ≡ b → ⊥) → eqb a b ≡ false
not_eqb a b h = go (eqb a b) refl
  where
    go : (t : Bool) → eqb a b ≡ t → t ≡ false
    go true e = absurd (h (eqb-true a b e))
    go false e = refl

-- Digits.

-- what is a digit, is no letter
digit_below : (c : ℕ) → digit_value c < 10 → c < 58
digit_below c h = grind arith

all_below : (ds : List ℕ) → AllDigits 10 ds → (i : ℕ) → get_or ds i 0 < 58
all_below [] h i = omega arith
all_below (d ∷ ds) h zero = digit_below d h.0
all_below (d ∷ ds) h (suc i) = all_below ds h.1 i

-- With a suffix, and without.

suffix_last : (ds : List ℕ) → get_or (ds ++ 117 ∷ []) (length (ds ++ 117 ∷ []) - 1) 0 ≡ 117
suffix_last ds =
    let e : length (ds ++ 117 ∷ []) - 1 ≡ length ds + 0 = omega (arith, length-append ds (117 ∷ [])) in
    ap (λ n. get_or (ds ++ 117 ∷ []) n 0) e ∙ get_or-append-add ds (117 ∷ []) 0 0

unsigned_with : (ds : List ℕ) → is_unsigned (ds ++ 117 ∷ []) ≡ true
unfolding is_unsigned
unsigned_with ds = ap (λ n. eqb n 117 || eqb n 85) (suffix_last ds)

body_with : (ds : List ℕ) → body_of (ds ++ 117 ∷ []) ≡ ds
unfolding body_of
body_with ds =
    let e : length (ds ++ 117 ∷ []) - 1 ≡ length ds = omega (arith, length-append ds (117 ∷ [])) in
    ap (λ b. if b then take (length (ds ++ 117 ∷ []) - 1) (ds ++ 117 ∷ []) else (ds ++ 117 ∷ [])) (unsigned_with ds)
    ∙ ap (λ n. take n (ds ++ 117 ∷ [])) e
    ∙ front_of ds (117 ∷ [])
  where
    front_of : (ds es : List ℕ) → take (length ds) (ds ++ es) ≡ ds
    front_of [] es = refl
    front_of (d ∷ ds) es = ap (λ q. d ∷ q) (front_of ds es)

unsigned_without : (ds : List ℕ) → AllDigits 10 ds → is_unsigned ds ≡ false
unfolding is_unsigned
unsigned_without ds h =
    let l = all_below ds h (length ds - 1) in
    ap (λ b. b || eqb (get_or ds (length ds - 1) 0) 85) (not_eqb (get_or ds (length ds - 1) 0) 117 (λ e. omega (arith, l, e)))
    ∙ not_eqb (get_or ds (length ds - 1) 0) 85 (λ e. omega (arith, l, e))

body_without : (ds : List ℕ) → AllDigits 10 ds → body_of ds ≡ ds
unfolding body_of
body_without ds h = ap (λ b. if b then take (length ds - 1) ds else ds) (unsigned_without ds h)

-- The value.

abbrev value_of : List ℕ → ℕ
value_of body = digits_value (radix_of body) (digits_of body)

value_zero : value_of (48 ∷ []) ≡ 0
unfolding radix_of digits_of is_hexadecimal
value_zero = refl

value_some : (ds : List ℕ) → 48 < get_or ds 0 0 → value_of ds ≡ digits_value 10 ds
unfolding radix_of digits_of is_hexadecimal
value_some ds h =
    let e = not_eqb (get_or ds 0 0) 48 (λ e. omega (arith, h, e)) in
    ap (λ b. digits_value (if (b && (eqb (get_or ds 1 0) 120 || eqb (get_or ds 1 0) 88)) then 16 else (if b then 8 else 10)) (if (b && (eqb (get_or ds 1 0) 120 || eqb (get_or ds 1 0) 88)) then drop 2 ds else ds)) e

value_decimal : (n : ℕ) → n < 2 ^ 64 → value_of (decimal n) ≡ n
value_decimal zero h = ap value_of (decimal_digit 0 (omega arith)) ∙ value_zero
value_decimal (suc n) h = value_some (decimal (suc n)) (first_decimal (suc n) (omega arith) h) ∙ (decimal_is_IsNumeral (suc n) h).1

text_value : (run : List ℕ) → number_value run ≡ value_of (body_of run)
unfolding number_value
text_value run = refl

pub number_value_again : (n : ℕ) (s : Bool) → n < 2 ^ 64 → number_value (number_text n s) ≡ n
unfolding number_text
number_value_again n true h = text_value (decimal n ++ 117 ∷ []) ∙ ap value_of (body_with (decimal n)) ∙ value_decimal n h
number_value_again n false h =
    ap number_value (append-nil (decimal n)) ∙ text_value (decimal n) ∙ ap value_of (body_without (decimal n) (decimal_is_IsNumeral n h).0.1) ∙ value_decimal n h

sign_is : (run : List ℕ) → is_unsigned_number run ≡ (is_unsigned run || nat_lt 2147483647 (number_value run))
unfolding is_unsigned_number
sign_is run = refl

pub sign_again : (n : ℕ) (s : Bool) → n < 2 ^ 64 → (s ≡ false → nat_lt 2147483647 n ≡ false) → is_unsigned_number (number_text n s) ≡ s
unfolding number_text
sign_again n true h f = sign_is (decimal n ++ 117 ∷ []) ∙ ap (λ b. b || nat_lt 2147483647 (number_value (decimal n ++ 117 ∷ []))) (unsigned_with (decimal n))
sign_again n false h f =
    ap is_unsigned_number (append-nil (decimal n)) ∙ sign_is (decimal n)
    ∙ ap (λ b. b || nat_lt 2147483647 (number_value (decimal n))) (unsigned_without (decimal n) (decimal_is_IsNumeral n h).0.1)
    ∙ ap (λ v. nat_lt 2147483647 v) (sym (ap number_value (append-nil (decimal n))) ∙ number_value_again n false h) ∙ f refl

pub text_unsigned : (n : ℕ) (s : Bool) → n < 2 ^ 64 → is_unsigned (number_text n s) ≡ s
unfolding number_text
text_unsigned n true h = unsigned_with (decimal n)
text_unsigned n false h = ap is_unsigned (append-nil (decimal n)) ∙ unsigned_without (decimal n) (decimal_is_IsNumeral n h).0.1

pub text_body : (n : ℕ) (s : Bool) → n < 2 ^ 64 → body_of (number_text n s) ≡ decimal n
unfolding number_text
text_body n true h = body_with (decimal n)
text_body n false h = ap body_of (append-nil (decimal n)) ∙ body_without (decimal n) (decimal_is_IsNumeral n h).0.1
