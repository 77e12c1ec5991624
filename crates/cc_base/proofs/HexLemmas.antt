-- Hexadecimal digits that are written from the last to the first, at the end of a buffer.
use Rattle.std.proofs.Common.{◌≡◌, refl, sym, ap, ◌∙◌, ℕ, zero, suc, ◌+◌, ◌-◌, ◌/◌, ◌%◌, ◌^◌, ◌≤◌, ◌<◌, Bool, false, cond, List, [], ◌∷◌, length, take, drop, arith}
use Rattle.std.proofs.Math.ListN.{set}
use Rattle.std.proofs.Math.Logic.{⊎_elim}
use Rattle.std.proofs.lemmas.Bool.{eq-eqb, ne_eqb, cases_lt}
use Rattle.std.proofs.lemmas.List.{drop-set, take-set, take-take}
use Rattle.std.specs.Fmt.{digits, digits_onto, digit_glyph}

-- the last k hexadecimal digits of n at most, and then these
unfoldable pub hex_onto : ℕ → ℕ → List ℕ → List ℕ
hex_onto k n acc = digits_onto k 16 false n acc

-- the lowest digit, and then these
abbrev pub lowest : ℕ → List ℕ → List ℕ
lowest n acc = digit_glyph false (n % 16) ∷ acc

last : (k n : ℕ) (acc : List ℕ) → n < 16 → hex_onto (suc k) n acc ≡ lowest n acc
unfolding hex_onto
last k n acc small = ap (λ (b : Bool). cond b (lowest n acc) (digits_onto k 16 false (n / 16) (lowest n acc))) (eq-eqb (n / 16) 0 (omega arith))

next : (k n : ℕ) (acc : List ℕ) → 16 ≤ n → hex_onto (suc k) n acc ≡ hex_onto k (n / 16) (lowest n acc)
unfolding hex_onto
next k n acc large = ap (λ (b : Bool). cond b (lowest n acc) (digits_onto k 16 false (n / 16) (lowest n acc))) (ne_eqb (n / 16) 0 (λ e. omega arith))

-- the bound on the digits does not matter where it is large enough
enough : (j k n : ℕ) (acc : List ℕ) → n < 16 ^ suc j → n < 16 ^ suc k → hex_onto (suc j) n acc ≡ hex_onto (suc k) n acc
enough zero k n acc p q = last zero n acc (omega arith) ∙ sym (last k n acc (omega arith))
enough (suc j) zero n acc p q = last (suc j) n acc (omega arith) ∙ sym (last zero n acc (omega arith))
enough (suc j) (suc k) n acc p q = ⊎_elim
    (λ l. last (suc j) n acc l ∙ sym (last (suc k) n acc l))
    (λ l. next (suc j) n acc l ∙ enough j k (n / 16) (lowest n acc) (omega arith) (omega arith) ∙ sym (next (suc k) n acc l))
    (cases_lt n 16)

all_digits : (n : ℕ) → hex_onto 64 n [] ≡ digits 16 false n
unfolding hex_onto digits
all_digits n = refl

-- twenty digits are enough for a number of 64 bits
pub hex_onto-digits : (n : ℕ) → n < 2 ^ 64 → hex_onto 20 n [] ≡ digits 16 false n
hex_onto-digits n small = enough 19 63 n [] (omega arith) (omega arith) ∙ all_digits n

pub hex_onto-none : (i n : ℕ) (acc : List ℕ) → i ≤ 0 → hex_onto i n acc ≡ acc
unfolding hex_onto
hex_onto-none zero n acc none = refl
hex_onto-none (suc k) n acc none = absurd (omega arith)

pub hex_onto-last : (i n : ℕ) (acc : List ℕ) → 0 < i → n / 16 ≡ 0 → hex_onto i n acc ≡ lowest n acc
hex_onto-last zero n acc some none = absurd (omega arith)
hex_onto-last (suc k) n acc some none = last k n acc (omega arith)

pub hex_onto-next : (i n : ℕ) (acc : List ℕ) → 0 < i → (n / 16 ≡ 0 → ⊥) → hex_onto i n acc ≡ hex_onto (i - 1) (n / 16) (lowest n acc)
hex_onto-next zero n acc some more = absurd (omega arith)
hex_onto-next (suc k) n acc some more = next k n acc (omega arith) ∙ ap (λ (j : ℕ). hex_onto j (n / 16) (lowest n acc)) {x = k} {y = suc k - 1} (omega arith)

-- a digit is written just before the place
pub one_before : (out : List ℕ) (i x : ℕ) → 0 < i → i ≤ length out → drop (i - 1) (set out (i - 1) x) ≡ x ∷ drop i out
one_before out i x some within = let back : i - 1 + 1 ≡ i = omega arith in drop-set out (i - 1) x (omega arith) ∙ ap (λ k. x ∷ drop k out) back

pub as_before : (out old : List ℕ) (i x : ℕ) → take i out ≡ take i old → take (i - 1) (set out (i - 1) x) ≡ take (i - 1) old
as_before out old i x same =
    take-set out (i - 1) x ∙ sym (take-take (i - 1) i out (omega arith)) ∙ ap (take (i - 1)) same ∙ take-take (i - 1) i old (omega arith)
