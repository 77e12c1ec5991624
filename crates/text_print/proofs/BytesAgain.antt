-- A byte that is spelled canonically has its value.
use Rattle.std.specs.Option.{option_map_or}
use Rattle.std.proofs.Common.{◌≡◌, ℕ, ◌+◌, ◌*◌, ◌/◌, ◌%◌, ◌<◌, ◌≤◌, zero, suc, List, [], ◌∷◌, ◌++◌, length, drop, Some, refl, sym, ap, ◌∙◌, arith, true, false, take, append_assoc, length-append}
use Rattle.std.specs.List.{All, flat_map, prefix_len}
use Rattle.std.proofs.lemmas.List.Elements.{All-head, All-tail}
use Rattle.std.specs.Char.{is_digit, digit_value}
use Rattle.std.specs.Str.Parse.{digits_value}
use Rattle.text_grammar.specs.Lexical.{is_simple_escape, is_hex_digit, hex_escape, escape, escape_value, element, element_value, element_bytes, string_value}
use Rattle.text_print.specs.Spelling.{hex_digit, escaped, character_text, string_text}

hex_again : (n : ℕ) → n < 16 → (is_digit (hex_digit n) 16 ≡ true) × (digit_value (hex_digit n) ≡ n)
unfolding hex_digit
hex_again zero h = (refl, refl)
hex_again (suc zero) h = (refl, refl)
hex_again (suc (suc zero)) h = (refl, refl)
hex_again (suc (suc (suc zero))) h = (refl, refl)
hex_again (suc (suc (suc (suc zero)))) h = (refl, refl)
hex_again (suc (suc (suc (suc (suc zero))))) h = (refl, refl)
hex_again (suc (suc (suc (suc (suc (suc zero)))))) h = (refl, refl)
hex_again (suc (suc (suc (suc (suc (suc (suc zero))))))) h = (refl, refl)
hex_again (suc (suc (suc (suc (suc (suc (suc (suc zero)))))))) h = (refl, refl)
hex_again (suc (suc (suc (suc (suc (suc (suc (suc (suc zero))))))))) h = (refl, refl)
hex_again (suc (suc (suc (suc (suc (suc (suc (suc (suc (suc zero)))))))))) h = (refl, refl)
hex_again (suc (suc (suc (suc (suc (suc (suc (suc (suc (suc (suc zero))))))))))) h = (refl, refl)
hex_again (suc (suc (suc (suc (suc (suc (suc (suc (suc (suc (suc (suc zero)))))))))))) h = (refl, refl)
hex_again (suc (suc (suc (suc (suc (suc (suc (suc (suc (suc (suc (suc (suc zero))))))))))))) h = (refl, refl)
hex_again (suc (suc (suc (suc (suc (suc (suc (suc (suc (suc (suc (suc (suc (suc zero)))))))))))))) h = (refl, refl)
hex_again (suc (suc (suc (suc (suc (suc (suc (suc (suc (suc (suc (suc (suc (suc (suc zero))))))))))))))) h = (refl, refl)
hex_again (suc (suc (suc (suc (suc (suc (suc (suc (suc (suc (suc (suc (suc (suc (suc (suc n)))))))))))))))) h = absurd (omega (arith, h))

high : (b : ℕ) → b < 256 → b / 16 < 16
high b h = omega (arith, h)

low : (b : ℕ) → b % 16 < 16
low b = omega arith

whole : (b : ℕ) → b / 16 * 16 + b % 16 ≡ b
whole b = omega arith

-- two digits, and then none
two_digits : (a c q : ℕ) (rest : List ℕ) → is_digit a 16 ≡ true → is_digit c 16 ≡ true → is_digit q 16 ≡ false → prefix_len is_hex_digit (a ∷ c ∷ q ∷ rest) ≡ 2
two_digits a c q rest ha hc hq = rw ha (rw hc (rw hq refl))

escape_again : (b q : ℕ) (rest : List ℕ) → b < 256 → is_digit q 16 ≡ false → escape_value (120 ∷ hex_digit (b / 16) ∷ hex_digit (b % 16) ∷ q ∷ rest) ≡ b
unfolding escape_value
escape_again b q rest h hq =
    let x = hex_again (b / 16) (high b h) in
    let y = hex_again (b % 16) (low b) in
    ap (λ n. digits_value 16 (take n (hex_digit (b / 16) ∷ hex_digit (b % 16) ∷ q ∷ rest))) (two_digits (hex_digit (b / 16)) (hex_digit (b % 16)) q rest x.0 y.0 hq)
    ∙ omega (arith, x.1, y.1, whole b)

pub character_again : (b : ℕ) → b < 256 → element_value (drop 1 (character_text b)) ≡ b
unfolding element_value character_text escaped
character_again b h = escape_again b 39 [] h refl

-- Strings.

pub escaped_element : (quote b q : ℕ) (rest : List ℕ) → b < 256 → is_digit q 16 ≡ false → element quote (escaped b ++ q ∷ rest) ≡ Some 4
unfolding element escape escaped is_simple_escape hex_escape
escaped_element quote b q rest h hq = ap hex_escape (two_digits (hex_digit (b / 16)) (hex_digit (b % 16)) q rest (hex_again (b / 16) (high b h)).0 (hex_again (b % 16) (low b)).0 hq)

value_again : (b q : ℕ) (rest : List ℕ) → b < 256 → is_digit q 16 ≡ false → element_value (escaped b ++ q ∷ rest) ≡ b
unfolding element_value escaped
value_again b q rest h hq = escape_again b q rest h hq

-- what stands behind a byte of a string begins with no digit
pub record Rest (bytes behind : List ℕ) : Type 0 where
  pub q : ℕ
  pub rest : List ℕ
  pub is : flat_map escaped bytes ++ 34 ∷ behind ≡ q ∷ rest
  pub no_digit : is_digit q 16 ≡ false

pub rest_of : (bytes behind : List ℕ) → Rest bytes behind
unfolding escaped
rest_of [] behind = record { q = 34; rest = behind; is = refl; no_digit = refl }
rest_of (b ∷ bytes) behind = record { q = 92; rest = _; is = refl; no_digit = refl }

-- one element more
bytes_step : (most b q : ℕ) (rest : List ℕ) → b < 256 → is_digit q 16 ≡ false → element_bytes (suc most) 34 (escaped b ++ q ∷ rest) ≡ b ∷ element_bytes most 34 (q ∷ rest)
unfolding element_bytes escaped
bytes_step most b q rest h hq =
    ap (λ o. option_map_or (λ n. element_value (escaped b ++ q ∷ rest) ∷ element_bytes most 34 (drop n (escaped b ++ q ∷ rest))) o []) (escaped_element 34 b q rest h hq)
    ∙ ap (λ v. v ∷ element_bytes most 34 (q ∷ rest)) (value_again b q rest h hq)

bytes_end : (most : ℕ) → element_bytes most 34 (34 ∷ []) ≡ []
unfolding element_bytes
bytes_end zero = refl
bytes_end (suc most) = refl

bytes_again : (most : ℕ) (bytes : List ℕ) → length bytes ≤ most → All (λ b. b < 256) bytes → element_bytes most 34 (flat_map escaped bytes ++ 34 ∷ []) ≡ bytes
bytes_again most [] l h = bytes_end most
bytes_again zero (b ∷ bytes) l h = absurd (omega (arith, l))
bytes_again (suc most) (b ∷ bytes) l h =
    let r = rest_of bytes [] in
    let e1 : flat_map escaped (b ∷ bytes) ++ 34 ∷ [] ≡ escaped b ++ r.q ∷ r.rest = append_assoc (escaped b) (flat_map escaped bytes) (34 ∷ []) ∙ ap (λ z. escaped b ++ z) r.is in
    ap (element_bytes (suc most) 34) e1
    ∙ bytes_step most b r.q r.rest (All-head (λ b. b < 256) b bytes h) r.no_digit
    ∙ ap (λ z. b ∷ element_bytes most 34 z) (sym r.is)
    ∙ ap (λ z. b ∷ z) (bytes_again most bytes (omega (arith, l)) (All-tail (λ b. b < 256) b bytes h))

length_escaped : (bytes : List ℕ) → length bytes ≤ length (flat_map escaped bytes)
unfolding escaped
length_escaped [] = omega arith
length_escaped (b ∷ bytes) = omega (arith, length_escaped bytes)

pub string_again : (bytes : List ℕ) → All (λ b. b < 256) bytes → string_value (string_text bytes) ≡ bytes
unfolding string_value string_text
string_again bytes h =
    bytes_again (length (34 ∷ (flat_map escaped bytes ++ 34 ∷ []))) bytes (omega (arith, length_escaped bytes, length-append (flat_map escaped bytes) (34 ∷ []))) h
