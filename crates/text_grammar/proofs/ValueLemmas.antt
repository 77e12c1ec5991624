-- The values of literals.
use Rattle.std.proofs.Common.{◌≡◌, ℕ, ◌+◌, ◌-◌, ◌<◌, ◌≤◌, ◌^◌, zero, suc, List, [], ◌∷◌, ◌++◌, length, take, drop, get_or, refl, true, false, Bool, ◌||◌, eqb, eqb-true, arith, ap, sym, ◌∙◌, subst, Some, None, if◌then◌else◌, append_assoc, length-append}
use Rattle.std.proofs.lemmas.Int.Digits.{digits_value-lt}
use Rattle.std.proofs.lemmas.List.{drop-drop, drop_all}
use Rattle.std.specs.Prelude.{IsSome}
use Rattle.std.specs.Option.{option_map_or}
use Rattle.std.specs.List.{prefix_len, take_while}
use Rattle.std.specs.Char.{is_digit}
use Rattle.std.specs.Str.Parse.{AllDigits, digits_value}
use Rattle.text_grammar.specs.Lexical.{is_unsigned, body_of, is_hexadecimal, radix_of, digits_of, IsNumber, is_plain, is_simple_escape, is_octal_digit, is_hex_digit, octal_escape, hex_escape, escape, element, element_value, element_bytes}
use Rattle.text_grammar.proofs.DigitLemmas.{front_digits}

pub number_some : (run : List ℕ) → IsNumber run → 1 ≤ length run
unfolding is_unsigned body_of is_hexadecimal radix_of digits_of
number_some [] h = absurd (omega (arith, h.digits.0))
number_some (x ∷ run) h = omega arith

true_false : true ≡ false → ⊥
true_false h = cc

-- where a test is one of several, it is the last or one of those before
last_or : (P : Type 0) (b n : ℕ) (rest : Bool) → (b ≡ n → P) → (rest ≡ true → P) → (rest || eqb b n) ≡ true → P
last_or P b n true found before h = before refl
last_or P b n false found before h = found (eqb-true b n h)

simple_is : (P : ℕ → Type 0) (b : ℕ) → P 110 → P 116 → P 114 → P 92 → P 39 → P 34 → is_simple_escape b ≡ true → P b
unfolding is_simple_escape
simple_is P b n t r s q d =
    let at : (m : ℕ) → P m → b ≡ m → P b = λ m p e. subst P (sym e) p in
    last_or (P b) b 34 _ (at 34 d) (last_or (P b) b 39 _ (at 39 q) (last_or (P b) b 92 _ (at 92 s) (last_or (P b) b 114 _ (at 114 r) (last_or (P b) b 116 _ (at 116 t) (λ h. at 110 n (eqb-true b 110 h))))))

simple_no_octal : (b : ℕ) → is_simple_escape b ≡ true → is_octal_digit b ≡ false
simple_no_octal b = simple_is (λ b. is_octal_digit b ≡ false) b refl refl refl refl refl refl

no_simple : (b : ℕ) → is_octal_digit b ≡ true → is_simple_escape b ≡ false
no_simple b o = go (is_simple_escape b) refl
  where
    go : (t : Bool) → is_simple_escape b ≡ t → t ≡ false
    go true e = absurd (true_false (sym o ∙ simple_no_octal b e))
    go false e = refl

octal_some : (digits : List ℕ) → IsSome (octal_escape digits) → digits_value 8 digits < 256
unfolding octal_escape
octal_some digits h = grind arith

pub octal_small : (text : List ℕ) → is_octal_digit (get_or text 0 0) ≡ true → IsSome (escape text) → digits_value 8 (take_while is_octal_digit (take 3 text)) < 256
unfolding escape
octal_small text o h =
    octal_some (take_while is_octal_digit (take 3 text))
    (rw o at (rw (no_simple (get_or text 0 0) o) at h))

count_small : (count : ℕ) → IsSome (hex_escape count) → count ≤ 2
unfolding hex_escape
count_small count h = go (eqb count 1) refl (eqb count 2) refl h
  where
    go : (s : Bool) → eqb count 1 ≡ s → (t : Bool) → eqb count 2 ≡ t → IsSome (if s || t then Some (count + 2) else None) → count ≤ 2
    go true e t f h = omega (arith, eqb-true count 1 e)
    go false e true f h = omega (arith, eqb-true count 2 f)
    go false e false f h = absurd (true_false (sym h))

hex_first : (text : List ℕ) → get_or text 0 0 ≡ 120 → IsSome (escape text) → IsSome (hex_escape (prefix_len is_hex_digit (drop 1 text)))
unfolding escape is_simple_escape
hex_first text e h = rw e at h

two_digits : (count value : ℕ) → count ≤ 2 → value < 16 ^ count → value < 256
two_digits zero value l h = omega (arith, h)
two_digits (suc zero) value l h = omega (arith, h)
two_digits (suc (suc zero)) value l h = h
two_digits (suc (suc (suc count))) value l h = absurd (omega (arith, l))

take_short : (n : ℕ) (xs : List ℕ) → length (take n xs) ≤ n
take_short zero xs = omega arith
take_short (suc n) [] = omega arith
take_short (suc n) (x ∷ xs) = omega (arith, take_short n xs)

pub hex_small : (text : List ℕ) → get_or text 0 0 ≡ 120 → IsSome (escape text) → digits_value 16 (take_while is_hex_digit (drop 1 text)) < 256
hex_small text e h =
    let few = count_small (prefix_len is_hex_digit (drop 1 text)) (hex_first text e h) in
    let short : length (take_while is_hex_digit (drop 1 text)) ≤ 2 = omega (arith, few, take_short (prefix_len is_hex_digit (drop 1 text)) (drop 1 text)) in
    two_digits _ _ short (digits_value-lt 16 (take_while is_hex_digit (drop 1 text)) (front_digits 16 (drop 1 text)))

pub escape_some : (quote : ℕ) (text : List ℕ) → get_or text 0 0 ≡ 92 → IsSome (element quote text) → IsSome (escape (drop 1 text))
unfolding element
escape_some quote text e h = rw e at h

pub reads_digits : (radix count : ℕ) (text : List ℕ) → count ≡ prefix_len (λ b. is_digit b radix) text → digits_value radix (take_while (λ b. is_digit b radix) text) < 256
    → AllDigits radix (take count text) × (digits_value radix (take count text) < 2 ^ 32)
reads_digits radix count text e h =
    let less : 256 ≤ 2 ^ 32 = omega arith in
    rw e (front_digits radix text, omega (arith, h, less))

-- The bytes of a string, element by element.

bytes_end : (most : ℕ) → element_bytes most 34 [] ≡ []
unfolding element_bytes element is_plain
bytes_end zero = refl
bytes_end (suc most) = refl

pub bytes_at_end : (most at : ℕ) (text : List ℕ) → length text ≤ at → element_bytes most 34 (drop at text) ≡ []
bytes_at_end most at text l = ap (element_bytes most 34) (drop_all at text l) ∙ bytes_end most

pub bytes_quote : (most : ℕ) (text : List ℕ) → get_or text 0 0 ≡ 34 → element_bytes most 34 text ≡ []
unfolding element_bytes
bytes_quote zero text e = refl
bytes_quote (suc most) text e = ap (λ n. if eqb n 34 then [] else option_map_or (λ n. element_value text ∷ element_bytes most 34 (drop n text)) (element 34 text) []) e

pub bytes_none : (most : ℕ) (text : List ℕ) → element 34 text ≡ None → element_bytes most 34 text ≡ []
unfolding element_bytes
bytes_none zero text e = refl
bytes_none (suc most) text e = ap (λ o. if eqb (get_or text 0 0) 34 then [] else option_map_or (λ n. element_value text ∷ element_bytes most 34 (drop n text)) o []) e ∙ go (eqb (get_or text 0 0) 34)
  where
    go : (b : Bool) → ◌≡◌ {A = List ℕ} (if b then [] else []) []
    go true = refl
    go false = refl

not_quote : (b : ℕ) → ¬ (b ≡ 34) → eqb b 34 ≡ false
not_quote b n = go (eqb b 34) refl
  where
    go : (t : Bool) → eqb b 34 ≡ t → t ≡ false
    go true e = absurd (n (eqb-true b 34 e))
    go false e = refl

bytes_more : (most n : ℕ) (text : List ℕ) → ¬ (get_or text 0 0 ≡ 34) → element 34 text ≡ Some n → element_bytes (suc most) 34 text ≡ element_value text ∷ element_bytes most 34 (drop n text)
unfolding element_bytes
bytes_more most n text q e =
    ap (λ b. if b then [] else option_map_or (λ n. element_value text ∷ element_bytes most 34 (drop n text)) (element 34 text) []) (not_quote (get_or text 0 0) q)
    ∙ ap (λ o. option_map_or (λ n. element_value text ∷ element_bytes most 34 (drop n text)) o []) e

pub string_turn : (literal found : List ℕ) (at n v : ℕ) → at < length literal → length found + 1 ≤ at → ¬ (get_or (drop at literal) 0 0 ≡ 34) → element 34 (drop at literal) ≡ Some n → v ≡ element_value (drop at literal)
    → found ++ element_bytes (length literal - length found) 34 (drop at literal) ≡ (found ++ v ∷ []) ++ element_bytes (length literal - length (found ++ v ∷ [])) 34 (drop (at + n) literal)
string_turn literal found at n v l c q e w =
    let fuel : length literal - length found ≡ suc (length literal - length (found ++ v ∷ [])) = omega (arith, length-append found (v ∷ [])) in
    ap (λ m. found ++ element_bytes m 34 (drop at literal)) fuel
    ∙ ap (λ xs. found ++ xs) (bytes_more (length literal - length (found ++ v ∷ [])) n (drop at literal) q e)
    ∙ ap (λ b. found ++ b ∷ element_bytes (length literal - length (found ++ v ∷ [])) 34 (drop n (drop at literal))) (sym w)
    ∙ ap (λ xs. found ++ v ∷ element_bytes (length literal - length (found ++ v ∷ [])) 34 xs) (drop-drop n at literal)
    ∙ sym (append_assoc found (v ∷ []) (element_bytes (length literal - length (found ++ v ∷ [])) 34 (drop (at + n) literal)))
