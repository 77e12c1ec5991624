-- Canonical literals and names stand alone.
use Rattle.std.proofs.Common.{◌≡◌, ℕ, ◌+◌, ◌<◌, ◌≤◌, zero, suc, List, [], ◌∷◌, ◌++◌, length, take, Bool, true, false, refl, sym, ap, ◌∙◌, subst, arith}
use Rattle.std.specs.List.{prefix_len, take_while}
use Rattle.std.proofs.Common.{◌-◌, ◌^◌, decimal}
use Rattle.std.specs.Char.{digit_value, is_ascii_digit}
use Rattle.std.specs.Str.Parse.{AllDigits}
use Rattle.std.proofs.lemmas.Fmt.{decimal_is_IsNumeral}
use Rattle.text_grammar.specs.declared.front.Shape.{Shape}
use Rattle.text_grammar.specs.declared.front.Shape.TheVariants as shape
use Rattle.text_grammar.specs.declared.front.Front.TheVariants as front
use Rattle.text_grammar.specs.declared.token_list.TokenKind.TheVariants as token
use Rattle.text_grammar.specs.Lexical.{is_word_byte, is_space, is_letter, shape_of, one, IsNumber, IsFrontOf, IsFront}
use Rattle.text_print.specs.Spelling.{number_text, number}
use Rattle.text_print.specs.Cut.{StandsAlone}

-- each is so
abbrev pub EachIs : (ℕ → Bool) → List ℕ → Type 0
EachIs p [] = Unit {0}
EachIs p (x ∷ xs) = (p x ≡ true) × EachIs p xs

-- a run of such bytes, and then another byte
pub run_length : (p : ℕ → Bool) (a : List ℕ) (c : ℕ) (rest : List ℕ) → EachIs p a → p c ≡ false → prefix_len p (a ++ c ∷ rest) ≡ length a
run_length p [] c rest h e = rw e refl
run_length p (x ∷ a) c rest h e = let l = run_length p a c rest h.1 e in rw h.0 (omega (arith, l))

front_of : (a b : List ℕ) → take (length a) (a ++ b) ≡ a
front_of [] b = refl
front_of (x ∷ a) b = ap (λ q. x ∷ q) (front_of a b)

pub run_is : (p : ℕ → Bool) (a : List ℕ) (c : ℕ) (rest : List ℕ) → EachIs p a → p c ≡ false → take_while p (a ++ c ∷ rest) ≡ a
run_is p a c rest h e = ap (λ n. take n (a ++ c ∷ rest)) (run_length p a c rest h e) ∙ front_of a (c ∷ rest)

-- Digits.

record IsDigitByte (c : ℕ) : Type 0 where
  word : is_word_byte c ≡ true
  space : is_space c ≡ false
  letter : is_letter c ≡ false
  digit : is_ascii_digit c ≡ true

digit_table : (k : ℕ) → k < 10 → IsDigitByte (48 + k)
unfolding is_word_byte is_space is_letter
digit_table zero h = record { word = refl; space = refl; letter = refl; digit = refl }
digit_table (suc zero) h = record { word = refl; space = refl; letter = refl; digit = refl }
digit_table (suc (suc zero)) h = record { word = refl; space = refl; letter = refl; digit = refl }
digit_table (suc (suc (suc zero))) h = record { word = refl; space = refl; letter = refl; digit = refl }
digit_table (suc (suc (suc (suc zero)))) h = record { word = refl; space = refl; letter = refl; digit = refl }
digit_table (suc (suc (suc (suc (suc zero))))) h = record { word = refl; space = refl; letter = refl; digit = refl }
digit_table (suc (suc (suc (suc (suc (suc zero)))))) h = record { word = refl; space = refl; letter = refl; digit = refl }
digit_table (suc (suc (suc (suc (suc (suc (suc zero))))))) h = record { word = refl; space = refl; letter = refl; digit = refl }
digit_table (suc (suc (suc (suc (suc (suc (suc (suc zero)))))))) h = record { word = refl; space = refl; letter = refl; digit = refl }
digit_table (suc (suc (suc (suc (suc (suc (suc (suc (suc zero))))))))) h = record { word = refl; space = refl; letter = refl; digit = refl }
digit_table (suc (suc (suc (suc (suc (suc (suc (suc (suc (suc n)))))))))) h = absurd (omega (arith, h))

digit_range : (c : ℕ) → digit_value c < 10 → (48 ≤ c) × (c < 58)
digit_range c h = (grind arith, grind arith)

digit_byte : (c : ℕ) → digit_value c < 10 → IsDigitByte c
digit_byte c h =
    let r = digit_range c h in
    let l : 48 ≤ c = r.0 in
    let m : c < 58 = r.1 in
    let e : 48 + (c - 48) ≡ c = omega (arith, l) in
    subst IsDigitByte e (digit_table (c - 48) (omega (arith, l, m)))

digits_are : (ds : List ℕ) → AllDigits 10 ds → EachIs is_word_byte ds
digits_are [] h = tt
digits_are (d ∷ ds) h = ((digit_byte d h.0).word, digits_are ds h.1)

each_append : (p : ℕ → Bool) (a b : List ℕ) → EachIs p a → EachIs p b → EachIs p (a ++ b)
each_append p [] b h e = e
each_append p (x ∷ a) b h e = (h.0, each_append p a b h.1 e)

number_bytes : (n : ℕ) (s : Bool) → n < 2 ^ 64 → EachIs is_word_byte (number_text n s)
unfolding number_text is_word_byte
number_bytes n true h = each_append is_word_byte (decimal n) (117 ∷ []) (digits_are (decimal n) (decimal_is_IsNumeral n h).0.1) (refl, tt)
number_bytes n false h = each_append is_word_byte (decimal n) [] (digits_are (decimal n) (decimal_is_IsNumeral n h).0.1) tt

-- a text that begins with a digit has the shape of a number
number_shape : (c : ℕ) (rest : List ℕ) → IsDigitByte c → shape_of (c ∷ rest) ≡ shape.Number
unfolding shape_of
number_shape c rest h = rw h.space (rw h.letter (rw h.digit refl))

-- a text that begins with such a number
number_front : (text : List ℕ) (c : ℕ) (more : List ℕ) (q : ℕ) (rest : List ℕ) → text ≡ c ∷ more → IsDigitByte c → EachIs is_word_byte text → IsNumber text → is_word_byte q ≡ false
    → IsFront (text ++ q ∷ rest) (front.Token token.Num (length text))
number_front text c more q rest is d bytes num e =
    let sh : shape_of (text ++ q ∷ rest) ≡ shape.Number = ap (λ z. shape_of (z ++ q ∷ rest)) is ∙ number_shape c (more ++ q ∷ rest) d in
    let w : take_while is_word_byte (text ++ q ∷ rest) ≡ text = run_is is_word_byte text q rest bytes e in
    subst (λ (z : Shape). IsFrontOf z (text ++ q ∷ rest) (front.Token token.Num (length text))) (sym sh)
    (one (length text) (subst IsNumber (sym w) num, sym (run_length is_word_byte text q rest bytes e)))

pub space_no_word : is_word_byte 32 ≡ false
unfolding is_word_byte
space_no_word = refl

pub newline_no_word : is_word_byte 10 ≡ false
unfolding is_word_byte
newline_no_word = refl

-- the first digit
record FirstDigit (text : List ℕ) : Type 0 where
  c : ℕ
  more : List ℕ
  is : text ≡ c ∷ more
  digit : IsDigitByte c

first_digit : (ds end : List ℕ) → 0 < length ds → AllDigits 10 ds → FirstDigit (ds ++ end)
first_digit [] end l h = absurd (omega (arith, l))
first_digit (d ∷ ds) end l h = record { c = d; more = ds ++ end; is = refl; digit = digit_byte d h.0 }

text_first : (n : ℕ) (s : Bool) → n < 2 ^ 64 → FirstDigit (number_text n s)
unfolding number_text
text_first n true h = first_digit (decimal n) (117 ∷ []) (decimal_is_IsNumeral n h).0.0 (decimal_is_IsNumeral n h).0.1
text_first n false h = first_digit (decimal n) [] (decimal_is_IsNumeral n h).0.0 (decimal_is_IsNumeral n h).0.1

pub number_alone : (n : ℕ) (s : Bool) → n < 2 ^ 64 → IsNumber (number_text n s) → StandsAlone (number n s)
number_alone n s h num =
    let f = text_first n s h in
    let bytes = number_bytes n s h in
    record {
      before_space = λ rest. number_front (number_text n s) f.c f.more 32 rest f.is f.digit bytes num space_no_word;
      before_newline = λ rest. number_front (number_text n s) f.c f.more 10 rest f.is f.digit bytes num newline_no_word;
      kind = refl;
    }
