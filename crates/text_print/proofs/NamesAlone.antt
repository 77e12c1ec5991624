-- Names stand alone, and so do the numbers of a text.
use Rattle.std.proofs.Common.{◌≡◌, ℕ, ◌<◌, ◌≤◌, ◌^◌, zero, suc, List, [], ◌∷◌, ◌++◌, length, drop, get_or, Bool, true, false, eqb, eqb-true, if◌then◌else◌, ◌||◌, ◌&&◌, not, decimal, refl, sym, ap, ◌∙◌, subst, arith, lit<}
use Rattle.std.specs.List.{take_while}
use Rattle.std.specs.Str.Parse.{IsNumeral}
use Rattle.std.proofs.lemmas.Fmt.{first_decimal, decimal_digit, decimal_is_IsNumeral}
use Rattle.text_grammar.specs.declared.front.Shape.{Shape}
use Rattle.text_grammar.specs.declared.front.Shape.TheVariants as shape
use Rattle.text_grammar.specs.declared.front.Front.TheVariants as front
use Rattle.text_grammar.specs.declared.token_list.TokenKind.TheVariants as token
use Rattle.text_grammar.specs.Lexical.{is_word_byte, is_space, is_letter, is_keyword, is_unsigned, is_hexadecimal, body_of, radix_of, digits_of, greatest, shape_of, word_of, IsNumber, IsFrontOf, IsFront}
use Rattle.text_print.specs.Spelling.{number_text, name, number}
use Rattle.text_print.specs.Cut.{StandsAlone}
use Rattle.text_print.proofs.NumbersAgain.{text_unsigned, text_body, number_value_again}
use Rattle.text_print.proofs.LiteralsAlone.{EachIs, run_is, run_length, space_no_word, newline_no_word, number_alone}

true_false : true ≡ false → ⊥
true_false h = cc

-- no letter is a space
letter_no_space : (c : ℕ) → is_letter c ≡ true → is_space c ≡ false
unfolding is_letter is_space
letter_no_space c h = grind arith

-- Numbers.

not_eqb : (a b : ℕ) → (a ≡ b → ⊥) → eqb a b ≡ false
not_eqb a b h = go (eqb a b) refl
  where
    go : (t : Bool) → eqb a b ≡ t → t ≡ false
    go true e = absurd (h (eqb-true a b e))
    go false e = refl

radix_some : (ds : List ℕ) → 48 < get_or ds 0 0 → IsNumeral 10 ds → IsNumeral (radix_of ds) (digits_of ds)
unfolding radix_of digits_of is_hexadecimal
radix_some ds h a =
    let e = not_eqb (get_or ds 0 0) 48 (λ e. omega (arith, h, e)) in
    let hex : Bool = eqb (get_or ds 1 0) 120 || eqb (get_or ds 1 0) 88 in
    subst (λ (b : Bool). IsNumeral (if (b && hex) then 16 else (if b then 8 else 10)) (if (b && hex) then drop 2 ds else ds)) (sym e) a

radix_zero : IsNumeral (radix_of (48 ∷ [])) (digits_of (48 ∷ []))
unfolding radix_of digits_of is_hexadecimal
radix_zero = (omega arith, (omega arith, tt))

decimal_numeral : (n : ℕ) → n < 2 ^ 64 → IsNumeral (radix_of (decimal n)) (digits_of (decimal n))
decimal_numeral zero h = subst (λ (ds : List ℕ). IsNumeral (radix_of ds) (digits_of ds)) (sym (decimal_digit 0 (omega arith))) radix_zero
decimal_numeral (suc n) h = radix_some (decimal (suc n)) (first_decimal (suc n) (omega arith) h) (decimal_is_IsNumeral (suc n) h).0

pub least : (radix : ℕ) (b : Bool) → 2147483647 ≤ greatest radix b
unfolding greatest
least radix b = go (eqb radix 10 && not b)
  where
    go : (t : Bool) → 2147483647 ≤ (if t then 2147483647 else 4294967295)
    go true = omega arith
    go false = omega arith

pub most : (radix : ℕ) → 4294967295 ≤ greatest radix true
unfolding greatest
most radix = go (eqb radix 10)
  where
    go : (t : Bool) → 4294967295 ≤ (if (t && false) then 2147483647 else 4294967295)
    go true = omega arith
    go false = omega arith

fits_again : (n radix : ℕ) (s : Bool) → n ≤ 4294967295 → (s ≡ false → n ≤ 2147483647) → n ≤ greatest radix s
fits_again n radix true h f = let m = most radix in omega (arith, h, m)
fits_again n radix false h f = let m = least radix false in let l = f refl in omega (arith, l, m)

number_is : (n : ℕ) (s : Bool) → n ≤ 4294967295 → (s ≡ false → n ≤ 2147483647) → IsNumber (number_text n s)
number_is n s h f =
    let w : 4294967295 < 2 ^ 64 = lit< tt in
    let small : n < 2 ^ 64 = omega (arith, h, w) in
    record {
      digits = subst (λ (ds : List ℕ). IsNumeral (radix_of ds) (digits_of ds)) (sym (text_body n s small)) (decimal_numeral n small);
      fits = subst (λ (v : ℕ). v ≤ greatest (radix_of (body_of (number_text n s))) (is_unsigned (number_text n s))) (sym (number_value_again n s small))
          (subst (λ (b : Bool). n ≤ greatest (radix_of (body_of (number_text n s))) b) (sym (text_unsigned n s small)) (fits_again n (radix_of (body_of (number_text n s))) s h f));
    }

pub value_alone : (n : ℕ) (s : Bool) → n ≤ 4294967295 → (s ≡ false → n ≤ 2147483647) → StandsAlone (number n s)
value_alone n s h f = let w : 4294967295 < 2 ^ 64 = lit< tt in number_alone n s (omega (arith, h, w)) (number_is n s h f)

-- Names.

word_shape : (c : ℕ) (rest : List ℕ) → is_letter c ≡ true → shape_of (c ∷ rest) ≡ shape.Word
unfolding shape_of
word_shape c rest h = rw (letter_no_space c h) (rw h refl)

word_front : (c : ℕ) (more : List ℕ) (q : ℕ) (rest : List ℕ) → is_letter c ≡ true → EachIs is_word_byte (c ∷ more) → is_keyword (c ∷ more) ≡ false → is_word_byte q ≡ false
    → IsFront ((c ∷ more) ++ q ∷ rest) (front.Token token.Id (length (c ∷ more)))
word_front c more q rest h bytes word e =
    let text = (c ∷ more) ++ q ∷ rest in
    let w : take_while is_word_byte text ≡ c ∷ more = run_is is_word_byte (c ∷ more) q rest bytes e in
    subst (λ (z : Shape). IsFrontOf z text (front.Token token.Id (length (c ∷ more)))) (sym (word_shape c (more ++ q ∷ rest) h))
    (ap (λ b. front.Token (if b then token.Keyword else token.Id) (length (c ∷ more))) (sym (ap is_keyword w ∙ word))
    ∙ ap (λ n. front.Token (if is_keyword (word_of text) then token.Keyword else token.Id) n) (sym (run_length is_word_byte (c ∷ more) q rest bytes e)))

pub name_alone : (c : ℕ) (more : List ℕ) → is_letter c ≡ true → EachIs is_word_byte (c ∷ more) → is_keyword (c ∷ more) ≡ false → StandsAlone (name (c ∷ more))
name_alone c more h bytes word = record { before_space = λ rest. word_front c more 32 rest h bytes word space_no_word; before_newline = λ rest. word_front c more 10 rest h bytes word newline_no_word; kind = refl }
