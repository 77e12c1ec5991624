-- The literals that a text begins with.
use Rattle.std.proofs.Common.{◌≡◌, ℕ, zero, suc, ◌+◌, ◌<◌, ◌≤◌, min, List, [], ◌∷◌, length, take, drop, get_or, cond, refl, true, false, Bool, arith, ap, sym, ◌∙◌, subst, Some, None, Option, is_some, if◌then◌else◌, eqb}
use Rattle.std.proofs.lemmas.List.Folds.{length-prefix_len}
use Rattle.std.specs.Prelude.{IsSome}
use Rattle.std.specs.Option.{option_map_or, option_and_then}
use Rattle.std.specs.List.{prefix_len, take_while}
use Rattle.text_grammar.specs.Lexical.{Measured, one, none, IsFrontOf, IsFront, shape_of, is_keyword, word_of, is_word_byte, IsNumber, is_simple_escape, is_plain, is_octal_digit, is_hex_digit, octal_escape, hex_escape, escape, element, character, comment_end, sign_length, Elements}
use Rattle.text_grammar.specs.Spelled.{IsLiteral}
use Rattle.text_grammar.specs.declared.token_list.TokenKind.{TokenKind}
use Rattle.text_grammar.specs.declared.token_list.TokenKind.TheVariants as kind
use Rattle.text_grammar.specs.declared.front.Front.{Front}
use Rattle.text_grammar.specs.declared.front.Front.TheVariants as front
use Rattle.text_grammar.specs.declared.front.Shape.{Shape}
use Rattle.text_grammar.specs.declared.front.Shape.TheVariants as shape

-- An element is read from its own bytes.

one_more : (n k m : ℕ) → k ≡ min n m → (b : Bool) → cond b (1 + k) 0 ≡ min (suc n) (cond b (1 + m) 0)
one_more n k m h true = omega (arith, h)
one_more n k m h false = omega arith

prefix_of_take : (p : ℕ → Bool) (n : ℕ) (xs : List ℕ) → prefix_len p (take n xs) ≡ min n (prefix_len p xs)
prefix_of_take p zero xs = omega arith
prefix_of_take p (suc n) [] = omega arith
prefix_of_take p (suc n) (x ∷ xs) = one_more n (prefix_len p (take n xs)) (prefix_len p xs) (prefix_of_take p n xs) (p x)

take_take : (m n : ℕ) (xs : List ℕ) → m ≤ n → take m (take n xs) ≡ take m xs
take_take zero n xs l = refl
take_take (suc m) zero xs l = absurd (omega arith)
take_take (suc m) (suc n) [] l = refl
take_take (suc m) (suc n) (x ∷ xs) l = ap (λ ys. x ∷ ys) (take_take m n xs (omega arith))

pub first_of_take : (n : ℕ) (xs : List ℕ) → 1 ≤ n → get_or (take n xs) 0 0 ≡ get_or xs 0 0
first_of_take zero xs l = absurd (omega arith)
first_of_take (suc n) [] l = refl
first_of_take (suc n) (x ∷ xs) l = refl

rest_of_take : (n : ℕ) (xs : List ℕ) → drop 1 (take (suc n) xs) ≡ take n (drop 1 xs)
rest_of_take zero [] = refl
rest_of_take (suc n) [] = refl
rest_of_take n (x ∷ xs) = refl

-- the octal digits of an escape, read from so many bytes
octal_again : (j : ℕ) (text : List ℕ) → length (take_while is_octal_digit (take 3 text)) < j → take_while is_octal_digit (take 3 (take j text)) ≡ take_while is_octal_digit (take 3 text)
octal_again j text l =
    let count : prefix_len is_octal_digit (take 3 text) ≡ min 3 (prefix_len is_octal_digit text) = prefix_of_take is_octal_digit 3 text in
    let again : prefix_len is_octal_digit (take 3 (take j text)) ≡ min 3 (prefix_len is_octal_digit (take j text)) = prefix_of_take is_octal_digit 3 (take j text) in
    let short : prefix_len is_octal_digit (take j text) ≡ min j (prefix_len is_octal_digit text) = prefix_of_take is_octal_digit j text in
    let few : prefix_len is_octal_digit (take 3 text) < j = omega (arith, l, length-prefix_len is_octal_digit (take 3 text)) in
    let same : prefix_len is_octal_digit (take 3 (take j text)) ≡ prefix_len is_octal_digit (take 3 text) = omega (arith, count, again, short, few) in
    let three : prefix_len is_octal_digit (take 3 text) ≤ 3 = omega (arith, count) in
    ap (λ n. take n (take 3 (take j text))) same
    ∙ take_take (prefix_len is_octal_digit (take 3 text)) 3 (take j text) three
    ∙ take_take (prefix_len is_octal_digit (take 3 text)) j text (omega (arith, few))
    ∙ sym (take_take (prefix_len is_octal_digit (take 3 text)) 3 text three)

octal_length : (digits : List ℕ) (j : ℕ) → octal_escape digits ≡ Some j → length digits < j
unfolding octal_escape
octal_length digits j h = grind arith

hex_length : (count j : ℕ) → hex_escape count ≡ Some j → count + 2 ≡ j
unfolding hex_escape
hex_length count j h = grind arith

hex_again : (j : ℕ) (text : List ℕ) → prefix_len is_hex_digit (drop 1 text) + 2 ≡ j → prefix_len is_hex_digit (drop 1 (take j text)) ≡ prefix_len is_hex_digit (drop 1 text)
hex_again zero text h = absurd (omega (arith, h))
hex_again (suc i) text h = ap (prefix_len is_hex_digit) (rest_of_take i text) ∙ (let m = prefix_of_take is_hex_digit i (drop 1 text) in omega (arith, m, h))

same_some : {A : Type 0} {a b : A} → Some a ≡ Some b → a ≡ b
same_some h = cc

none_some : {A : Type 0} {a : A} → None ≡ Some a → ⊥
none_some h = cc

-- an escape whose first byte, octal digits and count of hexadecimal digits these are
abbrev esc : ℕ → List ℕ → ℕ → Option ℕ
esc first digits count = if is_simple_escape first then Some 2 else (if is_octal_digit first then octal_escape digits else (if eqb first 120 then hex_escape count else None))

esc_is : (text : List ℕ) → escape text ≡ esc (get_or text 0 0) (take_while is_octal_digit (take 3 text)) (prefix_len is_hex_digit (drop 1 text))
unfolding escape
esc_is text = refl

esc_some : (first : ℕ) (D : List ℕ) (C : ℕ) (D' : List ℕ) (C' j : ℕ) → esc first D C ≡ Some j → (octal_escape D ≡ Some j → D' ≡ D) → (hex_escape C ≡ Some j → C' ≡ C) → IsSome (esc first D' C') × (1 ≤ j)
esc_some first D C D' C' j = go (is_simple_escape first) (is_octal_digit first) (eqb first 120)
  where
    go : (s o x : Bool) → (if s then Some 2 else (if o then octal_escape D else (if x then hex_escape C else None))) ≡ Some j → (octal_escape D ≡ Some j → D' ≡ D) → (hex_escape C ≡ Some j → C' ≡ C)
        → IsSome (if s then Some 2 else (if o then octal_escape D' else (if x then hex_escape C' else None))) × (1 ≤ j)
    go true o x h d c = (refl, omega (arith, same_some h))
    go false true x h d c = (ap (λ z. is_some (octal_escape z)) (d h) ∙ ap is_some h, omega (arith, octal_length D j h))
    go false false true h d c = (ap (λ z. is_some (hex_escape z)) (c h) ∙ ap is_some h, omega (arith, hex_length C j h))
    go false false false h d c = absurd (none_some h)

escape_again : (j : ℕ) (text : List ℕ) → escape text ≡ Some j → IsSome (escape (take j text))
escape_again j text h =
    let r = esc_some (get_or text 0 0) (take_while is_octal_digit (take 3 text)) (prefix_len is_hex_digit (drop 1 text)) (take_while is_octal_digit (take 3 (take j text))) (prefix_len is_hex_digit (drop 1 (take j text))) j
    (sym (esc_is text) ∙ h) (λ e. octal_again j text (octal_length _ j e)) (λ e. hex_again j text (hex_length _ j e)) in
    ap is_some (esc_is (take j text))
    ∙ ap (λ n. is_some (esc n (take_while is_octal_digit (take 3 (take j text))) (prefix_len is_hex_digit (drop 1 (take j text))))) (first_of_take j text r.1)
    ∙ r.0

-- an element whose first byte and escape these are
abbrev elem : ℕ → Option ℕ → Option ℕ
elem first e = if eqb first 92 then e else (if is_plain 39 first then Some 1 else None)

elem_is : (text : List ℕ) → element 39 text ≡ elem (get_or text 0 0) (escape (drop 1 text))
unfolding element
elem_is text = refl

elem_some : (first : ℕ) (e e' : Option ℕ) (j : ℕ) → elem first e ≡ Some j → (e ≡ Some j → IsSome e') → IsSome (elem first e')
elem_some first e e' j = go (eqb first 92) (is_plain 39 first)
  where
    go : (b p : Bool) → (if b then e else (if p then Some 1 else None)) ≡ Some j → (e ≡ Some j → IsSome e') → IsSome (if b then e' else (if p then Some 1 else None))
    go true p h f = f h
    go false true h f = refl
    go false false h f = absurd (none_some h)

element_again : (j : ℕ) (text : List ℕ) → element 39 text ≡ Some j → IsSome (element 39 (take (suc j) text))
element_again j text h =
    let inner : escape (drop 1 text) ≡ Some j → IsSome (escape (drop 1 (take (suc j) text))) = λ e. ap (λ z. is_some (escape z)) (rest_of_take j text) ∙ escape_again j (drop 1 text) e in
    ap is_some (elem_is (take (suc j) text))
    ∙ ap (λ n. is_some (elem n (escape (drop 1 (take (suc j) text))))) (first_of_take (suc j) text (omega arith))
    ∙ elem_some (get_or text 0 0) (escape (drop 1 text)) (escape (drop 1 (take (suc j) text))) j (sym (elem_is text) ∙ h) inner

character_element : (rest : List ℕ) (n : ℕ) → character rest ≡ Some n → (j : ℕ) × (element 39 rest ≡ Some j) × (n ≡ j + 2)
unfolding character
character_element rest n = go (element 39 rest) refl
  where
    picked : (j : ℕ) (b : Bool) → element 39 rest ≡ Some j → (if b then Some (j + 2) else None) ≡ Some n → (j : ℕ) × (element 39 rest ≡ Some j) × (n ≡ j + 2)
    picked j true e h = (j, e, sym (same_some h))
    picked j false e h = absurd (none_some h)

    go : (o : Option ℕ) → element 39 rest ≡ o → option_and_then (λ n. if eqb (get_or rest n 0) 39 then Some (n + 2) else None) o ≡ Some n → (j : ℕ) × (element 39 rest ≡ Some j) × (n ≡ j + 2)
    go None e h = absurd (none_some h)
    go (Some j) e h = picked j (eqb (get_or rest j 0) 39) e h

character_literal : (text : List ℕ) (n : ℕ) → character (drop 1 text) ≡ Some n → IsSome (element 39 (drop 1 (take n text)))
character_literal text n h =
    let c = character_element (drop 1 text) n h in
    let two : n ≡ suc (suc c.0) = omega (arith, c.2) in
    ap (λ m. is_some (element 39 (drop 1 (take m text)))) two
    ∙ ap (λ z. is_some (element 39 z)) (rest_of_take (suc c.0) text)
    ∙ element_again c.0 (drop 1 text) c.1

-- The literal that a front is.

kind_same : (k j : TokenKind) (m n : ℕ) → front.Token k m ≡ front.Token j n → (text : List ℕ) → IsLiteral k (take m text) → IsLiteral j (take n text)
kind_same k j m n h text l =
    let a : k ≡ j = cc in let b : m ≡ n = cc in
    subst (λ (z : TokenKind). IsLiteral z (take n text)) a (subst (λ (z : ℕ). IsLiteral k (take z text)) b l)

number_literal : (text : List ℕ) (f : Front) → Measured (λ n. IsNumber (word_of text) × (n ≡ prefix_len is_word_byte text)) (front.Token kind.Num) front.BadLiteral f
    → (j : TokenKind) (n : ℕ) → f ≡ front.Token j n → IsLiteral j (take n text)
number_literal text _ (one m p) j n h = kind_same kind.Num j m n h text (subst (λ (z : ℕ). IsNumber (take z text)) (sym p.1) p.0)
number_literal text _ (none p) j n h = absurd (cc)

string_literal : (text : List ℕ) (f : Front) → Measured (Elements 34 (drop 1 text)) (λ n. front.Token kind.Str (n + 2)) front.BadLiteral f
    → (j : TokenKind) (n : ℕ) → f ≡ front.Token j n → IsLiteral j (take n text)
string_literal text _ (one m p) j n h = kind_same kind.Str j (m + 2) n h text tt
string_literal text _ (none p) j n h = absurd (cc)

pub blank_or : (o : Option ℕ) (j : TokenKind) (n : ℕ) → front.Token j n ≡ option_map_or (λ n. front.Blank (n + 2)) o front.NoToken → ⊥
blank_or None j n h = cc
blank_or (Some m) j n h = cc

character_or : (text : List ℕ) (o : Option ℕ) → character (drop 1 text) ≡ o → (j : TokenKind) (n : ℕ) → front.Token j n ≡ option_map_or (front.Token kind.Char) o front.BadLiteral → IsLiteral j (take n text)
character_or text None e j n h = absurd (cc)
character_or text (Some m) e j n h = kind_same kind.Char j m n (sym h) text (character_literal text m e)

word_or : (text : List ℕ) (b : Bool) (m : ℕ) (j : TokenKind) (n : ℕ) → front.Token j n ≡ front.Token (if b then kind.Keyword else kind.Id) m → IsLiteral j (take n text)
word_or text true m j n h = kind_same kind.Keyword j m n (sym h) text tt
word_or text false m j n h = kind_same kind.Id j m n (sym h) text tt

sign_or : (text : List ℕ) (b : Bool) (m : ℕ) (j : TokenKind) (n : ℕ) → front.Token j n ≡ (if b then front.NoToken else front.Token kind.Sign m) → IsLiteral j (take n text)
sign_or text true m j n h = absurd (cc)
sign_or text false m j n h = kind_same kind.Sign j m n (sym h) text tt

literal_of : (s : Shape) (text : List ℕ) (j : TokenKind) (n : ℕ) → IsFrontOf s text (front.Token j n) → IsLiteral j (take n text)
literal_of shape.Space text j n h = absurd (cc)
literal_of shape.LineComment text j n h = absurd (cc)
literal_of shape.BlockComment text j n h = absurd (blank_or (comment_end (drop 2 text)) j n h)
literal_of shape.Word text j n h = word_or text (is_keyword (word_of text)) (prefix_len is_word_byte text) j n h
literal_of shape.Number text j n h = number_literal text (front.Token j n) h j n refl
literal_of shape.Character text j n h = character_or text (character (drop 1 text)) refl j n h
literal_of shape.String text j n h = string_literal text (front.Token j n) h j n refl
literal_of shape.Other text j n h = sign_or text (eqb (sign_length text) 0) (sign_length text) j n h

pub front_literal : (text : List ℕ) (j : TokenKind) (n : ℕ) → IsFront text (front.Token j n) → IsLiteral j (take n text)
front_literal text j n h = literal_of (shape_of text) text j n h
