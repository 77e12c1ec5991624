-- The names and literals of a text are as they must be.
use Rattle.std.proofs.Common.{◌≡◌, ℕ, zero, suc, ◌+◌, ◌<◌, ◌≤◌, List, [], ◌∷◌, length, take, drop, get_or, refl, true, false, Bool, ◌&&◌, arith, ap, sym, ◌∙◌, subst, Some, None, Option, is_some, if◌then◌else◌, eqb, eqb-true}
use Rattle.std.proofs.lemmas.List.{drop-drop, get_or-take}
use Rattle.std.proofs.lemmas.List.Elements.{All-nil, All-cons, All-head, All-take, All-drop}
use Rattle.std.proofs.lemmas.List.Folds.{length-prefix_len}
use Rattle.std.proofs.lemmas.List.Sums.{prefix_len_passes}
use Rattle.std.specs.Prelude.{IsSome}
use Rattle.std.specs.Option.{option_map_or}
use Rattle.std.specs.List.{All, prefix_len, take_while}
use Rattle.std.specs.Char.{is_ascii_digit}
use Rattle.std.specs.Str.Parse.{digits_value}
use Rattle.text_grammar.specs.Lexical.{Measured, one, none, IsFrontOf, IsFront, shape_of, is_space, is_letter, is_keyword, word_of, is_word_byte, is_octal_digit, is_hex_digit, escape, escape_value, element, element_value, element_bytes, string_value, character, comment_end, sign_length}
use Rattle.text_grammar.specs.Scanning.{Ending, IsCut, whole, no_token, bad_literal, blank, token}
use Rattle.text_grammar.specs.Lexemes.{AreBytes, IsName, IsLexemeOf, IsLexemeIn}
use Rattle.text_grammar.specs.declared.token_list.Token.{Token}
use Rattle.text_grammar.specs.declared.token_list.TokenKind.{TokenKind}
use Rattle.text_grammar.specs.declared.token_list.TokenKind.TheVariants as kind
use Rattle.text_grammar.specs.declared.front.Front.{Front}
use Rattle.text_grammar.specs.declared.front.Front.TheVariants as front
use Rattle.text_grammar.specs.declared.front.Shape.{Shape}
use Rattle.text_grammar.specs.declared.front.Shape.TheVariants as shape
use Rattle.text_grammar.proofs.FrontLemmas.{first_counts, letter_goes_on}
use Rattle.text_grammar.proofs.LiteralLemmas.{first_of_take, blank_or, front_literal}
use Rattle.text_grammar.proofs.ValueLemmas.{octal_small, hex_small, escape_some}

-- Values are bytes.

first_small : (text : List ℕ) → AreBytes text → get_or text 0 0 < 256
first_small [] h = omega arith
first_small (x ∷ text) h = All-head (λ byte. byte < 256) x text h

rest_small : (n : ℕ) (text : List ℕ) → AreBytes text → AreBytes (drop n text)
rest_small n text h = All-drop (λ byte. byte < 256) n text h

escape_small : (text : List ℕ) → AreBytes text → IsSome (escape text) → escape_value text < 256
unfolding escape_value
escape_small text s h = go (is_octal_digit (get_or text 0 0)) refl (eqb (get_or text 0 0) 120) refl
  where
    plain : (n t r : Bool) → (if n then 10 else (if t then 9 else (if r then 13 else get_or text 0 0))) < 256
    plain true t r = omega arith
    plain false true r = omega arith
    plain false false true = omega arith
    plain false false false = first_small text s

    go : (o : Bool) → is_octal_digit (get_or text 0 0) ≡ o → (x : Bool) → eqb (get_or text 0 0) 120 ≡ x
        → (if o then digits_value 8 (take_while is_octal_digit (take 3 text)) else (if x then digits_value 16 (take_while is_hex_digit (drop 1 text)) else (if eqb (get_or text 0 0) 110 then 10 else (if eqb (get_or text 0 0) 116 then 9 else (if eqb (get_or text 0 0) 114 then 13 else get_or text 0 0))))) < 256
    go true e x f = octal_small text e h
    go false e true f = hex_small text (eqb-true (get_or text 0 0) 120 f) h
    go false e false f = plain (eqb (get_or text 0 0) 110) (eqb (get_or text 0 0) 116) (eqb (get_or text 0 0) 114)

element_small : (quote : ℕ) (text : List ℕ) → AreBytes text → IsSome (element quote text) → element_value text < 256
unfolding element_value
element_small quote text s h = go (eqb (get_or text 0 0) 92) refl
  where
    go : (b : Bool) → eqb (get_or text 0 0) 92 ≡ b → (if b then escape_value (drop 1 text) else get_or text 0 0) < 256
    go true e = escape_small (drop 1 text) (rest_small 1 text s) (escape_some quote text (eqb-true (get_or text 0 0) 92 e) h)
    go false e = first_small text s

elements_small : (most : ℕ) (text : List ℕ) → AreBytes text → AreBytes (element_bytes most 34 text)
unfolding element_bytes
elements_small zero text s = All-nil (λ byte. byte < 256)
elements_small (suc most) text s = go (eqb (get_or text 0 0) 34) (element 34 text) refl (λ n. elements_small most (drop n text) (rest_small n text s))
  where
    go : (b : Bool) (o : Option ℕ) → element 34 text ≡ o → ((n : ℕ) → AreBytes (element_bytes most 34 (drop n text)))
        → AreBytes (if b then [] else option_map_or (λ n. element_value text ∷ element_bytes most 34 (drop n text)) o [])
    go true o e rest = All-nil (λ byte. byte < 256)
    go false None e rest = All-nil (λ byte. byte < 256)
    go false (Some n) e rest = All-cons (λ byte. byte < 256) (element_value text) (element_bytes most 34 (drop n text)) (element_small 34 text s (ap is_some e)) (rest n)

string_small : (literal : List ℕ) → AreBytes literal → AreBytes (string_value literal)
unfolding string_value
string_small literal s = elements_small (length literal) (drop 1 literal) (rest_small 1 literal s)

-- Names.

first_letter : (text : List ℕ) → shape_of text ≡ shape.Word → is_letter (get_or text 0 0) ≡ true
unfolding shape_of
first_letter text h =
    go (is_space (get_or text 0 0)) (is_letter (get_or text 0 0)) (is_ascii_digit (get_or text 0 0)) (eqb (get_or text 0 0) 39) (eqb (get_or text 0 0) 34) (eqb (get_or text 0 0) 47 && eqb (get_or text 1 0) 47) (eqb (get_or text 0 0) 47 && eqb (get_or text 1 0) 42) h
  where
    go : (s l d c q m b : Bool)
        → (if s then shape.Space else (if l then shape.Word else (if d then shape.Number else (if c then shape.Character else (if q then shape.String else (if m then shape.LineComment else (if b then shape.BlockComment else shape.Other))))))) ≡ shape.Word
        → l ≡ true
    go s true d c q m b e = refl
    go true false d c q m b e = absurd (cc)
    go false false true c q m b e = absurd (cc)
    go false false false true q m b e = absurd (cc)
    go false false false false true m b e = absurd (cc)
    go false false false false false true b e = absurd (cc)
    go false false false false false false true e = absurd (cc)
    go false false false false false false false e = absurd (cc)

no_letter : is_letter 0 ≡ true → ⊥
unfolding is_letter
no_letter h = cc

has_bytes : (text : List ℕ) → is_letter (get_or text 0 0) ≡ true → 1 ≤ length text
has_bytes [] h = absurd (no_letter h)
has_bytes (x ∷ text) h = omega arith

word_bytes : (text : List ℕ) → All (λ byte. is_word_byte byte ≡ true) (word_of text)
word_bytes text i d l =
    let n = length-prefix_len is_word_byte text in
    let less : i < prefix_len is_word_byte text = omega (arith, l, n) in
    ap is_word_byte (get_or-take (prefix_len is_word_byte text) text i d less) ∙ prefix_len_passes is_word_byte text i d less

word_is : (text : List ℕ) → is_letter (get_or text 0 0) ≡ true → is_keyword (word_of text) ≡ false → IsName (word_of text)
word_is text h w =
    let some : 1 ≤ prefix_len is_word_byte text = first_counts is_word_byte text (has_bytes text h) (letter_goes_on (get_or text 0 0) h) in
    record { first = ap is_letter (first_of_take (prefix_len is_word_byte text) text some) ∙ h; all = word_bytes text; word = w }

number_no_id : (P : ℕ → Type 0) (f : Front) (n : ℕ) → Measured P (front.Token kind.Num) front.BadLiteral f → f ≡ front.Token kind.Id n → ⊥
number_no_id P _ n (one m p) e = cc
number_no_id P _ n (none p) e = cc

string_no_id : (P : ℕ → Type 0) (f : Front) (n : ℕ) → Measured P (λ m. front.Token kind.Str (m + 2)) front.BadLiteral f → f ≡ front.Token kind.Id n → ⊥
string_no_id P _ n (one m p) e = cc
string_no_id P _ n (none p) e = cc

character_no_id : (o : Option ℕ) (n : ℕ) → front.Token kind.Id n ≡ option_map_or (front.Token kind.Char) o front.BadLiteral → ⊥
character_no_id None n h = cc
character_no_id (Some m) n h = cc

sign_no_id : (b : Bool) (m n : ℕ) → front.Token kind.Id n ≡ (if b then front.NoToken else front.Token kind.Sign m) → ⊥
sign_no_id true m n h = cc
sign_no_id false m n h = cc

name_is : (text : List ℕ) (n : ℕ) → IsFront text (front.Token kind.Id n) → IsName (take n text)
name_is text n = go (shape_of text) refl
  where
    word : (b : Bool) → is_keyword (word_of text) ≡ b → is_letter (get_or text 0 0) ≡ true → front.Token kind.Id n ≡ front.Token (if b then kind.Keyword else kind.Id) (prefix_len is_word_byte text) → IsName (take n text)
    word true w l e = absurd (cc)
    word false w l e = let same : n ≡ prefix_len is_word_byte text = cc in subst (λ (m : ℕ). IsName (take m text)) (sym same) (word_is text l w)

    go : (s : Shape) → shape_of text ≡ s → IsFrontOf s text (front.Token kind.Id n) → IsName (take n text)
    go shape.Space e h = absurd (cc)
    go shape.LineComment e h = absurd (cc)
    go shape.BlockComment e h = absurd (blank_or (comment_end (drop 2 text)) kind.Id n h)
    go shape.Word e h = word (is_keyword (word_of text)) refl (first_letter text e) h
    go shape.Number e h = absurd (number_no_id _ (front.Token kind.Id n) n h refl)
    go shape.Character e h = absurd (character_no_id (character (drop 1 text)) n h)
    go shape.String e h = absurd (string_no_id _ (front.Token kind.Id n) n h refl)
    go shape.Other e h = absurd (sign_no_id (eqb (sign_length text) 0) (sign_length text) n h)

-- Tokens.

lexeme_is : (k : TokenKind) (text : List ℕ) (n : ℕ) → AreBytes text → IsFront text (front.Token k n) → IsLexemeOf k (take n text)
lexeme_is kind.Keyword text n s h = tt
lexeme_is kind.Id text n s h = name_is text n h
lexeme_is kind.Num text n s h = front_literal text kind.Num n h
lexeme_is kind.Char text n s h = element_small 39 (drop 1 (take n text)) (rest_small 1 (take n text) (All-take (λ byte. byte < 256) n text s)) (front_literal text kind.Char n h)
lexeme_is kind.Str text n s h = string_small (take n text) (All-take (λ byte. byte < 256) n text s)
lexeme_is kind.Sign text n s h = tt

lexemes_from : (text : List ℕ) → AreBytes text → (at : ℕ) (rest : List ℕ) (ts : List Token) (e : Ending) → rest ≡ drop at text → IsCut at rest ts e → All (IsLexemeIn text) ts
lexemes_from text s at _ _ _ q whole = All-nil (IsLexemeIn text)
lexemes_from text s at rest _ _ q (no_token l f) = All-nil (IsLexemeIn text)
lexemes_from text s at rest _ _ q (bad_literal f) = All-nil (IsLexemeIn text)
lexemes_from text s at rest ts e q (blank n f t) = lexemes_from text s (at + n) (drop n rest) ts e (ap (drop n) q ∙ drop-drop n at text) t
lexemes_from text s at rest _ e q (token {tokens = ts} k n f t) =
    All-cons (IsLexemeIn text) (record { kind = k; start = at; length = n }) ts
    (lexeme_is k (drop at text) n (rest_small at text s) (subst (λ (z : List ℕ). IsFront z (front.Token k n)) q f))
    (lexemes_from text s (at + n) (drop n rest) ts e (ap (drop n) q ∙ drop-drop n at text) t)

pub lexemes : (text : List ℕ) (ts : List Token) (e : Ending) → AreBytes text → IsCut 0 text ts e → All (IsLexemeIn text) ts
lexemes text ts e s t = lexemes_from text s 0 text ts e refl t
