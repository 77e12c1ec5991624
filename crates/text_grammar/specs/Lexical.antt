-- What a text begins with, by longest match: a token, a blank or a comment (C11, 6.4, of the subset).
use Rattle.std.specs.Prelude.{◌≡◌, ℕ, ◌+◌, ◌-◌, ◌≤◌, Bool, not, ◌&&◌, ◌||◌, ◌==◌, if◌then◌else◌, nat_le, codes, List, [], ◌∷◌, ◌++◌, length, take, drop, slice_index, Option, None, Some, nat_lt, zero, suc}
use Rattle.std.specs.Option.{option_map, option_map_or, option_and_then}
use Rattle.std.specs.List.{prefix_len, take_while, list_any}
use Rattle.std.specs.Str.{bytes_eq}
use Rattle.std.specs.Char.{is_digit, is_ascii_digit, is_ascii_alphabetic}
use Rattle.std.specs.Str.Parse.{IsNumeral, digits_value}
use Rattle.text_grammar.specs.declared.token_list.TokenKind.TheVariants as kind
use Rattle.text_grammar.specs.declared.front.Front.{Front}
use Rattle.text_grammar.specs.declared.front.Front.TheVariants as front
use Rattle.text_grammar.specs.declared.front.Shape.{Shape}
use Rattle.text_grammar.specs.declared.front.Shape.TheVariants as shape

-- Classes of bytes.

-- a space, a tab, a newline or a carriage return
unfoldable pub is_space : ℕ → Bool
is_space byte = byte == 32 || byte == 9 || byte == 10 || byte == 13

-- a letter or `_`
unfoldable pub is_letter : ℕ → Bool
is_letter byte = is_ascii_alphabetic byte || byte == 95

-- what a word goes on with: a letter, a digit or `_`
unfoldable pub is_word_byte : ℕ → Bool
is_word_byte byte = is_ascii_alphabetic byte || is_ascii_digit byte || byte == 95

-- what stands for itself in a literal with this quote
unfoldable pub is_plain : ℕ → ℕ → Bool
is_plain quote byte = (byte == 9 || (nat_le 32 byte && not (byte == 127))) && not (byte == 92) && not (byte == quote)

-- n, t, r, the backslash and the two quotes
unfoldable pub is_simple_escape : ℕ → Bool
is_simple_escape byte = byte == 110 || byte == 116 || byte == 114 || byte == 92 || byte == 39 || byte == 34

abbrev pub is_octal_digit : ℕ → Bool
is_octal_digit byte = is_digit byte 8

abbrev pub is_hex_digit : ℕ → Bool
is_hex_digit byte = is_digit byte 16

-- Comments.

-- how many bytes there are to the end of the next `*/`
abbrev pub comment_end : List ℕ → Option ℕ
comment_end [] = None
comment_end (byte ∷ rest) = if byte == 42 && slice_index rest 0 == 47 then Some 2 else option_map (λ n. n + 1) (comment_end rest)

abbrev pub is_not_newline : ℕ → Bool
is_not_newline byte = not (byte == 10)

-- Numbers: a run of letters, digits and `_` that begins with a digit.

unfoldable pub is_unsigned : List ℕ → Bool
is_unsigned run = slice_index run (length run - 1) == 117 || slice_index run (length run - 1) == 85

-- without its suffix
unfoldable pub body_of : List ℕ → List ℕ
body_of run = if is_unsigned run then take (length run - 1) run else run

unfoldable pub is_hexadecimal : List ℕ → Bool
is_hexadecimal body = slice_index body 0 == 48 && (slice_index body 1 == 120 || slice_index body 1 == 88)

unfoldable pub radix_of : List ℕ → ℕ
radix_of body = if is_hexadecimal body then 16 else (if slice_index body 0 == 48 then 8 else 10)

-- the digits, among them the 0 in front of octal ones
unfoldable pub digits_of : List ℕ → List ℕ
digits_of body = if is_hexadecimal body then drop 2 body else body

-- the greatest number that may be written so: that of an `unsigned`, or in decimal without suffix that of an `int`
unfoldable pub greatest : ℕ → Bool → ℕ
greatest radix unsigned = if radix == 10 && not unsigned then 2147483647 else 4294967295

unfoldable pub number_value : List ℕ → ℕ
number_value run = digits_value (radix_of (body_of run)) (digits_of (body_of run))

pub record IsNumber (run : List ℕ) : Type 0 where
  pub digits : IsNumeral (radix_of (body_of run)) (digits_of (body_of run))
  pub fits : number_value run ≤ greatest (radix_of (body_of run)) (is_unsigned run)

-- Elements of character and string literals.

-- the escape of these octal digits, at most three: how many bytes it has, where its value is a byte's
unfoldable pub octal_escape : List ℕ → Option ℕ
octal_escape digits = if nat_le (digits_value 8 digits) 255 then Some (length digits + 1) else None

-- the escape of this many hexadecimal digits: one or two
unfoldable pub hex_escape : ℕ → Option ℕ
hex_escape count = if count == 1 || count == 2 then Some (count + 2) else None

-- how many bytes the escape has whose text after the backslash this is
unfoldable pub escape : List ℕ → Option ℕ
escape text =
    if is_simple_escape (slice_index text 0) then Some 2
    else (if is_octal_digit (slice_index text 0) then octal_escape (take_while is_octal_digit (take 3 text))
    else (if slice_index text 0 == 120 then hex_escape (prefix_len is_hex_digit (drop 1 text))
    else None))

-- how many bytes the element has that the text begins with, in a literal with this quote
unfoldable pub element : ℕ → List ℕ → Option ℕ
element quote text =
    if slice_index text 0 == 92 then escape (drop 1 text)
    else (if is_plain quote (slice_index text 0) then Some 1
    else None)

-- a character literal has one element: how many bytes the literal has whose text after the quote this is
unfoldable pub character : List ℕ → Option ℕ
character text = option_and_then (λ n. if slice_index text n == 39 then Some (n + 2) else None) (element 39 text)

-- the text begins with elements of this many bytes in all, and then comes the quote
pub data Elements (quote : ℕ) : List ℕ → ℕ → Type 0 where
  closed : {text : List ℕ} → slice_index text 0 ≡ quote → Elements quote text 0
  more : {text : List ℕ} (m n : ℕ) → element quote text ≡ Some m → Elements quote (drop m text) n → Elements quote text (m + n)

-- Signs.

-- the signs of two bytes
unfoldable pub long_signs : List (List ℕ)
long_signs = codes "||" ∷ codes "&&" ∷ codes "==" ∷ codes "!=" ∷ codes "<=" ∷ codes ">=" ∷ codes "<<" ∷ codes ">>" ∷ codes "->" ∷ []

unfoldable pub is_long_sign : ℕ → ℕ → Bool
is_long_sign a b = list_any (λ sign. slice_index sign 0 == a && slice_index sign 1 == b) long_signs

-- the signs of one byte
unfoldable pub is_short_sign : ℕ → Bool
is_short_sign byte = list_any (λ sign. sign == byte) (codes "+-*/%|&^~!<>=()[]{};,.")

-- how many bytes the longest sign has that the text begins with, or 0
unfoldable pub sign_length : List ℕ → ℕ
sign_length text =
    if is_long_sign (slice_index text 0) (slice_index text 1) then 2
    else (if is_short_sign (slice_index text 0) then 1
    else 0)

-- Words.

-- the keywords that the source language uses
unfoldable pub used_keywords : List (List ℕ)
used_keywords =
    codes "int" ∷ codes "char" ∷ codes "signed" ∷ codes "unsigned" ∷ codes "void" ∷ codes "struct" ∷ codes "static" ∷ codes "extern" ∷ codes "const" ∷ codes "register" ∷ codes "return" ∷ codes "if" ∷ codes "else" ∷ codes "while" ∷ codes "do" ∷ codes "for" ∷ codes "break" ∷ codes "continue" ∷ codes "sizeof" ∷ []

-- C's other keywords
unfoldable pub unused_keywords : List (List ℕ)
unused_keywords =
    codes "auto" ∷ codes "case" ∷ codes "default" ∷ codes "double" ∷ codes "enum" ∷ codes "float" ∷ codes "goto" ∷ codes "inline" ∷ codes "long" ∷ codes "restrict" ∷ codes "short" ∷ codes "switch" ∷ codes "typedef" ∷ codes "union" ∷ codes "volatile" ∷ []

unfoldable pub is_keyword : List ℕ → Bool
is_keyword word = list_any (bytes_eq word) (used_keywords ++ unused_keywords)

-- Fronts.

-- what the first two bytes tell
unfoldable pub shape_of : List ℕ → Shape
shape_of text =
    let first = slice_index text 0 in let second = slice_index text 1 in
    if is_space first then shape.Space
    else (if is_letter first then shape.Word
    else (if is_ascii_digit first then shape.Number
    else (if first == 39 then shape.Character
    else (if first == 34 then shape.String
    else (if first == 47 && second == 47 then shape.LineComment
    else (if first == 47 && second == 42 then shape.BlockComment
    else shape.Other))))))

-- the longest word that the text begins with; of a number, that with all that stands directly after it
abbrev pub word_of : List ℕ → List ℕ
word_of text = take_while is_word_byte text

-- the one case where there is such a number, and the other where there is none
pub data Measured (P : ℕ → Type 0) (found : ℕ → Front) (missing : Front) : Front → Type 0 where
  one : (n : ℕ) → P n → Measured P found missing (found n)
  none : ((n : ℕ) → P n → ⊥) → Measured P found missing missing

-- what a text of this shape begins with
abbrev pub IsFrontOf : Shape → List ℕ → Front → Type 0
IsFrontOf shape.Space text f = f ≡ front.Blank 1
IsFrontOf shape.LineComment text f = f ≡ front.Blank (prefix_len is_not_newline text)
IsFrontOf shape.BlockComment text f = f ≡ option_map_or (λ n. front.Blank (n + 2)) (comment_end (drop 2 text)) front.NoToken
IsFrontOf shape.Word text f = f ≡ front.Token (if is_keyword (word_of text) then kind.Keyword else kind.Id) (prefix_len is_word_byte text)
IsFrontOf shape.Number text f = Measured (λ n. IsNumber (word_of text) × (n ≡ prefix_len is_word_byte text)) (front.Token kind.Num) front.BadLiteral f
IsFrontOf shape.Character text f = f ≡ option_map_or (front.Token kind.Char) (character (drop 1 text)) front.BadLiteral
IsFrontOf shape.String text f = Measured (Elements 34 (drop 1 text)) (λ n. front.Token kind.Str (n + 2)) front.BadLiteral f
IsFrontOf shape.Other text f = f ≡ (if sign_length text == 0 then front.NoToken else front.Token kind.Sign (sign_length text))

-- how much of a text of this shape there is at least
abbrev pub HasRoom : Shape → List ℕ → Type 0
HasRoom shape.Space text = 1 ≤ length text
HasRoom shape.LineComment text = 1 ≤ prefix_len is_not_newline text
HasRoom shape.BlockComment text = 2 ≤ length text
HasRoom shape.Word text = 1 ≤ prefix_len is_word_byte text
HasRoom shape.Number text = 1 ≤ prefix_len is_word_byte text
HasRoom shape.Character text = 1 ≤ length text
HasRoom shape.String text = 1 ≤ length text
HasRoom shape.Other text = Unit {0}

-- what the text begins with
abbrev pub IsFront : List ℕ → Front → Type 0
IsFront text f = IsFrontOf (shape_of text) text f

-- it has at least one byte, and at most this many
abbrev pub IsWithin : ℕ → Front → Type 0
IsWithin most (front.Blank n) = (1 ≤ n) × (n ≤ most)
IsWithin most (front.Token kind n) = (1 ≤ n) × (n ≤ most)
IsWithin most front.BadLiteral = Unit {0}
IsWithin most front.NoToken = Unit {0}

-- Values of literals.

-- a number is unsigned where it has a suffix or is past the greatest `int`
unfoldable pub is_unsigned_number : List ℕ → Bool
is_unsigned_number run = is_unsigned run || nat_lt 2147483647 (number_value run)

-- the byte of an escape whose text after the backslash this is
unfoldable pub escape_value : List ℕ → ℕ
escape_value text =
    let first = slice_index text 0 in
    if is_octal_digit first then digits_value 8 (take_while is_octal_digit (take 3 text))
    else (if first == 120 then digits_value 16 (take_while is_hex_digit (drop 1 text))
    else (if first == 110 then 10
    else (if first == 116 then 9
    else (if first == 114 then 13
    else first))))

-- the byte of the element that the text begins with
unfoldable pub element_value : List ℕ → ℕ
element_value text = if slice_index text 0 == 92 then escape_value (drop 1 text) else slice_index text 0

-- the bytes of the elements before the quote, of which there are at most this many
unfoldable pub element_bytes : ℕ → ℕ → List ℕ → List ℕ
element_bytes zero quote text = []
element_bytes (suc most) quote text =
    if slice_index text 0 == quote then []
    else option_map_or (λ n. element_value text ∷ element_bytes most quote (drop n text)) (element quote text) []

-- the bytes of a string literal
unfoldable pub string_value : List ℕ → List ℕ
string_value literal = element_bytes (length literal) 34 (drop 1 literal)
