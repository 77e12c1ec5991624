-- Canonical characters, strings and names stand alone.
use Rattle.std.specs.Option.{option_map_or, option_and_then}
use Rattle.std.proofs.Common.{◌≡◌, ℕ, ◌+◌, ◌<◌, List, [], ◌∷◌, ◌++◌, length, get_or, eqb, if◌then◌else◌, Some, None, refl, sym, ap, ◌∙◌, subst, arith, append_assoc, length-append}
use Rattle.std.specs.List.{All, flat_map}
use Rattle.std.proofs.lemmas.List.Elements.{All-head, All-tail}
use Rattle.text_grammar.specs.declared.front.Front.TheVariants as front
use Rattle.text_grammar.specs.declared.token_list.TokenKind.TheVariants as token
use Rattle.text_grammar.specs.Lexical.{is_space, is_letter, shape_of, Elements, closed, more, one, element, IsFront}
use Rattle.text_grammar.specs.Lexical as lexical
use Rattle.text_print.specs.Spelling.{escaped, character_text, string_text}
use Rattle.text_print.specs.Spelling as spelled
use Rattle.text_print.specs.Cut.{StandsAlone}
use Rattle.text_print.proofs.BytesAgain.{escaped_element, rest_of}

-- Characters.

character_length : (b : ℕ) (rest : List ℕ) → b < 256 → lexical.character (escaped b ++ 39 ∷ rest) ≡ Some 6
unfolding lexical.character escaped
character_length b rest h = ap (λ o. option_and_then (λ n. if eqb (get_or (escaped b ++ 39 ∷ rest) n 0) 39 then Some (n + 2) else None) o) (escaped_element 39 b 39 rest h refl)

character_front : (b : ℕ) (rest : List ℕ) → b < 256 → IsFront (character_text b ++ rest) (front.Token token.Char 6)
unfolding shape_of is_space is_letter character_text escaped
character_front b rest h = ap (λ o. option_map_or (front.Token token.Char) o front.BadLiteral) (sym (character_length b rest h))

pub character_alone : (b : ℕ) → b < 256 → StandsAlone (spelled.character b)
unfolding character_text escaped
character_alone b h = record { before_space = λ rest. character_front b (32 ∷ rest) h; before_newline = λ rest. character_front b (10 ∷ rest) h; kind = refl }

-- Strings.

string_elements : (bytes rest : List ℕ) → All (λ b. b < 256) bytes → Elements 34 (flat_map escaped bytes ++ 34 ∷ rest) (length (flat_map escaped bytes))
unfolding escaped
string_elements [] rest h = closed refl
string_elements (b ∷ bytes) rest h =
    let r = rest_of bytes rest in
    let e1 : flat_map escaped (b ∷ bytes) ++ 34 ∷ rest ≡ escaped b ++ r.q ∷ r.rest = append_assoc (escaped b) (flat_map escaped bytes) (34 ∷ rest) ∙ ap (λ z. escaped b ++ z) r.is in
    let e2 : 4 + length (flat_map escaped bytes) ≡ length (flat_map escaped (b ∷ bytes)) = omega (arith, length-append (escaped b) (flat_map escaped bytes)) in
    subst (λ (n : ℕ). Elements 34 (flat_map escaped (b ∷ bytes) ++ 34 ∷ rest) n) e2
    (more 4 (length (flat_map escaped bytes)) (ap (element 34) e1 ∙ escaped_element 34 b r.q r.rest (All-head (λ b. b < 256) b bytes h) r.no_digit) (string_elements bytes rest (All-tail (λ b. b < 256) b bytes h)))

string_front : (bytes rest : List ℕ) → All (λ b. b < 256) bytes → IsFront (string_text bytes ++ rest) (front.Token token.Str (length (string_text bytes)))
unfolding shape_of is_space is_letter string_text
string_front bytes rest h =
    let n = length (flat_map escaped bytes) in
    let l : n + 2 ≡ length (34 ∷ (flat_map escaped bytes ++ 34 ∷ [])) = omega (arith, length-append (flat_map escaped bytes) (34 ∷ [])) in
    let e : (flat_map escaped bytes ++ 34 ∷ []) ++ rest ≡ flat_map escaped bytes ++ 34 ∷ rest = append_assoc (flat_map escaped bytes) (34 ∷ []) rest in
    subst (λ (m : ℕ). IsFront (string_text bytes ++ rest) (front.Token token.Str m)) l
    (one n (subst (λ (z : List ℕ). Elements 34 z n) (sym e) (string_elements bytes rest h)))

pub string_alone : (bytes : List ℕ) → All (λ b. b < 256) bytes → StandsAlone (spelled.string bytes)
string_alone bytes h = record { before_space = λ rest. string_front bytes (32 ∷ rest) h; before_newline = λ rest. string_front bytes (10 ∷ rest) h; kind = refl }
