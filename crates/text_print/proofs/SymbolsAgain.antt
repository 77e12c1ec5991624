-- The symbols of a canonical text are its canonical tokens, and those of a text are as they must be.
use Rattle.std.proofs.Common.{◌≡◌, ℕ, zero, suc, ◌+◌, List, [], ◌∷◌, ◌++◌, length, take, drop, refl, sym, ap, ◌∙◌, append_assoc, Bool, true, false, not, ◌&&◌, Option, Some, None}
use Rattle.std.specs.Prelude.{slice_get}
use Rattle.std.specs.Option.{option_and_then, unwrap_or}
use Rattle.std.specs.List.{All, flat_map}
use Rattle.std.proofs.lemmas.List.{append-nil, drop-drop}
use Rattle.std.proofs.lemmas.List.Elements.{All-head, All-tail, All-weaker, All-map}
use Rattle.text_grammar.specs.declared.kind.Kind.{Kind}
use Rattle.text_grammar.specs.declared.kind.Kind.TheVariants as k
use Rattle.text_grammar.specs.declared.token_list.Token.{Token}
use Rattle.text_grammar.specs.declared.token_list.TokenKind.{TokenKind}
use Rattle.text_grammar.specs.declared.token_list.TokenKind.TheVariants as token
use Rattle.text_grammar.specs.Grammar.{Symbol}
use Rattle.text_grammar.specs.Spelled.{part}
use Rattle.text_grammar.specs.Lexemes.{IsLexemeOf, IsLexemeIn}
use Rattle.text_parser.specs.Symbols.{keyword_kinds, sign_kinds, kind_of, symbol_of, symbols_of}
use Rattle.text_print.specs.Canonical.{spaced}
use Rattle.text_print.specs.Cut.{token_kind, cut_at, StandsAlone}
use Rattle.text_print.specs.Placed.{placed, IsLexeme}

-- Of a canonical text.

take_front : (a b : List ℕ) → take (length a) (a ++ b) ≡ a
take_front [] b = refl
take_front (x ∷ a) b = ap (λ z. x ∷ z) (take_front a b)

drop_front : (a b : List ℕ) → drop (length a) (a ++ b) ≡ b
drop_front [] b = refl
drop_front (x ∷ a) b = drop_front a b

symbol_again : (text : List ℕ) (at : ℕ) (x : Symbol) (rest : List ℕ) → StandsAlone x → drop at text ≡ x.text ++ rest
    → symbol_of text (record { kind = token_kind x.kind; start = at; length = length x.text }) ≡ record { kind = x.kind; at = at; text = x.text }
symbol_again text at x rest h e =
    let same : part text at (length x.text) ≡ x.text = ap (take (length x.text)) e ∙ take_front x.text rest in
    ap (λ (bytes : List ℕ). record { kind = kind_of (token_kind x.kind) bytes; at = at; text = bytes }) same
    ∙ ap (λ (kind : Kind). record { kind = kind; at = at; text = x.text }) h.kind

behind_token : (text : List ℕ) (at : ℕ) (x : Symbol) (rest : List ℕ) → drop at text ≡ x.text ++ 32 ∷ rest → drop (at + length x.text + 1) text ≡ rest
behind_token text at x rest e =
    sym (drop-drop 1 (at + length x.text) text)
    ∙ ap (drop 1) (sym (drop-drop (length x.text) at text) ∙ ap (drop (length x.text)) e ∙ drop_front x.text (32 ∷ rest))

symbols_more : (text : List ℕ) (at : ℕ) (x : Symbol) (xs : List Symbol) → StandsAlone x → All StandsAlone xs → drop at text ≡ (x.text ++ flat_map (λ y. 32 ∷ y.text) xs) ++ 10 ∷ []
    → symbols_of text (cut_at at (x ∷ xs)) ≡ placed at (x ∷ xs)
symbols_more text at x [] h hs e = ap (λ (s : Symbol). s ∷ []) (symbol_again text at x (10 ∷ []) h (e ∙ ap (λ z. z ++ 10 ∷ []) (append-nil x.text)))
symbols_more text at x (y ∷ ys) h hs e =
    let rest : List ℕ = (y.text ++ flat_map (λ y. 32 ∷ y.text) ys) ++ 10 ∷ [] in
    let e1 : drop at text ≡ x.text ++ 32 ∷ rest = e ∙ append_assoc x.text (flat_map (λ y. 32 ∷ y.text) (y ∷ ys)) (10 ∷ []) in
    ap (λ (s : Symbol). s ∷ symbols_of text (cut_at (at + length x.text + 1) (y ∷ ys))) (symbol_again text at x (32 ∷ rest) h e1)
    ∙ ap (λ (ss : List Symbol). record { kind = x.kind; at = at; text = x.text } ∷ ss)
    (symbols_more text (at + length x.text + 1) y ys (All-head StandsAlone y ys hs) (All-tail StandsAlone y ys hs) (behind_token text at x rest e1))

pub symbols_again : (xs : List Symbol) → All StandsAlone xs → symbols_of (spaced xs ++ 10 ∷ []) (cut_at 0 xs) ≡ placed 0 xs
symbols_again [] h = refl
symbols_again (x ∷ xs) h = symbols_more (spaced (x ∷ xs) ++ 10 ∷ []) 0 x xs (All-head StandsAlone x xs h) (All-tail StandsAlone x xs h) refl

-- Of any text.

-- names and literals
abbrev is_open : Kind → Bool
is_open k.Id = true
is_open k.Num = true
is_open k.Char = true
is_open k.Str = true
is_open _ = false

abbrev none_open : List Kind → Bool
none_open [] = true
none_open (x ∷ xs) = not (is_open x) && none_open xs

both : (a b : Bool) → (not a && b) ≡ true → (a ≡ false) × (b ≡ true)
both true b h = absurd (cc)
both false b h = (refl, h)

among : (kinds : List Kind) (n : ℕ) → none_open kinds ≡ true → is_open (unwrap_or (slice_get kinds n) k.Unused) ≡ false
among [] n h = refl
among (x ∷ xs) zero h = (both (is_open x) (none_open xs) h).0
among (x ∷ xs) (suc n) h = among xs n (both (is_open x) (none_open xs) h).1

chosen : (kinds : List Kind) (o : Option ℕ) → none_open kinds ≡ true → is_open (unwrap_or (option_and_then (slice_get kinds) o) k.Unused) ≡ false
chosen kinds None h = refl
chosen kinds (Some n) h = among kinds n h

no_keyword_open : none_open keyword_kinds ≡ true
unfolding keyword_kinds
no_keyword_open = refl

no_sign_open : none_open sign_kinds ≡ true
unfolding sign_kinds
no_sign_open = refl

abbrev symbol : Kind → ℕ → List ℕ → Symbol
symbol kind at bytes = record { kind = kind; at = at; text = bytes }

clash : (kind other : Kind) → is_open kind ≡ false → is_open other ≡ true → kind ≡ other → ⊥
clash kind other n o e = let h : is_open kind ≡ is_open other = ap is_open e in cc

fixed_lexeme : (kind : Kind) (at : ℕ) (bytes : List ℕ) → is_open kind ≡ false → IsLexeme (symbol kind at bytes)
fixed_lexeme kind at bytes n = record {
  name = λ e. absurd (clash kind k.Id n refl e);
  number = λ e. absurd (clash kind k.Num n refl e);
  character = λ e. absurd (clash kind k.Char n refl e);
  string = λ e. absurd (clash kind k.Str n refl e);
}

lexeme_of : (t : TokenKind) (at : ℕ) (bytes : List ℕ) → IsLexemeOf t bytes → IsLexeme (symbol (kind_of t bytes) at bytes)
lexeme_of token.Keyword at bytes h = fixed_lexeme _ at bytes (chosen keyword_kinds _ no_keyword_open)
lexeme_of token.Id at bytes h = record { name = λ e. h; number = λ e. absurd (cc); character = λ e. absurd (cc); string = λ e. absurd (cc) }
lexeme_of token.Num at bytes h = record { name = λ e. absurd (cc); number = λ e. h; character = λ e. absurd (cc); string = λ e. absurd (cc) }
lexeme_of token.Char at bytes h = record { name = λ e. absurd (cc); number = λ e. absurd (cc); character = λ e. h; string = λ e. absurd (cc) }
lexeme_of token.Str at bytes h = record { name = λ e. absurd (cc); number = λ e. absurd (cc); character = λ e. absurd (cc); string = λ e. h }
lexeme_of token.Sign at bytes h = fixed_lexeme _ at bytes (chosen sign_kinds _ no_sign_open)

pub symbols_lexemes : (text : List ℕ) (ts : List Token) → All (IsLexemeIn text) ts → All IsLexeme (symbols_of text ts)
symbols_lexemes text ts h =
    All-map IsLexeme (symbol_of text) ts (All-weaker (IsLexemeIn text) (λ t. IsLexeme (symbol_of text t)) (λ t. lexeme_of t.kind t.start (part text t.start t.length)) ts h)
