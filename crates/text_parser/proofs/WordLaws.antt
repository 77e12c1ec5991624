-- The words of a text, token by token.
use Rattle.std.proofs.Common.{◌≡◌, ℕ, zero, suc, ◌+◌, ◌<◌, List, [], ◌∷◌, ◌++◌, length, take, get_or, Option, Some, None, refl, sym, ap, ◌∙◌, Bool, true, false, not, ◌&&◌}
use Rattle.std.specs.Prelude.{slice_get}
use Rattle.std.specs.Option.{option_and_then, unwrap_or}
use Rattle.std.specs.List.{All}
use Rattle.std.proofs.lemmas.List.{map-append, take_more}
use Rattle.std.proofs.lemmas.List.Elements.{All-push}
use Rattle.text_grammar.specs.declared.token_list.Token.{Token}
use Rattle.text_grammar.specs.declared.token_list.TokenKind.{TokenKind}
use Rattle.text_grammar.specs.declared.token_list.TokenKind.TheVariants as token
use Rattle.text_grammar.specs.declared.kind.Kind.{Kind}
use Rattle.text_grammar.specs.declared.kind.Kind.TheVariants as k
use Rattle.text_grammar.specs.Spelled.{IsSpelled, part}
use Rattle.text_grammar.specs.Spelled as text
use Rattle.text_grammar.specs.laws.SameKind.{same}
use Rattle.text_grammar.specs.laws.Same.{same_self}
use Rattle.text_grammar.specs.Grammar.{Symbol}
use Rattle.text_parser.specs.declared.word.Word.{Word}
use Rattle.text_parser.specs.Symbols.{keyword_kinds, sign_kinds, kind_of, symbol_of, symbols_of}
use Rattle.text_parser.specs.Words.{IsLiteral, IsWord, AreWords, word_symbol, word_symbols}

abbrev absent : Kind → List Kind → Bool
absent kind [] = true
absent kind (x ∷ xs) = not (same kind x) && absent kind xs

both : (a b : Bool) → (a && b) ≡ true → (a ≡ true) × (b ≡ true)
both true b h = (refl, h)
both false b h = absurd (cc)

not_true : (b : Bool) → b ≡ true → not b ≡ true → ⊥
not_true true e h = cc
not_true false e h = cc

same_some : {A : Type 0} {a b : A} → Some a ≡ Some b → a ≡ b
same_some h = cc

none_some : {A : Type 0} {a : A} → None ≡ Some a → ⊥
none_some h = cc

not_among : (kind : Kind) (xs : List Kind) (n : ℕ) → absent kind xs ≡ true → slice_get xs n ≡ Some kind → ⊥
not_among kind [] n a h = none_some h
not_among kind (x ∷ xs) zero a h = not_true (same kind x) (same_self kind x (sym (same_some h))) (both (not (same kind x)) (absent kind xs) a).0
not_among kind (x ∷ xs) (suc n) a h = not_among kind xs n (both (not (same kind x)) (absent kind xs) a).1 h

-- no spelling is that of a literal
not_chosen : (kind : Kind) (kinds : List Kind) (o : Option ℕ) → absent kind kinds ≡ true → same kind k.Unused ≡ false → unwrap_or (option_and_then (slice_get kinds) o) k.Unused ≡ kind → ⊥
not_chosen kind kinds None a u h = let s = same_self kind k.Unused (sym h) in cc
not_chosen kind kinds (Some n) a u h = go (slice_get kinds n) refl h
  where
    go : (o : Option Kind) → slice_get kinds n ≡ o → unwrap_or o k.Unused ≡ kind → ⊥
    go None e h = let s = same_self kind k.Unused (sym h) in cc
    go (Some x) e h = not_among kind kinds n a (e ∙ ap Some h)

keyword_absent : (absent k.Num keyword_kinds ≡ true) × (absent k.Char keyword_kinds ≡ true)
unfolding keyword_kinds
keyword_absent = (refl, refl)

sign_absent : (absent k.Num sign_kinds ≡ true) × (absent k.Char sign_kinds ≡ true)
unfolding sign_kinds
sign_absent = (refl, refl)

abbrev symbol : TokenKind → ℕ → List ℕ → Symbol
symbol t at bytes = record { kind = kind_of t bytes; at = at; text = bytes }

literal_symbol : (t : TokenKind) (at : ℕ) (bytes : List ℕ) → text.IsLiteral t bytes → IsLiteral (symbol t at bytes)
literal_symbol token.Keyword at bytes l = record { number = λ e. absurd (not_chosen k.Num keyword_kinds _ keyword_absent.0 refl e); character = λ e. absurd (not_chosen k.Char keyword_kinds _ keyword_absent.1 refl e) }
literal_symbol token.Id at bytes l = record { number = λ e. absurd (cc); character = λ e. absurd (cc) }
literal_symbol token.Num at bytes l = record { number = λ e. l; character = λ e. absurd (cc) }
literal_symbol token.Char at bytes l = record { number = λ e. absurd (cc); character = λ e. l }
literal_symbol token.Str at bytes l = record { number = λ e. absurd (cc); character = λ e. absurd (cc) }
literal_symbol token.Sign at bytes l = record { number = λ e. absurd (not_chosen k.Num sign_kinds _ sign_absent.0 refl e); character = λ e. absurd (not_chosen k.Char sign_kinds _ sign_absent.1 refl e) }

-- the word of a token
abbrev pub word_of : List ℕ → Token → Word
word_of s t = record { kind = kind_of t.kind (part s t.start t.length); start = t.start; length = t.length }

word_good : (s : List ℕ) (t : Token) → IsSpelled s t → IsWord s (word_of s t)
word_good s t h = record { within = h.within; literal = literal_symbol t.kind t.start (part s t.start t.length) h.literal }

pub words_more : (s : List ℕ) (tokens : List Token) (i : ℕ) (d : Token) (found : List Word) → i < length tokens → All (IsSpelled s) tokens → AreWords s found → AreWords s (found ++ word_of s (get_or tokens i d) ∷ [])
words_more s tokens i d found l a h = All-push (IsWord s) found (word_of s (get_or tokens i d)) h (word_good s (get_or tokens i d) (a i d l))

pub symbols_more : (s : List ℕ) (tokens : List Token) (i : ℕ) (d : Token) (found : List Word) → i < length tokens → word_symbols s found ≡ symbols_of s (take i tokens)
    → word_symbols s (found ++ word_of s (get_or tokens i d) ∷ []) ≡ symbols_of s (take (i + 1) tokens)
symbols_more s tokens i d found l h =
    map-append (word_symbol s) found (word_of s (get_or tokens i d) ∷ [])
    ∙ ap (λ xs. xs ++ symbol_of s (get_or tokens i d) ∷ []) h
    ∙ sym (map-append (symbol_of s) (take i tokens) (get_or tokens i d ∷ []))
    ∙ ap (symbols_of s) (sym (take_more tokens i d l))
