-- A text begins with one thing only, so it is cut in one way.
use Rattle.std.proofs.Common.{◌≡◌, ℕ, ◌+◌, ◌<◌, ◌≤◌, List, [], ◌∷◌, ◌++◌, length, drop, refl, arith, ap, sym, ◌∙◌, subst, append_assoc, append-nil, length-drop}
use Rattle.std.proofs.lemmas.List.{drop-drop, drop_all}
use Rattle.text_grammar.specs.Lexical.{Measured, one, none, IsFrontOf, IsFront, shape_of, is_space, is_letter, sign_length, is_long_sign, long_signs, is_short_sign}
use Rattle.text_grammar.specs.Scanning.{Ending, Whole, NoTokenAt, BadLiteralAt, IsCut, text_max, EndsAt, whole, no_token, bad_literal, blank, token}
use Rattle.text_grammar.specs.declared.token_list.Token.{Token}
use Rattle.text_grammar.specs.declared.token_list.TokenKind.{TokenKind}
use Rattle.text_grammar.specs.declared.front.Front.{Front}
use Rattle.text_grammar.specs.declared.front.Front.TheVariants as front
use Rattle.text_grammar.specs.declared.front.Shape.{Shape}
use Rattle.text_grammar.specs.declared.front.Shape.TheVariants as shape
use Rattle.text_grammar.specs.laws.Elements.{elements_same}

measured_same : (P : ℕ → Type 0) (found : ℕ → Front) (missing : Front) (f g : Front) → ((n m : ℕ) → P n → P m → n ≡ m) → Measured P found missing f → Measured P found missing g → f ≡ g
measured_same P found missing _ _ u (one n p) (one m q) = ap found (u n m p q)
measured_same P found missing _ _ u (one n p) (none q) = absurd (q n p)
measured_same P found missing _ _ u (none p) (one m q) = absurd (p m q)
measured_same P found missing _ _ u (none p) (none q) = refl

front_same_of : (s : Shape) (text : List ℕ) (f g : Front) → IsFrontOf s text f → IsFrontOf s text g → f ≡ g
front_same_of shape.Space text f g a b = a ∙ sym b
front_same_of shape.LineComment text f g a b = a ∙ sym b
front_same_of shape.BlockComment text f g a b = a ∙ sym b
front_same_of shape.Word text f g a b = a ∙ sym b
front_same_of shape.Number text f g a b = measured_same _ _ _ f g (λ n m p q. p.1 ∙ sym q.1) a b
front_same_of shape.Character text f g a b = a ∙ sym b
front_same_of shape.String text f g a b = measured_same _ _ _ f g (elements_same (drop 1 text)) a b
front_same_of shape.Other text f g a b = a ∙ sym b

front_same : (text : List ℕ) (f g : Front) → IsFront text f → IsFront text g → f ≡ g
front_same text f g a b = front_same_of (shape_of text) text f g a b

-- nothing but the end stands at the end
end_is : IsFront [] front.NoToken
unfolding shape_of is_space is_letter sign_length is_long_sign long_signs is_short_sign
end_is = refl

end_none : (f : Front) → IsFront [] f → f ≡ front.NoToken
end_none f a = front_same [] f front.NoToken a end_is

-- what comes first
after_end : (at : ℕ) (ts : List Token) (e : Ending) → IsCut at [] ts e → (ts ≡ []) × (e ≡ Whole)
after_end at _ _ whole = (refl, refl)
after_end at _ _ (no_token l f) = absurd (omega arith)
after_end at _ _ (bad_literal f) = let h = end_none _ f in absurd (cc)
after_end at ts e (blank n f t) = let h = end_none _ f in absurd (cc)
after_end at _ e (token k n f t) = let h = end_none _ f in absurd (cc)

after_none : (at : ℕ) (text : List ℕ) (ts : List Token) (e : Ending) → 1 ≤ length text → IsFront text front.NoToken → IsCut at text ts e → (ts ≡ []) × (e ≡ NoTokenAt at)
after_none at _ _ _ l f whole = absurd (omega arith)
after_none at text _ _ l f (no_token m g) = (refl, refl)
after_none at text _ _ l f (bad_literal g) = let h = front_same text _ _ f g in absurd (cc)
after_none at text ts e l f (blank n g t) = let h = front_same text _ _ f g in absurd (cc)
after_none at text _ e l f (token k n g t) = let h = front_same text _ _ f g in absurd (cc)

after_bad : (at : ℕ) (text : List ℕ) (ts : List Token) (e : Ending) → IsFront text front.BadLiteral → IsCut at text ts e → (ts ≡ []) × (e ≡ BadLiteralAt at)
after_bad at _ _ _ f whole = let h = end_none _ f in absurd (cc)
after_bad at text _ _ f (no_token m g) = let h = front_same text _ _ f g in absurd (cc)
after_bad at text _ _ f (bad_literal g) = (refl, refl)
after_bad at text ts e f (blank n g t) = let h = front_same text _ _ f g in absurd (cc)
after_bad at text _ e f (token k n g t) = let h = front_same text _ _ f g in absurd (cc)

after_blank : (at : ℕ) (text : List ℕ) (ts : List Token) (e : Ending) (n : ℕ) → IsFront text (front.Blank n) → IsCut at text ts e → IsCut (at + n) (drop n text) ts e
after_blank at _ _ _ n f whole = let h = end_none _ f in absurd (cc)
after_blank at text _ _ n f (no_token m g) = let h = front_same text _ _ f g in absurd (cc)
after_blank at text _ _ n f (bad_literal g) = let h = front_same text _ _ f g in absurd (cc)
after_blank at text ts e n f (blank m g t) = let h = front_same text _ _ f g in let same : m ≡ n = cc in subst (λ (i : ℕ). IsCut (at + i) (drop i text) ts e) same t
after_blank at text _ e n f (token k m g t) = let h = front_same text _ _ f g in absurd (cc)

abbrev token_at : TokenKind → ℕ → ℕ → Token
token_at k at n = record { kind = k; start = at; length = n }

pub record Goes (at : ℕ) (text : List ℕ) (ts : List Token) (e : Ending) (k : TokenKind) (n : ℕ) : Type 0 where
  pub rest : List Token
  pub first : ts ≡ (record { kind = k; start = at; length = n } ∷ rest)
  pub goes : IsCut (at + n) (drop n text) rest e

after_token : (at : ℕ) (text : List ℕ) (ts : List Token) (e : Ending) (k : TokenKind) (n : ℕ) → IsFront text (front.Token k n) → IsCut at text ts e → Goes at text ts e k n
after_token at _ _ _ k n f whole = let h = end_none _ f in absurd (cc)
after_token at text _ _ k n f (no_token m g) = let h = front_same text _ _ f g in absurd (cc)
after_token at text _ _ k n f (bad_literal g) = let h = front_same text _ _ f g in absurd (cc)
after_token at text ts e k n f (blank m g t) = let h = front_same text _ _ f g in absurd (cc)
after_token at text _ e k n f (token {tokens = ts} j m g t) =
    let h = front_same text _ _ f g in
    let same : m ≡ n = cc in let kinds : j ≡ k = cc in
    record { rest = ts; first = ap (λ (x : TokenKind). token_at x at m ∷ ts) kinds ∙ ap (λ (x : ℕ). token_at k at x ∷ ts) same; goes = subst (λ (i : ℕ). IsCut (at + i) (drop i text) ts e) same t }

pub one_way : (at : ℕ) (text : List ℕ) (ts us : List Token) (e f : Ending) → IsCut at text ts e → IsCut at text us f → (ts ≡ us) × (e ≡ f)
one_way at _ _ us _ f whole u = let h = after_end at us f u in (sym h.0, sym h.1)
one_way at text _ us _ f (no_token l g) u = let h = after_none at text us f l g u in (sym h.0, sym h.1)
one_way at text _ us _ f (bad_literal g) u = let h = after_bad at text us f g u in (sym h.0, sym h.1)
one_way at text ts us e f (blank n g t) u = one_way (at + n) (drop n text) ts us e f t (after_blank at text us f n g u)
one_way at text _ us e f (token {tokens = ts} k n g t) u =
    let h = after_token at text us f k n g u in
    let same = one_way (at + n) (drop n text) ts h.rest e f t h.goes in
    ((let a = same.0 in let b = h.first in cc), same.1)

-- what a loop at a place knows: what is cut there goes on what was found
abbrev pub Continues : List ℕ → ℕ → List Token → Type 0
Continues text at found = (ts : List Token) (e : Ending) → IsCut at (drop at text) ts e → IsCut 0 text (found ++ ts) e

pub continues_blank : (text : List ℕ) (at n : ℕ) (found : List Token) → IsFront (drop at text) (front.Blank n) → Continues text at found → Continues text (at + n) found
continues_blank text at n found f c ts e t = c ts e (blank n f (subst (λ (xs : List ℕ). IsCut (at + n) xs ts e) (sym (drop-drop n at text)) t))

pub continues_token : (text : List ℕ) (at n : ℕ) (k : TokenKind) (found : List Token) → IsFront (drop at text) (front.Token k n) → Continues text at found → Continues text (at + n) (found ++ (record { kind = k; start = at; length = n } ∷ []))
continues_token text at n k found f c ts e t =
    let here = c (token_at k at n ∷ ts) e (token k n f (subst (λ (xs : List ℕ). IsCut (at + n) xs ts e) (sym (drop-drop n at text)) t)) in
    subst (λ (us : List Token). IsCut 0 text us e) (sym (append_assoc found (token_at k at n ∷ []) ts)) here

pub found_whole : (text : List ℕ) (at : ℕ) (found : List Token) → length text ≤ at → Continues text at found → IsCut 0 text found Whole
found_whole text at found l c =
    let end : drop at text ≡ [] = drop_all at text l in
    subst (λ (us : List Token). IsCut 0 text us Whole) (append-nil found) (c [] Whole (subst (λ (xs : List ℕ). IsCut at xs [] Whole) (sym end) whole))

pub found_before : (text : List ℕ) (at : ℕ) (found : List Token) (e : Ending) → length text ≤ text_max → Continues text at found → IsCut at (drop at text) [] e → EndsAt text e
found_before text at found e s c t = record { short = s; tokens = found ++ []; cut = c [] e t }

pub room_left : (text : List ℕ) (at : ℕ) → at < length text → 1 ≤ length (drop at text)
room_left text at l = omega (arith, length-drop at text)
