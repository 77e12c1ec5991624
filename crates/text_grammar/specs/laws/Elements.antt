-- The elements of a string literal, found one by one.
use Rattle.std.proofs.Common.{◌≡◌, ℕ, ◌+◌, ◌≤◌, List, [], length, drop, get_or, refl, arith, ap, sym, ◌∙◌, subst, Some, None}
use Rattle.std.proofs.lemmas.List.{get_or-drop, drop-drop, drop_all}
use Rattle.text_grammar.specs.Lexical.{element, is_plain, Elements, closed, more}

-- the closing quote begins no element
quote_ends : (text : List ℕ) → get_or text 0 0 ≡ 34 → element 34 text ≡ None
unfolding element is_plain
quote_ends text e = rw e

end_ends : element 34 [] ≡ None
unfolding element is_plain
end_ends = refl

none_where : (text : List ℕ) (n : ℕ) → element 34 text ≡ None → ¬ (get_or text 0 0 ≡ 34) → Elements 34 text n → ⊥
none_where text n e q (closed h) = q h
none_where text _ e q (more m k h t) = cc

pub none_at_end : (n : ℕ) → Elements 34 [] n → ⊥
none_at_end n t = none_where [] n end_ends (λ e. omega (arith, e)) t

-- what is left after the element
next_left : (text : List ℕ) (m n : ℕ) → element 34 text ≡ Some m → Elements 34 text n → (k : ℕ) × (n ≡ m + k) × Elements 34 (drop m text) k
next_left text m _ e (closed h) = let g = quote_ends text h in absurd (cc)
next_left text m _ e (more i k h t) = let same : i ≡ m = cc in subst (λ (j : ℕ). (l : ℕ) × (i + k ≡ j + l) × Elements 34 (drop j text) l) same (k, refl, t)

-- what a loop at a place knows: what stands there reaches from the start, and what stands from the start passes there
abbrev pub Reaches : List ℕ → ℕ → Type 0
Reaches text at = (n : ℕ) → Elements 34 (drop at text) n → Elements 34 text (at + n)

abbrev pub Passes : List ℕ → ℕ → Type 0
Passes text at = (n : ℕ) → Elements 34 text n → (m : ℕ) × (n ≡ at + m) × Elements 34 (drop at text) m

first_after : (text : List ℕ) (at : ℕ) → get_or (drop at text) 0 0 ≡ get_or text at 0
first_after text at = let e : at + 0 ≡ at = omega arith in get_or-drop at text 0 0 ∙ ap (λ i. get_or text i 0) e

pub closed_here : (text : List ℕ) (at : ℕ) → Reaches text at → get_or text at 0 ≡ 34 → Elements 34 text at
closed_here text at r e =
    let s : at + 0 ≡ at = omega arith in subst (λ (n : ℕ). Elements 34 text n) s (r 0 (closed (first_after text at ∙ e)))

pub none_here : (text : List ℕ) (at : ℕ) → Passes text at → element 34 (drop at text) ≡ None → ¬ (get_or text at 0 ≡ 34) → (n : ℕ) → Elements 34 text n → ⊥
none_here text at p e q n t = let h = p n t in none_where (drop at text) h.0 e (λ g. q (sym (first_after text at) ∙ g)) h.2

pub none_at_all : (text : List ℕ) (at : ℕ) → Passes text at → length text ≤ at → (n : ℕ) → Elements 34 text n → ⊥
none_at_all text at p l n t = let h = p n t in none_at_end h.0 (subst (λ (xs : List ℕ). Elements 34 xs h.0) (drop_all at text l) h.2)

pub reaches_further : (text : List ℕ) (at m : ℕ) → Reaches text at → element 34 (drop at text) ≡ Some m → Reaches text (at + m)
reaches_further text at m r e n t =
    let s : at + (m + n) ≡ at + m + n = omega arith in
    subst (λ (k : ℕ). Elements 34 text k) s (r (m + n) (more m n e (subst (λ (xs : List ℕ). Elements 34 xs n) (sym (drop-drop m at text)) t)))

pub passes_further : (text : List ℕ) (at m : ℕ) → Passes text at → element 34 (drop at text) ≡ Some m → Passes text (at + m)
passes_further text at m p e n t =
    let h = p n t in
    let g = next_left (drop at text) m h.0 e h.2 in
    (g.0, (omega (arith, h.1, g.1)), subst (λ (xs : List ℕ). Elements 34 xs g.0) (drop-drop m at text) g.2)

-- a text has its elements up to one place only
pub elements_same : (text : List ℕ) (n m : ℕ) → Elements 34 text n → Elements 34 text m → n ≡ m
elements_same text n m (closed h) (closed g) = refl
elements_same text n _ (closed h) (more i k g u) = let e = quote_ends text h in absurd (cc)
elements_same text _ m (more i k h t) (closed g) = let e = quote_ends text g in absurd (cc)
elements_same text _ _ (more i k h t) (more j l g u) =
    let same : j ≡ i = cc in
    let rest = elements_same (drop i text) k l t (subst (λ (x : ℕ). Elements 34 (drop x text) l) same u) in omega (arith, same, rest)
