-- A canonical text is cut into its canonical tokens.
use Rattle.std.proofs.Common.{◌≡◌, ℕ, ◌+◌, List, [], ◌∷◌, ◌++◌, length, drop, refl, sym, ap, subst, append_assoc}
use Rattle.std.proofs.lemmas.List.{append-nil}
use Rattle.std.specs.List.{All, flat_map}
use Rattle.std.proofs.lemmas.List.Elements.{All-head, All-tail}
use Rattle.text_grammar.specs.declared.front.Front.TheVariants as front
use Rattle.text_grammar.specs.Lexical.{IsFront, shape_of, is_space}
use Rattle.text_grammar.specs.Scanning.{IsCut, Whole, whole, blank, token}
use Rattle.text_grammar.specs.Grammar.{Symbol}
use Rattle.text_print.specs.Canonical.{spaced}
use Rattle.text_print.specs.Cut.{token_kind, cut_at, StandsAlone}

drop_front : (a b : List ℕ) → drop (length a) (a ++ b) ≡ b
drop_front [] b = refl
drop_front (x ∷ a) b = drop_front a b

space_front : (rest : List ℕ) → IsFront (32 ∷ rest) (front.Blank 1)
unfolding shape_of is_space
space_front rest = refl

newline_front : (rest : List ℕ) → IsFront (10 ∷ rest) (front.Blank 1)
unfolding shape_of is_space
newline_front rest = refl

cut_more : (at : ℕ) (x : Symbol) (xs : List Symbol) → StandsAlone x → All StandsAlone xs → IsCut at ((x.text ++ flat_map (λ y. 32 ∷ y.text) xs) ++ 10 ∷ []) (cut_at at (x ∷ xs)) Whole
cut_more at x [] h hs =
    let e : (x.text ++ []) ++ 10 ∷ [] ≡ x.text ++ 10 ∷ [] = ap (λ q. q ++ 10 ∷ []) (append-nil x.text) in
    let end : IsCut (at + length x.text) (10 ∷ []) [] Whole = blank 1 (newline_front []) whole in
    subst (λ (q : List ℕ). IsCut at q (cut_at at (x ∷ [])) Whole) (sym e)
    (token (token_kind x.kind) (length x.text) (h.before_newline []) (subst (λ (q : List ℕ). IsCut (at + length x.text) q [] Whole) (sym (drop_front x.text (10 ∷ []))) end))
cut_more at x (y ∷ ys) h hs =
    let rest = (y.text ++ flat_map (λ y. 32 ∷ y.text) ys) ++ 10 ∷ [] in
    let e : (x.text ++ flat_map (λ y. 32 ∷ y.text) (y ∷ ys)) ++ 10 ∷ [] ≡ x.text ++ 32 ∷ rest = append_assoc x.text (flat_map (λ y. 32 ∷ y.text) (y ∷ ys)) (10 ∷ []) in
    let next = cut_more (at + length x.text + 1) y ys (All-head StandsAlone y ys hs) (All-tail StandsAlone y ys hs) in
    let behind : IsCut (at + length x.text) (32 ∷ rest) (cut_at (at + length x.text + 1) (y ∷ ys)) Whole = blank 1 (space_front rest) next in
    subst (λ (q : List ℕ). IsCut at q (cut_at at (x ∷ y ∷ ys)) Whole) (sym e)
    (token (token_kind x.kind) (length x.text) (h.before_space rest) (subst (λ (q : List ℕ). IsCut (at + length x.text) q (cut_at (at + length x.text + 1) (y ∷ ys)) Whole) (sym (drop_front x.text (32 ∷ rest))) behind))

pub text_is_cut : (xs : List Symbol) → All StandsAlone xs → IsCut 0 (spaced xs ++ 10 ∷ []) (cut_at 0 xs) Whole
text_is_cut [] h = blank 1 (newline_front []) whole
text_is_cut (x ∷ xs) h = cut_more 0 x xs (All-head StandsAlone x xs h) (All-tail StandsAlone x xs h)
