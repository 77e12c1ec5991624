-- The counts of a text's depth, token by token.
use Rattle.std.proofs.Common.{◌≡◌, ◌≢◌, ℕ, ◌+◌, ◌<◌, ◌≤◌, ◌⊎◌, inl, inr, List, [], ◌∷◌, ◌++◌, length, take, Some, refl, sym, ap, ◌∙◌, subst, arith, append_assoc, append-nil, length-append}
use Rattle.std.proofs.lemmas.Bool.{cases_lt}
use Rattle.std.proofs.lemmas.List.{take-append-le, take_all}
use Rattle.std.proofs.lemmas.List.Sums.{fold_push}
use Rattle.text_grammar.specs.declared.kind.Kind.{Kind}
use Rattle.text_grammar.specs.declared.kind.Kind.TheVariants as k
use Rattle.text_grammar.specs.Grammar.{Symbol}
use Rattle.text_grammar.specs.laws.Programs.{head, tail}
use Rattle.text_parser.specs.Depth.{opened, in_row, open_with, row_with, IsShallow, IsFirstDeep}

pub no_bracket : (n : ℕ) (kind : Kind) → kind ≢ k.LParen → kind ≢ k.LBracket → kind ≢ k.LBrace → kind ≢ k.RParen → kind ≢ k.RBracket → kind ≢ k.RBrace → opened n kind ≡ n
no_bracket n k.LParen a b c d e f = absurd (a refl)
no_bracket n k.LBracket a b c d e f = absurd (b refl)
no_bracket n k.LBrace a b c d e f = absurd (c refl)
no_bracket n k.RParen a b c d e f = absurd (d refl)
no_bracket n k.RBracket a b c d e f = absurd (e refl)
no_bracket n k.RBrace a b c d e f = absurd (f refl)
no_bracket n _ a b c d e f = refl

pub no_end : (n : ℕ) (kind : Kind) → kind ≢ k.Semi → kind ≢ k.Comma → kind ≢ k.LBrace → kind ≢ k.RBrace → in_row n kind ≡ n + 1
no_end n k.Semi a b c d = absurd (a refl)
no_end n k.Comma a b c d = absurd (b refl)
no_end n k.LBrace a b c d = absurd (c refl)
no_end n k.RBrace a b c d = absurd (d refl)
no_end n _ a b c d = refl

-- what a walk over the tokens knows: those behind it keep the limits, and have these counts
pub record Walked (whole left : List Symbol) (depth row : ℕ) : Type 0 where
  pub before : List Symbol
  pub split : whole ≡ before ++ left
  pub open_is : open_with before ≡ depth
  pub row_is : row_with before ≡ row
  pub shallow : IsShallow before
  pub open_few : depth ≤ 200
  pub row_few : row ≤ 1000

none_shallow : IsShallow []
none_shallow = record { brackets = λ n. none_open n; rows = λ n. none_row n }
  where
    none_open : (n : ℕ) → open_with (take n []) ≤ 200
    none_open n = subst (λ (ts : List Symbol). open_with ts ≤ 200) (sym (take_all n [] (omega arith))) (omega arith)

    none_row : (n : ℕ) → row_with (take n []) ≤ 1000
    none_row n = subst (λ (ts : List Symbol). row_with ts ≤ 1000) (sym (take_all n [] (omega arith))) (omega arith)

pub walk_begins : (whole : List Symbol) → Walked whole whole 0 0
walk_begins whole = record { before = []; split = refl; open_is = refl; row_is = refl; shallow = none_shallow; open_few = omega arith; row_few = omega arith }

-- one more token that keeps a limit
kept : (count : List Symbol → ℕ) (most : ℕ) (before : List Symbol) (x : Symbol) → ((n : ℕ) → count (take n before) ≤ most) → count (before ++ x ∷ []) ≤ most → (n : ℕ) → count (take n (before ++ x ∷ [])) ≤ most
kept count most before x h last n = go (cases_lt (length before) n)
  where
    go : (length before < n) ⊎ (n ≤ length before) → count (take n (before ++ x ∷ [])) ≤ most
    go (inr l) = subst (λ (ts : List Symbol). count ts ≤ most) (sym (take-append-le n before (x ∷ []) l)) (h n)
    go (inl l) = subst (λ (ts : List Symbol). count ts ≤ most) (sym (take_all n (before ++ x ∷ []) (omega (arith, l, length-append before (x ∷ []))))) last

module _ (whole : List Symbol) (x : Symbol) (rest : List Symbol) (depth row : ℕ) (w : Walked whole (x ∷ rest) depth row) where
  open_next : open_with (w.before ++ x ∷ []) ≡ opened depth x.kind
  open_next = fold_push (λ n x. opened n x.kind) 0 w.before x ∙ ap (λ n. opened n x.kind) w.open_is

  row_next : row_with (w.before ++ x ∷ []) ≡ in_row row x.kind
  row_next = fold_push (λ n x. in_row n x.kind) 0 w.before x ∙ ap (λ n. in_row n x.kind) w.row_is

  pub walk_goes : opened depth x.kind ≤ 200 → in_row row x.kind ≤ 1000 → Walked whole rest (opened depth x.kind) (in_row row x.kind)
  walk_goes o r = record {
    before = w.before ++ x ∷ [];
    split = w.split ∙ sym (append_assoc w.before (x ∷ []) rest);
    open_is = open_next;
    row_is = row_next;
    shallow = record {
      brackets = kept open_with 200 w.before x w.shallow.brackets (omega (arith, open_next, o));
      rows = kept row_with 1000 w.before x w.shallow.rows (omega (arith, row_next, r));
    };
    open_few = o;
    row_few = r;
  }

  pub walk_deep : (200 < opened depth x.kind) ⊎ (1000 < in_row row x.kind) → IsFirstDeep whole x.at
  walk_deep d = record { before = w.before; x = x; rest = rest; split = w.split; shallow = w.shallow; deep = deep d; place = refl }
    where
      deep : (200 < opened depth x.kind) ⊎ (1000 < in_row row x.kind) → (200 < open_with (w.before ++ x ∷ [])) ⊎ (1000 < row_with (w.before ++ x ∷ []))
      deep (inl h) = inl (omega (arith, h, open_next))
      deep (inr h) = inr (omega (arith, h, row_next))

pub walk_ends : (whole : List Symbol) (depth row : ℕ) → Walked whole [] depth row → IsShallow whole
walk_ends whole depth row w = subst IsShallow (sym (w.split ∙ append-nil w.before)) w.shallow

headed : (ts : List Symbol) (x : Symbol) → Some x ≡ head ts → ts ≡ x ∷ tail ts
headed [] x h = absurd (cc)
headed (y ∷ ts) x h = let e : y ≡ x = cc in ap (λ z. z ∷ ts) e

walk_at : (whole ts : List Symbol) (x : Symbol) (d r : ℕ) → Walked whole ts d r → Some x ≡ head ts → Walked whole (x ∷ tail ts) d r
walk_at whole ts x d r w h = subst (λ (z : List Symbol). Walked whole z d r) (headed ts x h) w

pub deep_here : (whole ts : List Symbol) (x : Symbol) (d r e s : ℕ) → Walked whole ts d r → Some x ≡ head ts → e ≡ opened d x.kind → s ≡ in_row r x.kind → (200 < e) ⊎ (1000 < s) → IsFirstDeep whole x.at
deep_here whole ts x d r e s w h i j o = walk_deep whole x (tail ts) d r (walk_at whole ts x d r w h) (go o)
  where
    go : (200 < e) ⊎ (1000 < s) → (200 < opened d x.kind) ⊎ (1000 < in_row r x.kind)
    go (inl l) = inl (omega (arith, l, i))
    go (inr l) = inr (omega (arith, l, j))

pub goes_here : (whole ts t : List Symbol) (x : Symbol) (d r e s : ℕ) → Walked whole ts d r → Some x ≡ head ts → e ≡ opened d x.kind → s ≡ in_row r x.kind → e ≤ 200 → s ≤ 1000 → t ≡ tail ts → Walked whole t e s
goes_here whole ts t x d r e s w h i j k l m =
    let g = walk_goes whole x (tail ts) d r (walk_at whole ts x d r w h) (omega (arith, i, k)) (omega (arith, j, l)) in
    subst (λ (z : List Symbol). Walked whole z e s) (sym m) (subst (λ (n : ℕ). Walked whole (tail ts) e n) (sym j) (subst (λ (n : ℕ). Walked whole (tail ts) n (in_row r x.kind)) (sym i) g))
