-- Laws of memory in regions.
use Rattle.std.specs.Prelude.{leb, ltb, ◌≡◌, ◌≢◌, ℕ, ◌+◌, ◌-◌, ◌<◌, ◌≤◌, ◌^◌, ◌⊎◌, Bool, true, false, cond, ◌&&◌, ◌||◌, List, [], ◌∷◌, ◌++◌, length, get_or, set}
use Rattle.std.proofs.Common.{zero, suc, arith, ◌∙◌, ap, refl, subst, length-set, get_or-set_same, get_or-set_other, inl, inr}
use Rattle.std.proofs.lemmas.Bool.{leb-false, ltb-true, ltb-false, and_cases, cond_both, leb-true, le-leb, and_parts, and_from, or_cases, or_left, or_right, cond-true, cond-false, false≢true}
use Rattle.cc_base.specs.Words.{byte_of, join, join-word_bytes}
use Rattle.i386_machine.specs.Regions.{Region, Shape, Apart, ApartFrom, Disjoint, shape_of, shapes, spans, readable, writable, peek, poke, peek_word, poke_word}

pub shapes-poke : (m : List Region) (a v : ℕ) → shapes (poke m a v) ≡ shapes m
shapes-poke [] a v = refl
shapes-poke (r ∷ rs) a v =
    elim (spans (shape_of r) a 1) as (λ b. shapes (cond b (record r { bytes = set r.bytes (a - r.base) v } ∷ rs) (r ∷ poke rs a v)) ≡ shapes (r ∷ rs)) [
      | true ↦ ap (λ (n : ℕ). record { base = r.base; size = n; writable = r.writable; executable = r.executable } ∷ shapes rs) (length-set r.bytes (a - r.base) v)
      | false ↦ ap (λ (ss : List Shape). shape_of r ∷ ss) (shapes-poke rs a v)
    ]

pub shapes-poke_word : (m : List Region) (a w : ℕ) → shapes (poke_word m a w) ≡ shapes m
shapes-poke_word m a w = shapes-poke _ (a + 3) _ ∙ shapes-poke _ (a + 2) _ ∙ shapes-poke _ (a + 1) _ ∙ shapes-poke m a _

pub spans_facts : (s : Shape) (a n : ℕ) → spans s a n ≡ true → (s.base ≤ a) × (a + n ≤ s.base + s.size)
spans_facts s a n h = let p = and_parts _ _ h in (leb-true _ _ p.0, leb-true _ _ p.1)

pub spans_from : (s : Shape) (a n : ℕ) → s.base ≤ a → a + n ≤ s.base + s.size → spans s a n ≡ true
spans_from s a n h k = and_from _ _ (le-leb _ _ h) (le-leb _ _ k)

-- two choices by one test agree where their parts agree
pick : {A : Type 0} (b : Bool) (x y z w : A) → (b ≡ true → x ≡ y) → (b ≡ false → z ≡ w) → cond b x z ≡ cond b y w
pick true x y z w h k = h refl
pick false x y z w h k = k refl

pub peek-poke_other : (m : List Region) (a v x : ℕ) → x ≢ a → peek (poke m a v) x ≡ peek m x
peek-poke_other [] a v x ne = refl
peek-poke_other (r ∷ rs) a v x ne =
    elim (spans (shape_of r) a 1) as (λ b. spans (shape_of r) a 1 ≡ b → peek (cond b (record r { bytes = set r.bytes (a - r.base) v } ∷ rs) (r ∷ poke rs a v)) x ≡ peek (r ∷ rs) x) [
      | true ↦ λ e. rw length-set (pick (spans (shape_of r) x 1) (get_or (set r.bytes (a - r.base) v) (x - r.base) 0) (get_or r.bytes (x - r.base) 0) (peek rs x) (peek rs x) (λ h.
          let p = spans_facts (shape_of r) x 1 h in
          let q = spans_facts (shape_of r) a 1 e in
          let apart : x - r.base ≢ a - r.base = omega (arith, p, q) in
          get_or-set_other r.bytes (a - r.base) (x - r.base) v 0 apart) (λ _. refl))
      | false ↦ λ e. pick (spans (shape_of r) x 1) (get_or r.bytes (x - r.base) 0) (get_or r.bytes (x - r.base) 0) (peek (poke rs a v) x) (peek rs x) (λ _. refl) (λ _. peek-poke_other rs a v x ne)
    ] refl

pub peek-poke_same : (m : List Region) (a v : ℕ) → readable (shapes m) a 1 ≡ true → peek (poke m a v) a ≡ v
peek-poke_same [] a v h = absurd (false≢true h)
peek-poke_same (r ∷ rs) a v h =
    elim (spans (shape_of r) a 1) as (λ b. spans (shape_of r) a 1 ≡ b → (b || readable (shapes rs) a 1) ≡ true → peek (cond b (record r { bytes = set r.bytes (a - r.base) v } ∷ rs) (r ∷ poke rs a v)) a ≡ v) [
      | true ↦ λ e k. rw length-set (cond-true _ _ _ e ∙ (
          let q = spans_facts (shape_of r) a 1 e in
          let inside : a - r.base < length r.bytes = omega (arith, q) in
          get_or-set_same r.bytes (a - r.base) v 0 inside))
      | false ↦ λ e k. cond-false _ _ _ e ∙ peek-poke_same rs a v k
    ] refl h

-- what one region has, it also has in part
pub readable_part : (ss : List Shape) (a n x k : ℕ) → readable ss a n ≡ true → a ≤ x → x + k ≤ a + n → readable ss x k ≡ true
readable_part [] a n x k h l u = absurd (false≢true h)
readable_part (s ∷ ss) a n x k h l u =
    elim (or_cases (spans s a n) (readable ss a n) h) [
      | inl here ↦ let p = spans_facts s a n here in or_left (spans s x k) (readable ss x k) (spans_from s x k (omega (arith, p)) (omega (arith, p)))
      | inr there ↦ or_right (spans s x k) (readable ss x k) (readable_part ss a n x k there l u)
    ]

pub writable_part : (ss : List Shape) (a n x k : ℕ) → writable ss a n ≡ true → a ≤ x → x + k ≤ a + n → writable ss x k ≡ true
writable_part [] a n x k h l u = absurd (false≢true h)
writable_part (s ∷ ss) a n x k h l u =
    elim (or_cases (s.writable && spans s a n) (writable ss a n) h) [
      | inl here ↦ let both = and_parts s.writable (spans s a n) here in let p = spans_facts s a n both.1 in or_left (s.writable && spans s x k) (writable ss x k) (and_from s.writable (spans s x k) both.0 (spans_from s x k (omega (arith, p)) (omega (arith, p))))
      | inr there ↦ or_right (s.writable && spans s x k) (writable ss x k) (writable_part ss a n x k there l u)
    ]

pub readable_written : (ss : List Shape) (a n : ℕ) → writable ss a n ≡ true → readable ss a n ≡ true
readable_written [] a n h = h
readable_written (s ∷ ss) a n h =
    elim (or_cases (s.writable && spans s a n) (writable ss a n) h) [
      | inl here ↦ or_left (spans s a n) (readable ss a n) (and_parts s.writable (spans s a n) here).1
      | inr there ↦ or_right (spans s a n) (readable ss a n) (readable_written ss a n there)
    ]

-- what a store of a word leaves
pub peek-poke_word_other : (m : List Region) (a w x : ℕ) → (x < a) ⊎ (a + 4 ≤ x) → peek (poke_word m a w) x ≡ peek m x
peek-poke_word_other m a w x far =
    let p : x ≢ a = omega (arith, far) in
    let q : x ≢ a + 1 = omega (arith, far) in
    let r : x ≢ a + 2 = omega (arith, far) in
    let s : x ≢ a + 3 = omega (arith, far) in
    peek-poke_other _ (a + 3) _ x s ∙ peek-poke_other _ (a + 2) _ x r ∙ peek-poke_other _ (a + 1) _ x q ∙ peek-poke_other m a _ x p

-- each byte of a word that is stored
readable_after : (m : List Region) (a v x k : ℕ) → readable (shapes m) x k ≡ true → readable (shapes (poke m a v)) x k ≡ true
readable_after m a v x k h = ap (λ (ss : List Shape). readable ss x k) (shapes-poke m a v) ∙ h

pub peek-poke_word_0 : (m : List Region) (a w : ℕ) → readable (shapes m) a 4 ≡ true → peek (poke_word m a w) a ≡ byte_of w 0
peek-poke_word_0 m a w h =
    let p : a ≢ a + 1 = omega arith in
    let q : a ≢ a + 2 = omega arith in
    let r : a ≢ a + 3 = omega arith in
    peek-poke_other _ (a + 3) _ a r ∙ peek-poke_other _ (a + 2) _ a q ∙ peek-poke_other _ (a + 1) _ a p
    ∙ peek-poke_same m a _ (readable_part _ a 4 a 1 h (omega arith) (omega arith))

pub peek-poke_word_1 : (m : List Region) (a w : ℕ) → readable (shapes m) a 4 ≡ true → peek (poke_word m a w) (a + 1) ≡ byte_of w 1
peek-poke_word_1 m a w h =
    let q : a + 1 ≢ a + 2 = omega arith in
    let r : a + 1 ≢ a + 3 = omega arith in
    peek-poke_other _ (a + 3) _ (a + 1) r ∙ peek-poke_other _ (a + 2) _ (a + 1) q
    ∙ peek-poke_same _ (a + 1) _ (readable_after m a _ (a + 1) 1 (readable_part _ a 4 (a + 1) 1 h (omega arith) (omega arith)))

pub peek-poke_word_2 : (m : List Region) (a w : ℕ) → readable (shapes m) a 4 ≡ true → peek (poke_word m a w) (a + 2) ≡ byte_of w 2
peek-poke_word_2 m a w h =
    let r : a + 2 ≢ a + 3 = omega arith in
    peek-poke_other _ (a + 3) _ (a + 2) r
    ∙ peek-poke_same _ (a + 2) _ (readable_after _ (a + 1) _ (a + 2) 1 (readable_after m a _ (a + 2) 1 (readable_part _ a 4 (a + 2) 1 h (omega arith) (omega arith))))

pub peek-poke_word_3 : (m : List Region) (a w : ℕ) → readable (shapes m) a 4 ≡ true → peek (poke_word m a w) (a + 3) ≡ byte_of w 3
peek-poke_word_3 m a w h =
    peek-poke_same _ (a + 3) _ (readable_after _ (a + 2) _ (a + 3) 1 (readable_after _ (a + 1) _ (a + 3) 1 (readable_after m a _ (a + 3) 1 (readable_part _ a 4 (a + 3) 1 h (omega arith) (omega arith)))))

-- a load of what was stored
pub peek_word-poke_word : (m : List Region) (a w : ℕ) → readable (shapes m) a 4 ≡ true → w < 2 ^ 32 → peek_word (poke_word m a w) a ≡ w
peek_word-poke_word m a w h small =
    ap (λ (x : ℕ). join x (peek (poke_word m a w) (a + 1)) (peek (poke_word m a w) (a + 2)) (peek (poke_word m a w) (a + 3))) (peek-poke_word_0 m a w h)
    ∙ ap (λ (x : ℕ). join (byte_of w 0) x (peek (poke_word m a w) (a + 2)) (peek (poke_word m a w) (a + 3))) (peek-poke_word_1 m a w h)
    ∙ ap (λ (x : ℕ). join (byte_of w 0) (byte_of w 1) x (peek (poke_word m a w) (a + 3))) (peek-poke_word_2 m a w h)
    ∙ ap (λ (x : ℕ). join (byte_of w 0) (byte_of w 1) (byte_of w 2) x) (peek-poke_word_3 m a w h)
    ∙ join-word_bytes w small

-- what a store changes, and what it does not
pub record Stored (m n : List Region) (a size w : ℕ) : Type 0 where
  pub shape : shapes n ≡ shapes m
  pub other : (x : ℕ) → (x < a) ⊎ (a + size ≤ x) → peek n x ≡ peek m x
  pub inside : (k : ℕ) → k < size → peek n (a + k) ≡ byte_of w k

word_inside : (m : List Region) (a w : ℕ) → readable (shapes m) a 4 ≡ true → (k : ℕ) → k < 4 → peek (poke_word m a w) (a + k) ≡ byte_of w k
word_inside m a w h zero l = let e : a + 0 ≡ a = omega arith in rw e (peek-poke_word_0 m a w h)
word_inside m a w h (suc zero) l = peek-poke_word_1 m a w h
word_inside m a w h (suc (suc zero)) l = peek-poke_word_2 m a w h
word_inside m a w h (suc (suc (suc zero))) l = peek-poke_word_3 m a w h
word_inside m a w h (suc (suc (suc (suc k)))) l = absurd (omega arith)

pub poke_word-Stored : (m : List Region) (a w : ℕ) → writable (shapes m) a 4 ≡ true → Stored m (poke_word m a w) a 4 w
poke_word-Stored m a w h = record {
  shape = shapes-poke_word m a w;
  other = λ x far. peek-poke_word_other m a w x far;
  inside = word_inside m a w (readable_written _ a 4 h);
}

byte_inside : (m : List Region) (a w : ℕ) → readable (shapes m) a 1 ≡ true → (k : ℕ) → k < 1 → peek (poke m a (byte_of w 0)) (a + k) ≡ byte_of w k
byte_inside m a w h zero l = let e : a + 0 ≡ a = omega arith in rw e (peek-poke_same m a (byte_of w 0) h)
byte_inside m a w h (suc k) l = absurd (omega arith)

pub poke-Stored : (m : List Region) (a w : ℕ) → writable (shapes m) a 1 ≡ true → Stored m (poke m a (byte_of w 0)) a 1 w
poke-Stored m a w h = record {
  shape = shapes-poke m a (byte_of w 0);
  other = λ x far. let ne : x ≢ a = omega (arith, far) in peek-poke_other m a (byte_of w 0) x ne;
  inside = byte_inside m a w (readable_written _ a 1 h);
}

-- every byte after a store: at the same place, beside it and where they overlap
pub Stored-at : (m n : List Region) (a size w y : ℕ) → Stored m n a size w → peek n y ≡ cond (leb a y && ltb y (a + size)) (byte_of w (y - a)) (peek m y)
Stored-at m n a size w y st =
    cond_both (leb a y && ltb y (a + size)) (byte_of w (y - a)) (peek m y) (λ (x : ℕ). peek n y ≡ x)
    (λ e.
    let p = and_parts (leb a y) (ltb y (a + size)) e in
    let low : a ≤ y = leb-true a y p.0 in
    let high : y < a + size = ltb-true y (a + size) p.1 in
    let at : a + (y - a) ≡ y = omega arith in
    subst (λ (x : ℕ). peek n x ≡ byte_of w (y - a)) at (st.inside (y - a) (omega arith)))
    (λ e. elim (and_cases (leb a y) (ltb y (a + size)) e) [
      | inl off ↦ st.other y (inl (leb-false a y off))
      | inr off ↦ st.other y (inr (ltb-false y (a + size) off))
    ])

apart_push : (s t : Shape) (ss : List Shape) → ApartFrom s ss → Apart s t → ApartFrom s (ss ++ t ∷ [])
apart_push s t [] h k = (k, tt)
apart_push s t (u ∷ ss) h k = (h.0, apart_push s t ss h.1 k)

flip : (s t : Shape) → Apart s t → Apart t s
flip s t (inl h) = inr h
flip s t (inr h) = inl h

-- regions stay disjoint with one more that is apart from all
pub disjoint_push : (s : Shape) (ss : List Shape) → Disjoint ss → ApartFrom s ss → Disjoint (ss ++ s ∷ [])
disjoint_push s [] d h = (tt, tt)
disjoint_push s (t ∷ ss) d h = (apart_push t s ss d.0 (flip s t h.0), disjoint_push s ss d.1 h.1)
