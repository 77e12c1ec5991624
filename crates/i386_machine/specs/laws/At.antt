-- Accesses where it is known which region has the addresses.
use Rattle.std.specs.Prelude.{◌≡◌, ℕ, zero, suc, ◌+◌, ◌-◌, ◌<◌, ◌≤◌, Bool, true, false, ◌&&◌, ◌||◌, cond, List, [], ◌∷◌, length, get_or, set, drop, Option, Some, None, slice_get}
use Rattle.std.proofs.Common.{arith, ◌∙◌, ap, sym, refl, subst, length-set, inl, inr}
use Rattle.std.proofs.lemmas.List.{set-set}
use Rattle.std.proofs.lemmas.Bool.{cond-true, cond-false, false_from_ne_true, or_left, or_right, or_from, and_right}
use Rattle.cc_base.specs.Words.{byte_of, join}
use Rattle.i386_machine.specs.Regions.{Region, Shape, shape_of, shapes, spans, readable, writable, peek, poke, peek_word, poke_word, fetch, Apart, ApartFrom, Disjoint}
use Rattle.i386_machine.specs.laws.Regions.{spans_facts, spans_from, shapes-poke}

apart_at : (s : Shape) (m : List Region) (i : ℕ) (r : Region) → ApartFrom s (shapes m) → slice_get m i ≡ Some r → Apart s (shape_of r)
apart_at s [] i r h e = cc
apart_at s (q ∷ m) zero r h e = let same : q ≡ r = cc in subst (λ (x : Region). Apart s (shape_of x)) same h.0
apart_at s (q ∷ m) (suc i) r h e = apart_at s m i r h.1 e

-- no other region has any of the addresses
pub not_both : (s t : Shape) (a n : ℕ) → Apart s t → spans t a n ≡ true → 0 < n → spans s a n ≡ false
not_both s t a n apart h some =
    false_from_ne_true (spans s a n) (λ w.
    let p = spans_facts t a n h in
    let q = spans_facts s a n w in
    elim apart [ inl u ↦ omega (arith, p, q) | inr u ↦ omega (arith, p, q) ])

module _ (a n : ℕ) (some : 0 < n) where
  pub readable_one : (m : List Region) (i : ℕ) (r : Region) → slice_get m i ≡ Some r → spans (shape_of r) a n ≡ true → readable (shapes m) a n ≡ true
  readable_one [] i r e h = cc
  readable_one (q ∷ m) zero r e h = let same : q ≡ r = cc in or_left (spans (shape_of q) a n) (readable (shapes m) a n) (ap (λ (x : Region). spans (shape_of x) a n) same ∙ h)
  readable_one (q ∷ m) (suc i) r e h = or_right (spans (shape_of q) a n) (readable (shapes m) a n) (readable_one m i r e h)

  pub readable_none : (m : List Region) → ((i : ℕ) (r : Region) → slice_get m i ≡ Some r → spans (shape_of r) a n ≡ false) → readable (shapes m) a n ≡ false
  readable_none [] h = refl
  readable_none (q ∷ m) h = or_from (spans (shape_of q) a n) (readable (shapes m) a n) (h 0 q refl) (readable_none m (λ i r e. h (suc i) r e))

  pub writable_none : (m : List Region) → ((i : ℕ) (r : Region) → slice_get m i ≡ Some r → spans (shape_of r) a n ≡ false) → writable (shapes m) a n ≡ false
  writable_none [] h = refl
  writable_none (q ∷ m) h = or_from (q.writable && spans (shape_of q) a n) (writable (shapes m) a n) (and_right q.writable (spans (shape_of q) a n) (h 0 q refl)) (writable_none m (λ i r e. h (suc i) r e))

  -- in a list that is disjoint, what comes after a region that has the addresses has none of them
  none_after : (q : Region) (m : List Region) → ApartFrom (shape_of q) (shapes m) → spans (shape_of q) a n ≡ true → (i : ℕ) (r : Region) → slice_get m i ≡ Some r → spans (shape_of r) a n ≡ false
  none_after q m apart h i r e = let p = apart_at (shape_of q) m i r apart e in not_both (shape_of r) (shape_of q) a n (elim p [ inl u ↦ inr u | inr u ↦ inl u ]) h some

  pub writable_one : (m : List Region) (i : ℕ) (r : Region) → Disjoint (shapes m) → slice_get m i ≡ Some r → spans (shape_of r) a n ≡ true → writable (shapes m) a n ≡ r.writable
  writable_one [] i r d e h = cc
  writable_one (q ∷ m) zero r d e h =
      let same : q ≡ r = cc in
      let here : spans (shape_of q) a n ≡ true = ap (λ (x : Region). spans (shape_of x) a n) same ∙ h in
      let rest : writable (shapes m) a n ≡ false = writable_none m (none_after q m d.0 here) in
      ap (λ (x : Bool). (q.writable && x) || writable (shapes m) a n) here ∙ ap (λ (x : Bool). (q.writable && true) || x) rest ∙ just q.writable ∙ ap (λ (x : Region). x.writable) same
    where
      just : (b : Bool) → ((b && true) || false) ≡ b
      just true = refl
      just false = refl
  writable_one (q ∷ m) (suc i) r d e h =
      let off : spans (shape_of q) a n ≡ false = not_both (shape_of q) (shape_of r) a n (apart_at (shape_of q) m i r d.0 e) h some in
      ap (λ (x : Bool). (q.writable && x) || writable (shapes m) a n) off ∙ none q.writable (writable (shapes m) a n) ∙ writable_one m i r d.1 e h
    where
      none : (b c : Bool) → ((b && false) || c) ≡ c
      none true c = refl
      none false c = refl

pub peek_one : (m : List Region) (i : ℕ) (r : Region) (a : ℕ) → Disjoint (shapes m) → slice_get m i ≡ Some r → spans (shape_of r) a 1 ≡ true → peek m a ≡ get_or r.bytes (a - r.base) 0
peek_one [] i r a d e h = cc
peek_one (q ∷ m) zero r a d e h =
    let same : q ≡ r = cc in
    subst (λ (x : Region). spans (shape_of x) a 1 ≡ true → peek (x ∷ m) a ≡ get_or r.bytes (a - r.base) 0) (sym same) (λ w. cond-true (spans (shape_of r) a 1) (get_or r.bytes (a - r.base) 0) (peek m a) w) (ap (λ (x : Region). spans (shape_of x) a 1) same ∙ h)
peek_one (q ∷ m) (suc i) r a d e h =
    let off : spans (shape_of q) a 1 ≡ false = not_both (shape_of q) (shape_of r) a 1 (apart_at (shape_of q) m i r d.0 e) h (omega arith) in
    cond-false (spans (shape_of q) a 1) (get_or q.bytes (a - q.base) 0) (peek m a) off ∙ peek_one m i r a d.1 e h

pub poke_one : (m : List Region) (i : ℕ) (r : Region) (a v : ℕ) → Disjoint (shapes m) → slice_get m i ≡ Some r → spans (shape_of r) a 1 ≡ true → poke m a v ≡ set m i (record r { bytes = set r.bytes (a - r.base) v })
poke_one [] i r a v d e h = cc
poke_one (q ∷ m) zero r a v d e h =
    let same : q ≡ r = cc in
    subst (λ (x : Region). poke (x ∷ m) a v ≡ record r { bytes = set r.bytes (a - r.base) v } ∷ m) (sym same) (cond-true (spans (shape_of r) a 1) (record r { bytes = set r.bytes (a - r.base) v } ∷ m) (r ∷ poke m a v) h)
poke_one (q ∷ m) (suc i) r a v d e h =
    let off : spans (shape_of q) a 1 ≡ false = not_both (shape_of q) (shape_of r) a 1 (apart_at (shape_of q) m i r d.0 e) h (omega arith) in
    cond-false (spans (shape_of q) a 1) (record q { bytes = set q.bytes (a - q.base) v } ∷ m) (q ∷ poke m a v) off ∙ ap (λ (x : List Region). q ∷ x) (poke_one m i r a v d.1 e h)

spans_part : (s : Shape) (a n x k : ℕ) → spans s a n ≡ true → a ≤ x → x + k ≤ a + n → spans s x k ≡ true
spans_part s a n x k h l u = let p = spans_facts s a n h in spans_from s x k (omega (arith, p)) (omega (arith, p))

-- a word where it is known which region has it
pub peek_word_one : (m : List Region) (i : ℕ) (r : Region) (a : ℕ) → Disjoint (shapes m) → slice_get m i ≡ Some r → spans (shape_of r) a 4 ≡ true → peek_word m a ≡ join (get_or r.bytes (a - r.base) 0) (get_or r.bytes (a - r.base + 1) 0) (get_or r.bytes (a - r.base + 2) 0) (get_or r.bytes (a - r.base + 3) 0)
peek_word_one m i r a d e h =
    let f = spans_facts (shape_of r) a 4 h in
    let s = shape_of r in
    let at_1 : a + 1 - r.base ≡ a - r.base + 1 = omega (arith, f) in
    let at_2 : a + 2 - r.base ≡ a - r.base + 2 = omega (arith, f) in
    let at_3 : a + 3 - r.base ≡ a - r.base + 3 = omega (arith, f) in
    let b_0 = peek_one m i r a d e (spans_part s a 4 a 1 h (omega arith) (omega arith)) in
    let b_1 = peek_one m i r (a + 1) d e (spans_part s a 4 (a + 1) 1 h (omega arith) (omega arith)) ∙ ap (λ (x : ℕ). get_or r.bytes x 0) at_1 in
    let b_2 = peek_one m i r (a + 2) d e (spans_part s a 4 (a + 2) 1 h (omega arith) (omega arith)) ∙ ap (λ (x : ℕ). get_or r.bytes x 0) at_2 in
    let b_3 = peek_one m i r (a + 3) d e (spans_part s a 4 (a + 3) 1 h (omega arith) (omega arith)) ∙ ap (λ (x : ℕ). get_or r.bytes x 0) at_3 in
    cc

-- a store where it is known which region has the addresses
pub poke_word_one : (m : List Region) (i : ℕ) (r : Region) (a w : ℕ) → Disjoint (shapes m) → slice_get m i ≡ Some r → spans (shape_of r) a 4 ≡ true → poke_word m a w ≡ set m i (record r { bytes = set (set (set (set r.bytes (a - r.base) (byte_of w 0)) (a - r.base + 1) (byte_of w 1)) (a - r.base + 2) (byte_of w 2)) (a - r.base + 3) (byte_of w 3) })
poke_word_one m i r a w d e h =
    let o = a - r.base in
    let f = spans_facts (shape_of r) a 4 h in
    let b_1 = set r.bytes o (byte_of w 0) in
    let b_2 = set b_1 (o + 1) (byte_of w 1) in
    let b_3 = set b_2 (o + 2) (byte_of w 2) in
    let r_1 : Region = record r { bytes = b_1 } in
    let r_2 : Region = record r { bytes = b_2 } in
    let r_3 : Region = record r { bytes = b_3 } in
    let at_1 : a + 1 - r.base ≡ o + 1 = omega (arith, f) in
    let at_2 : a + 2 - r.base ≡ o + 2 = omega (arith, f) in
    let at_3 : a + 3 - r.base ≡ o + 3 = omega (arith, f) in
    let l_1 : length b_1 ≡ length r.bytes = length-set r.bytes o (byte_of w 0) in
    let l_2 : length b_2 ≡ length r.bytes = length-set b_1 (o + 1) (byte_of w 1) ∙ l_1 in
    let l_3 : length b_3 ≡ length r.bytes = length-set b_2 (o + 2) (byte_of w 2) ∙ l_2 in
    let sp : (x : ℕ) (q : List ℕ) → length q ≡ length r.bytes → a ≤ x → x < a + 4 → spans (shape_of (record r { bytes = q })) x 1 ≡ true = λ x q l u v. spans_from (shape_of (record r { bytes = q })) x 1 (omega (arith, f)) (omega (arith, f, l)) in
    let go : (n : List Region) (q : List ℕ) (x k v : ℕ) → n ≡ set m i (record r { bytes = q }) → Disjoint (shapes n) → length q ≡ length r.bytes → a ≤ x → x < a + 4 → x - r.base ≡ k → poke n x v ≡ set m i (record r { bytes = set q k v }) = λ n q x k v is dn l u s at.
    poke_one n i (record r { bytes = q }) x v dn (ap (λ (y : List Region). slice_get y i) is ∙ get_set m i r (record r { bytes = q }) e) (sp x q l u s)
    ∙ ap (λ (y : List Region). set y i (record r { bytes = set q (x - r.base) v })) is ∙ set-set m i _ _ ∙ ap (λ (y : ℕ). set m i (record r { bytes = set q y v })) at in
    let m_1 = poke m a (byte_of w 0) in
    let m_2 = poke m_1 (a + 1) (byte_of w 1) in
    let m_3 = poke m_2 (a + 2) (byte_of w 2) in
    let d_1 : Disjoint (shapes m_1) = subst Disjoint (sym (shapes-poke m a (byte_of w 0))) d in
    let d_2 : Disjoint (shapes m_2) = subst Disjoint (sym (shapes-poke m_1 (a + 1) (byte_of w 1))) d_1 in
    let d_3 : Disjoint (shapes m_3) = subst Disjoint (sym (shapes-poke m_2 (a + 2) (byte_of w 2))) d_2 in
    let s_1 : m_1 ≡ set m i r_1 = poke_one m i r a (byte_of w 0) d e (spans_part (shape_of r) a 4 a 1 h (omega arith) (omega arith)) in
    let s_2 : m_2 ≡ set m i r_2 = go m_1 b_1 (a + 1) (o + 1) (byte_of w 1) s_1 d_1 l_1 (omega arith) (omega arith) at_1 in
    let s_3 : m_3 ≡ set m i r_3 = go m_2 b_2 (a + 2) (o + 2) (byte_of w 2) s_2 d_2 l_2 (omega arith) (omega arith) at_2 in
    go m_3 b_3 (a + 3) (o + 3) (byte_of w 3) s_3 d_3 l_3 (omega arith) (omega arith) at_3
  where
    get_set : (n : List Region) (j : ℕ) (x y : Region) → slice_get n j ≡ Some x → slice_get (set n j y) j ≡ Some y
    get_set [] j x y u = cc
    get_set (z ∷ n) zero x y u = refl
    get_set (z ∷ n) (suc j) x y u = get_set n j x y u

-- a region of the same shape in the place of another
pub shapes-set : (m : List Region) (i : ℕ) (r q : Region) → slice_get m i ≡ Some r → shape_of q ≡ shape_of r → shapes (set m i q) ≡ shapes m
shapes-set [] i r q e h = refl
shapes-set (z ∷ m) zero r q e h = let same : z ≡ r = cc in ap (λ (s : Shape). s ∷ shapes m) (h ∙ ap shape_of (sym same))
shapes-set (z ∷ m) (suc i) r q e h = ap (λ (ss : List Shape). shape_of z ∷ ss) (shapes-set m i r q e h)

-- the code at an address that no region has, and at one that a region has
pub fetch_none : (m : List Region) (a : ℕ) → ((i : ℕ) (r : Region) → slice_get m i ≡ Some r → spans (shape_of r) a 1 ≡ false) → fetch m a ≡ None
fetch_none [] a h = refl
fetch_none (q ∷ m) a h =
    cond-false (q.executable && spans (shape_of q) a 1) (Some (drop (a - q.base) q.bytes)) (fetch m a) (and_right q.executable (spans (shape_of q) a 1) (h 0 q refl))
    ∙ fetch_none m a (λ i r e. h (suc i) r e)

pub fetch_one : (m : List Region) (i : ℕ) (r : Region) (a : ℕ) → Disjoint (shapes m) → slice_get m i ≡ Some r → spans (shape_of r) a 1 ≡ true → fetch m a ≡ cond r.executable (Some (drop (a - r.base) r.bytes)) None
fetch_one [] i r a d e h = cc
fetch_one (q ∷ m) zero r a d e h =
    let same : q ≡ r = cc in
    let here : spans (shape_of q) a 1 ≡ true = ap (λ (x : Region). spans (shape_of x) a 1) same ∙ h in
    let rest : fetch m a ≡ None = fetch_none m a (none_after a 1 (omega arith) q m d.0 here) in
    ap (λ (x : Bool). cond (q.executable && x) (Some (drop (a - q.base) q.bytes)) (fetch m a)) here
    ∙ ap (λ (x : Option (List ℕ)). cond (q.executable && true) (Some (drop (a - q.base) q.bytes)) x) rest
    ∙ ap (λ (x : Bool). cond x (Some (drop (a - q.base) q.bytes)) None) (just q.executable)
    ∙ ap (λ (x : Region). cond x.executable (Some (drop (a - x.base) x.bytes)) None) same
  where
    just : (b : Bool) → (b && true) ≡ b
    just true = refl
    just false = refl
fetch_one (q ∷ m) (suc i) r a d e h =
    let off : spans (shape_of q) a 1 ≡ false = not_both (shape_of q) (shape_of r) a 1 (apart_at (shape_of q) m i r d.0 e) h (omega arith) in
    cond-false (q.executable && spans (shape_of q) a 1) (Some (drop (a - q.base) q.bytes)) (fetch m a) (and_right q.executable (spans (shape_of q) a 1) off)
    ∙ fetch_one m i r a d.1 e h
