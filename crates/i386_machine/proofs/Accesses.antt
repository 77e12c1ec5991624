-- What the code's accesses are on regions.
use Rattle.std.proofs.Common.{drop, cond, ◌++◌, ◌≡◌, ℕ, ◌+◌, ◌-◌, ◌<◌, ◌≤◌, List, [], ◌∷◌, length, get_or, set, map, true, false, Some, None, slice_get, arith, refl, ap, sym, ◌∙◌, zero, suc}
use Rattle.std.proofs.lemmas.List.{get_or-map, length-map, map-set}
use Rattle.std.proofs.lemmas.Option.{slice_get_read}
use Rattle.std.proofs.lemmas.Bool.{cond-true, cond-false}
use Rattle.cc_base.specs.Words.{join, byte_of}
use Rattle.i386_machine.specs.declared.memory.Piece.{Piece}
use Rattle.i386_machine.specs.Pieces.{region_of, HasNone, HasAt, EndsWithin}
use Rattle.i386_machine.specs.Regions.{fetch, Shape, Region, shape_of, shapes, spans, readable, writable, word_at, held_word_at, byte_at, store_word, store_byte, Disjoint}
use Rattle.i386_machine.specs.laws.Regions.{spans_facts}
use Rattle.i386_machine.specs.laws.At.{readable_one, readable_none, writable_none, writable_one, peek_one, peek_word_one, poke_one, poke_word_one, shapes-set, fetch_none, fetch_one}

pub region_at : (ps : List Piece) (i : ℕ) (p : Piece) → i < length ps → p ≡ get_or ps i p → slice_get (map region_of ps) i ≡ Some (region_of p)
region_at ps i p l e =
    let within : i < length (map region_of ps) = omega (arith, length-map ps region_of) in
    slice_get_read (map region_of ps) (length (map region_of ps)) i (region_of p) refl within (ap region_of e ∙ sym (get_or-map region_of ps i p (region_of p) l))

none_at : (ps : List Piece) (a n : ℕ) → HasNone ps a n → (i : ℕ) (r : Region) → slice_get (map region_of ps) i ≡ Some r → spans (shape_of r) a n ≡ false
none_at [] a n h i r e = cc
none_at (p ∷ ps) a n h zero r e = let same : region_of p ≡ r = cc in ap (λ (x : Region). spans (shape_of x) a n) (sym same) ∙ h 0 (omega arith) p
none_at (p ∷ ps) a n h (suc i) r e = none_at ps a n (λ k l d. h (suc k) (omega arith) d) i r e

module _ (ps : List Piece) (a : ℕ) where
  pub load_word_none : HasNone ps a 4 → word_at (map region_of ps) a ≡ None
  load_word_none h = cond-false (readable (shapes (map region_of ps)) a 4) _ _ (readable_none a 4 (omega arith) (map region_of ps) (none_at ps a 4 h))

  pub held_word_none : HasNone ps a 4 → held_word_at (map region_of ps) a ≡ None
  held_word_none h = cond-false (writable (shapes (map region_of ps)) a 4) _ _ (writable_none a 4 (omega arith) (map region_of ps) (none_at ps a 4 h))

  pub load_byte_none : HasNone ps a 1 → byte_at (map region_of ps) a ≡ None
  load_byte_none h = cond-false (readable (shapes (map region_of ps)) a 1) _ _ (readable_none a 1 (omega arith) (map region_of ps) (none_at ps a 1 h))

  pub store_word_none : (w : ℕ) → HasNone ps a 4 → store_word (map region_of ps) a w ≡ None
  store_word_none w h = cond-false (writable (shapes (map region_of ps)) a 4) _ _ (writable_none a 4 (omega arith) (map region_of ps) (none_at ps a 4 h))

  pub store_byte_none : (w : ℕ) → HasNone ps a 1 → store_byte (map region_of ps) a w ≡ None
  store_byte_none w h = cond-false (writable (shapes (map region_of ps)) a 1) _ _ (writable_none a 1 (omega arith) (map region_of ps) (none_at ps a 1 h))

  pub is_writable_none : HasNone ps a 1 → writable (shapes (map region_of ps)) a 1 ≡ false
  is_writable_none h = writable_none a 1 (omega arith) (map region_of ps) (none_at ps a 1 h)

  pub code_none : HasNone ps a 1 → fetch (map region_of ps) a ≡ None
  code_none h = fetch_none (map region_of ps) a (none_at ps a 1 h)

  module _ (i : ℕ) (p : Piece) (disjoint : Disjoint (shapes (map region_of ps))) (e : p ≡ get_or ps i p) where
    spans_at : (n : ℕ) → HasAt ps a n i → spans (shape_of (region_of p)) a n ≡ true
    spans_at n h = ap (λ (q : Piece). spans (shape_of (region_of q)) a n) e ∙ h.has p

    pub load_word_at : HasAt ps a 4 i → word_at (map region_of ps) a ≡ Some (join (get_or p.bytes.items (a - p.base) 0) (get_or p.bytes.items (a - p.base + 1) 0) (get_or p.bytes.items (a - p.base + 2) 0) (get_or p.bytes.items (a - p.base + 3) 0))
    load_word_at h =
        let at = region_at ps i p h.within e in
        cond-true (readable (shapes (map region_of ps)) a 4) _ _ (readable_one a 4 (omega arith) (map region_of ps) i (region_of p) at (spans_at 4 h))
        ∙ ap (λ (x : ℕ). Some x) (peek_word_one (map region_of ps) i (region_of p) a disjoint at (spans_at 4 h))

    pub held_word_refused : HasAt ps a 4 i → p.writable ≡ false → held_word_at (map region_of ps) a ≡ None
    held_word_refused h cannot =
        let at = region_at ps i p h.within e in
        cond-false (writable (shapes (map region_of ps)) a 4) _ _ (writable_one a 4 (omega arith) (map region_of ps) i (region_of p) disjoint at (spans_at 4 h) ∙ cannot)

    pub held_word_found : HasAt ps a 4 i → p.writable ≡ true → held_word_at (map region_of ps) a ≡ Some (join (get_or p.bytes.items (a - p.base) 0) (get_or p.bytes.items (a - p.base + 1) 0) (get_or p.bytes.items (a - p.base + 2) 0) (get_or p.bytes.items (a - p.base + 3) 0))
    held_word_found h can =
        let at = region_at ps i p h.within e in
        cond-true (writable (shapes (map region_of ps)) a 4) _ _ (writable_one a 4 (omega arith) (map region_of ps) i (region_of p) disjoint at (spans_at 4 h) ∙ can)
        ∙ ap (λ (x : ℕ). Some x) (peek_word_one (map region_of ps) i (region_of p) a disjoint at (spans_at 4 h))

    pub load_byte_at : HasAt ps a 1 i → byte_at (map region_of ps) a ≡ Some (get_or p.bytes.items (a - p.base) 0)
    load_byte_at h =
        let at = region_at ps i p h.within e in
        cond-true (readable (shapes (map region_of ps)) a 1) _ _ (readable_one a 1 (omega arith) (map region_of ps) i (region_of p) at (spans_at 1 h))
        ∙ ap (λ (x : ℕ). Some x) (peek_one (map region_of ps) i (region_of p) a disjoint at (spans_at 1 h))

    pub store_word_refused : (w : ℕ) → HasAt ps a 4 i → p.writable ≡ false → store_word (map region_of ps) a w ≡ None
    store_word_refused w h cannot =
        let at = region_at ps i p h.within e in
        cond-false (writable (shapes (map region_of ps)) a 4) _ _ (writable_one a 4 (omega arith) (map region_of ps) i (region_of p) disjoint at (spans_at 4 h) ∙ cannot)

    pub store_byte_refused : (w : ℕ) → HasAt ps a 1 i → p.writable ≡ false → store_byte (map region_of ps) a w ≡ None
    store_byte_refused w h cannot =
        let at = region_at ps i p h.within e in
        cond-false (writable (shapes (map region_of ps)) a 1) _ _ (writable_one a 1 (omega arith) (map region_of ps) i (region_of p) disjoint at (spans_at 1 h) ∙ cannot)

    pub is_writable_at : HasAt ps a 1 i → writable (shapes (map region_of ps)) a 1 ≡ p.writable
    is_writable_at h = writable_one a 1 (omega arith) (map region_of ps) i (region_of p) disjoint (region_at ps i p h.within e) (spans_at 1 h)

    pub code_at : HasAt ps a 1 i → fetch (map region_of ps) a ≡ cond p.executable (Some (drop (a - p.base) p.bytes.items)) None
    code_at h = fetch_one (map region_of ps) i (region_of p) a disjoint (region_at ps i p h.within e) (spans_at 1 h)

    -- q is p with other bytes
    pub store_word_at : (w : ℕ) (q : Piece) (xs : List ℕ) → HasAt ps a 4 i → p.writable ≡ true → region_of q ≡ record (region_of p) { bytes = xs } → xs ≡ set (set (set (set p.bytes.items (a - p.base) (byte_of w 0)) (a - p.base + 1) (byte_of w 1)) (a - p.base + 2) (byte_of w 2)) (a - p.base + 3) (byte_of w 3) → store_word (map region_of ps) a w ≡ Some (map region_of (set ps i q))
    store_word_at w q xs h can is bytes =
        let at = region_at ps i p h.within e in
        cond-true (writable (shapes (map region_of ps)) a 4) _ _ (writable_one a 4 (omega arith) (map region_of ps) i (region_of p) disjoint at (spans_at 4 h) ∙ can)
        ∙ ap (λ (x : List Region). Some x) (poke_word_one (map region_of ps) i (region_of p) a w disjoint at (spans_at 4 h) ∙ ap (λ (ys : List ℕ). set (map region_of ps) i (record (region_of p) { bytes = ys })) (sym bytes) ∙ ap (set (map region_of ps) i) (sym is) ∙ sym (map-set region_of ps i q))

    pub store_byte_at : (w : ℕ) (q : Piece) (xs : List ℕ) → HasAt ps a 1 i → p.writable ≡ true → region_of q ≡ record (region_of p) { bytes = xs } → xs ≡ set p.bytes.items (a - p.base) (byte_of w 0) → store_byte (map region_of ps) a w ≡ Some (map region_of (set ps i q))
    store_byte_at w q xs h can is bytes =
        let at = region_at ps i p h.within e in
        cond-true (writable (shapes (map region_of ps)) a 1) _ _ (writable_one a 1 (omega arith) (map region_of ps) i (region_of p) disjoint at (spans_at 1 h) ∙ can)
        ∙ ap (λ (x : List Region). Some x) (poke_one (map region_of ps) i (region_of p) a (byte_of w 0) disjoint at (spans_at 1 h) ∙ ap (λ (ys : List ℕ). set (map region_of ps) i (record (region_of p) { bytes = ys })) (sym bytes) ∙ ap (set (map region_of ps) i) (sym is) ∙ sym (map-set region_of ps i q))

    pub same_shapes : (n : ℕ) (q : Piece) (xs : List ℕ) → HasAt ps a n i → region_of q ≡ record (region_of p) { bytes = xs } → length xs ≡ length p.bytes.items → shapes (map region_of ps) ≡ shapes (map region_of (set ps i q))
    same_shapes n q xs h is long =
        let at = region_at ps i p h.within e in
        let shape : shape_of (region_of q) ≡ shape_of (region_of p) = ap shape_of is ∙ ap (λ (k : ℕ). record { base = p.base; size = k; writable = p.writable; executable = p.executable }) long in
        sym (ap shapes (map-set region_of ps i q) ∙ shapes-set (map region_of ps) i (region_of p) (region_of q) at shape)

pub byte_inside : (ps : List Piece) (a i : ℕ) (p : Piece) → p ≡ get_or ps i p → (n : ℕ) → HasAt ps a (suc n) i → a - p.base < length p.bytes.items
byte_inside ps a i p e n h =
    let has : spans (shape_of (region_of p)) a (suc n) ≡ true = ap (λ (q : Piece). spans (shape_of (region_of q)) a (suc n)) e ∙ h.has p in
    let f = spans_facts (shape_of (region_of p)) a (suc n) has in
    omega (arith, f)

pub shapes_push : (ps : List Piece) (p : Piece) → shapes (map region_of (ps ++ p ∷ [])) ≡ shapes (map region_of ps) ++ shape_of (region_of p) ∷ []
shapes_push [] p = refl
shapes_push (q ∷ ps) p = ap (λ (ss : List Shape). shape_of (region_of q) ∷ ss) (shapes_push ps p)

pub ends_push : (s : Shape) (ss : List Shape) → EndsWithin ss → s.base + s.size ≤ 4294967296 → EndsWithin (ss ++ s ∷ [])
ends_push s [] h k = (k, tt)
ends_push s (t ∷ ss) h k = (h.0, ends_push s ss h.1 k)
