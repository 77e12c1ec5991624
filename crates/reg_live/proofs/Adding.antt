-- What is added by one call after another.
use Rattle.std.specs.Prelude.{◌≡◌, ◌≢◌, ℕ, ◌<◌, ◌⊎◌, ◌||◌, ◌&&◌, not, eqb, Bool, true, false, List, [], ◌∷◌, ◌++◌}
use Rattle.std.specs.List.{Contains}
use Rattle.std.proofs.Common.{refl, sym, ◌∙◌, ap, subst, arith, inl, inr, ne_eqb}
use Rattle.std.proofs.lemmas.Bool.{eq-eqb}
use Rattle.std.proofs.lemmas.List.Elements.{Contains-append_cases, Contains-append_left, Contains-append_right}
use Rattle.flow_walks.specs.laws.Members.{none_in, first_in, only_in}
use Rattle.bit_rows.specs.Rows.{Rows, height, has}
use Rattle.reg_live.specs.Sweeps.{clear, Adds, InRow, Unwritten}
use Rattle.reg_live.proofs.Clear.{same_or_not, clear_falls}

-- nothing
pub adds_none : (P : ℕ → ℕ → Type 0) (rows : Rows) → ((n k : ℕ) → ¬ P n k) → Adds P rows rows false
adds_none P rows none = record {
  high = refl;
  wide = refl;
  there = λ n k p. absurd (none n k p);
  kept = λ n k h. h;
  only = λ n k h. inl h;
  still = λ _. refl;
  falls = λ e. let bad : false ≡ true = e in cc;
}

-- the same in other words
pub adds_as : (P Q : ℕ → ℕ → Type 0) (old new : Rows) (changed : Bool) → ((n k : ℕ) → P n k → Q n k) → ((n k : ℕ) → Q n k → P n k) → Adds P old new changed → Adds Q old new changed
adds_as P Q old new changed there back a = record {
  high = a.high;
  wide = a.wide;
  there = λ n k q. a.there n k (back n k q);
  kept = a.kept;
  only = λ n k h. elim (a.only n k h) [ inl was ↦ inl was | inr p ↦ inr (there n k p) ];
  still = a.still;
  falls = a.falls;
}

still_then : (old mid new : Rows) (a b : Bool) → (a ≡ false → mid ≡ old) → (b ≡ false → new ≡ mid) → (a || b) ≡ false → new ≡ old
still_then old mid new false false f g e = g refl ∙ f refl
still_then old mid new false true f g e = cc
still_then old mid new true b f g e = cc

falls_then : (old mid new : Rows) (a b : Bool) → (a ≡ false → mid ≡ old) → (b ≡ false → new ≡ mid) → (a ≡ true → clear mid < clear old) → (b ≡ true → clear new < clear mid) → (a || b) ≡ true → clear new < clear old
falls_then old mid new false false f g h i e = cc
falls_then old mid new false true f g h i e = let same : clear mid ≡ clear old = ap clear (f refl) in omega (arith, same, i refl)
falls_then old mid new true false f g h i e = let same : clear new ≡ clear mid = ap clear (g refl) in omega (arith, same, h refl)
falls_then old mid new true true f g h i e = omega (arith, h refl, i refl)

pub changes_then : (old mid new : Rows) (a b : Bool) → (a ≡ false → mid ≡ old) → (b ≡ false → new ≡ mid) → (a ≡ true → clear mid < clear old) → (b ≡ true → clear new < clear mid) → ((a || b) ≡ false → new ≡ old) × ((a || b) ≡ true → clear new < clear old)
changes_then old mid new a b f g h i = (still_then old mid new a b f g, falls_then old mid new a b f g h i)

-- one after another
pub adds_then : (P Q : ℕ → ℕ → Type 0) (old mid new : Rows) (a b : Bool) → Adds P old mid a → Adds Q mid new b → Adds (λ n k. P n k ⊎ Q n k) old new (a || b)
adds_then P Q old mid new a b x y = record {
  high = y.high ∙ x.high;
  wide = y.wide ∙ x.wide;
  there = λ n k added. elim added [ inl p ↦ y.kept n k (x.there n k p) | inr q ↦ y.there n k q ];
  kept = λ n k h. y.kept n k (x.kept n k h);
  only = λ n k h. elim (y.only n k h) [
    | inl was ↦ elim (x.only n k was) [ inl older ↦ inl older | inr p ↦ inr (inl p) ]
    | inr q ↦ inr (inr q)
  ];
  still = still_then old mid new a b x.still y.still;
  falls = falls_then old mid new a b x.still y.still x.falls y.falls;
}

-- lists that come into one row
pub in_row_then : (row : ℕ) (xs ys : List ℕ) (old mid new : Rows) (a b : Bool) → Adds (InRow row xs) old mid a → Adds (InRow row ys) mid new b → Adds (InRow row (xs ++ ys)) old new (a || b)
in_row_then row xs ys old mid new a b x y =
    adds_as (λ n k. InRow row xs n k ⊎ InRow row ys n k) (InRow row (xs ++ ys)) old new (a || b)
    (λ n k p. elim p [ inl first ↦ (first.0, Contains-append_left xs ys k first.1) | inr second ↦ (second.0, Contains-append_right xs ys k second.1) ])
    (λ n k q. elim (Contains-append_cases xs ys k q.1) [ inl first ↦ inl (q.0, first) | inr second ↦ inr (q.0, second) ])
    (adds_then (InRow row xs) (InRow row ys) old mid new a b x y)

pub in_row_none : (row : ℕ) (rows : Rows) → Adds (InRow row []) rows rows false
in_row_none row rows = adds_none (InRow row []) rows (λ n k p. none_in k p.1)

-- one bit
pub record Inserted (row bit : ℕ) (old new : Rows) (changed : Bool) : Type 0 where
  pub high : height new ≡ height old
  pub wide : new.width ≡ old.width
  pub set : has new row bit ≡ true
  pub others : (n k : ℕ) → ¬ ((n ≡ row) × (k ≡ bit)) → has new n k ≡ has old n k
  pub changed_is : changed ≡ true → has old row bit ≡ false
  pub unchanged : changed ≡ false → new ≡ old

-- it is that bit or another one
that_or_not : (row bit n k : ℕ) → ((n ≡ row) × (k ≡ bit)) ⊎ (¬ ((n ≡ row) × (k ≡ bit)))
that_or_not row bit n k = elim (same_or_not n row) [
  | inl same ↦ elim (same_or_not k bit) [ inl also ↦ inl (same, also) | inr other ↦ inr (λ p. other p.1) ]
  | inr other ↦ inr (λ p. other p.0)
]

has_at : (v : Rows) (row bit n k : ℕ) → n ≡ row → k ≡ bit → has v n k ≡ has v row bit
has_at v row bit n k e f = ap (λ (m : ℕ). has v m k) e ∙ ap (λ (j : ℕ). has v row j) f

inserted_kept : (row bit : ℕ) (old new : Rows) (changed : Bool) → Inserted row bit old new changed → (n k : ℕ) → has old n k ≡ true → has new n k ≡ true
inserted_kept row bit old new changed i n k h = elim (that_or_not row bit n k) [
  | inl that ↦ has_at new row bit n k that.0 that.1 ∙ i.set
  | inr other ↦ i.others n k other ∙ h
]

pub insert_adds : (row bit : ℕ) (old new : Rows) (changed : Bool) → Inserted row bit old new changed → row < height old → bit < old.width → Adds (InRow row (bit ∷ [])) old new changed
insert_adds row bit old new changed i h w = record {
  high = i.high;
  wide = i.wide;
  there = λ n k p. has_at new row bit n k p.0 (sym (only_in bit k p.1)) ∙ i.set;
  kept = inserted_kept row bit old new changed i;
  only = λ n k e. elim (that_or_not row bit n k) [
    | inl that ↦ inr (that.0, (let P : ℕ → Type 0 = λ j. Contains (bit ∷ []) j in subst P (sym that.1) (first_in bit [])))
    | inr other ↦ inl (sym (i.others n k other) ∙ e)
  ];
  still = i.unchanged;
  falls = λ e. clear_falls old new row bit i.high i.wide (inserted_kept row bit old new changed i) h w (i.changed_is e) i.set;
}

-- a row joined to another
pub record Joined (into from : ℕ) (writes : List ℕ) (old new : Rows) (changed : Bool) : Type 0 where
  pub high : height new ≡ height old
  pub wide : new.width ≡ old.width
  pub was : (k : ℕ) → has old into k ≡ true → has new into k ≡ true
  pub comes : (k : ℕ) → has old from k ≡ true → (¬ Contains writes k) → has new into k ≡ true
  pub only : (k : ℕ) → has new into k ≡ true → (has old into k ≡ true) ⊎ ((has old from k ≡ true) × (¬ Contains writes k))
  pub others : (n k : ℕ) → n ≢ into → has new n k ≡ has old n k
  pub changed_is : changed ≡ true → (k : ℕ) × (k < old.width) × (has old into k ≡ false) × (has new into k ≡ true)
  pub unchanged : changed ≡ false → new ≡ old

joined_kept : (into from : ℕ) (writes : List ℕ) (old new : Rows) (changed : Bool) → Joined into from writes old new changed → (n k : ℕ) → has old n k ≡ true → has new n k ≡ true
joined_kept into from writes old new changed j n k h = elim (same_or_not n into) [
  | inl same ↦ ap (λ (m : ℕ). has new m k) same ∙ j.was k (sym (ap (λ (m : ℕ). has old m k) same) ∙ h)
  | inr other ↦ j.others n k other ∙ h
]

pub join_adds : (into from : ℕ) (writes : List ℕ) (old new : Rows) (changed : Bool) → Joined into from writes old new changed → into < height old → Adds (Unwritten old into from writes) old new changed
join_adds into from writes old new changed j h = record {
  high = j.high;
  wide = j.wide;
  there = λ n k p. ap (λ (m : ℕ). has new m k) p.0 ∙ j.comes k p.1 p.2;
  kept = joined_kept into from writes old new changed j;
  only = λ n k e. elim (same_or_not n into) [
    | inl same ↦ elim (j.only k (sym (ap (λ (m : ℕ). has new m k) same) ∙ e)) [
      | inl was ↦ inl (ap (λ (m : ℕ). has old m k) same ∙ was)
      | inr came ↦ inr (same, came.0, came.1)
    ]
    | inr other ↦ inl (sym (j.others n k other) ∙ e)
  ];
  still = j.unchanged;
  falls = λ e. let c = j.changed_is e in clear_falls old new into c.0 j.high j.wide (joined_kept into from writes old new changed j) h c.1 c.2 c.3;
}

-- Tests

or_true : (a b : Bool) → (a || b) ≡ true → (a ≡ true) ⊎ (b ≡ true)
or_true true b e = inl refl
or_true false b e = inr e

or_left : (a b : Bool) → a ≡ true → (a || b) ≡ true
or_left true b e = refl
or_left false b e = cc

or_right : (a b : Bool) → b ≡ true → (a || b) ≡ true
or_right true b e = refl
or_right false b e = e

but_true : (a : Bool) (k but : ℕ) → (a && not (eqb k but)) ≡ true → (a ≡ true) × (k ≢ but)
but_true true k but e = (refl, (λ same. let t : eqb k but ≡ true = eq-eqb k but same in let f : not true ≡ true = sym (ap not t) ∙ e in cc))
but_true false k but e = cc

but_comes : (a : Bool) (k but : ℕ) → a ≡ true → k ≢ but → (a && not (eqb k but)) ≡ true
but_comes true k but e ne = ap not (ne_eqb k but ne)
but_comes false k but e ne = cc

-- what `join` ensures
pub joined_all : (into from : ℕ) (old new : Rows) (changed : Bool) → height new ≡ height old → new.width ≡ old.width → ((k : ℕ) → has new into k ≡ (has old into k || has old from k)) → ((n k : ℕ) → n ≢ into → has new n k ≡ has old n k) → (changed ≡ true → (k : ℕ) × (k < old.width) × (has old into k ≡ false) × (has new into k ≡ true)) → (changed ≡ false → new ≡ old) → Joined into from [] old new changed
joined_all into from old new changed high wide is others changed_is unchanged = record {
  high = high;
  wide = wide;
  was = λ k h. is k ∙ or_left (has old into k) (has old from k) h;
  comes = λ k h _. is k ∙ or_right (has old into k) (has old from k) h;
  only = λ k h. elim (or_true (has old into k) (has old from k) (sym (is k) ∙ h)) [ inl was ↦ inl was | inr came ↦ inr (came, none_in k) ];
  others = others;
  changed_is = changed_is;
  unchanged = unchanged;
}

-- what `join_but` ensures
pub joined_but : (into from but : ℕ) (old new : Rows) (changed : Bool) → height new ≡ height old → new.width ≡ old.width → ((k : ℕ) → has new into k ≡ (has old into k || (has old from k && not (eqb k but)))) → ((n k : ℕ) → n ≢ into → has new n k ≡ has old n k) → (changed ≡ true → (k : ℕ) × (k < old.width) × (has old into k ≡ false) × (has new into k ≡ true)) → (changed ≡ false → new ≡ old) → Joined into from (but ∷ []) old new changed
joined_but into from but old new changed high wide is others changed_is unchanged = record {
  high = high;
  wide = wide;
  was = λ k h. is k ∙ or_left (has old into k) (has old from k && not (eqb k but)) h;
  comes = λ k h free. is k ∙ or_right (has old into k) (has old from k && not (eqb k but)) (but_comes (has old from k) k but h (λ e. free (let P : ℕ → Type 0 = λ j. Contains (but ∷ []) j in subst P (sym e) (first_in but []))));
  only = λ k h. elim (or_true (has old into k) (has old from k && not (eqb k but)) (sym (is k) ∙ h)) [
    | inl was ↦ inl was
    | inr came ↦ let c = but_true (has old from k) k but came in inr (c.0, (λ m. c.1 (sym (only_in but k m))))
  ];
  others = others;
  changed_is = changed_is;
  unchanged = unchanged;
}
