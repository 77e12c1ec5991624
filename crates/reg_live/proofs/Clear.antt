-- Where bits are set and none is cleared, fewer are clear.
use Rattle.std.specs.Prelude.{◌≡◌, ◌≢◌, ℕ, zero, suc, ◌<◌, ◌≤◌, ◌⊎◌, Bool, true, false, cond}
use Rattle.std.proofs.Common.{refl, sym, ◌∙◌, ap, arith, inl, inr}
use Rattle.std.proofs.lemmas.Bool.Decides.{eqb_tells}
use Rattle.bit_rows.specs.Rows.{Rows, height, has}
use Rattle.reg_live.specs.Sweeps.{clear_in, clear_rows, clear}

pub same_or_not : (a b : ℕ) → (a ≡ b) ⊎ (a ≢ b)
same_or_not a b = elim (eqb_tells a b) [ inl same ↦ inl same.1 | inr other ↦ inr other.1 ]

clear_bit : (a b : Bool) → (a ≡ true → b ≡ true) → cond b 0 1 ≤ cond a 0 1
clear_bit false false h = omega arith
clear_bit false true h = omega arith
clear_bit true false h = let e : false ≡ true = h refl in cc
clear_bit true true h = omega arith

bit_falls : (a b : Bool) → a ≡ false → b ≡ true → cond b 0 1 < cond a 0 1
bit_falls false true h k = omega arith
bit_falls false false h k = cc
bit_falls true b h k = cc

clear_in_most : (p q : ℕ → Bool) (bits : ℕ) → ((k : ℕ) → p k ≡ true → q k ≡ true) → clear_in q bits ≤ clear_in p bits
clear_in_most p q zero kept = omega arith
clear_in_most p q (suc bits) kept = omega (arith, clear_bit (p bits) (q bits) (kept bits), clear_in_most p q bits kept)

clear_in_falls : (p q : ℕ → Bool) (bits k : ℕ) → ((j : ℕ) → p j ≡ true → q j ≡ true) → k < bits → p k ≡ false → q k ≡ true → clear_in q bits < clear_in p bits
clear_in_falls p q zero k kept h was is = absurd (omega arith)
clear_in_falls p q (suc bits) k kept h was is = elim (same_or_not k bits) [
  | inl same ↦ omega (arith, bit_falls (p bits) (q bits) (sym (ap p same) ∙ was) (sym (ap q same) ∙ is), clear_in_most p q bits kept)
  | inr other ↦ omega (arith, clear_bit (p bits) (q bits) (kept bits), clear_in_falls p q bits k kept (omega arith) was is)
]

clear_rows_most : (p q : ℕ → ℕ → Bool) (bits rows : ℕ) → ((n k : ℕ) → p n k ≡ true → q n k ≡ true) → clear_rows q bits rows ≤ clear_rows p bits rows
clear_rows_most p q bits zero kept = omega arith
clear_rows_most p q bits (suc rows) kept = omega (arith, clear_in_most (p rows) (q rows) bits (kept rows), clear_rows_most p q bits rows kept)

clear_rows_falls : (p q : ℕ → ℕ → Bool) (bits rows n k : ℕ) → ((m j : ℕ) → p m j ≡ true → q m j ≡ true) → n < rows → k < bits → p n k ≡ false → q n k ≡ true → clear_rows q bits rows < clear_rows p bits rows
clear_rows_falls p q bits zero n k kept h i was is = absurd (omega arith)
clear_rows_falls p q bits (suc rows) n k kept h i was is = elim (same_or_not n rows) [
  | inl same ↦ omega (arith, clear_in_falls (p rows) (q rows) bits k (kept rows) i (sym (ap (λ (m : ℕ). p m k) same) ∙ was) (sym (ap (λ (m : ℕ). q m k) same) ∙ is), clear_rows_most p q bits rows kept)
  | inr other ↦ omega (arith, clear_in_most (p rows) (q rows) bits (kept rows), clear_rows_falls p q bits rows n k kept (omega arith) i was is)
]

pub clear_falls : (old new : Rows) (n k : ℕ) → height new ≡ height old → new.width ≡ old.width → ((m j : ℕ) → has old m j ≡ true → has new m j ≡ true) → n < height old → k < old.width → has old n k ≡ false → has new n k ≡ true → clear new < clear old
clear_falls old new n k high wide kept h i was is =
    let e : clear new ≡ clear_rows (has new) old.width (height old) = ap (λ (w : ℕ). clear_rows (has new) w (height new)) wide ∙ ap (λ (rows : ℕ). clear_rows (has new) old.width rows) high in
    omega (arith, e, clear_rows_falls (has old) (has new) old.width (height old) n k kept h i was is)
