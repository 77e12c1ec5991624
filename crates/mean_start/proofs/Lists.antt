-- Lists, item by item.
use Rattle.std.proofs.Common.{◌≡◌, ℕ, zero, suc, ◌+◌, ◌<◌, List, [], ◌∷◌, Option, Some, None, length, drop, get_or, sym, ap, subst, ◌∙◌, add-one, arith}
use Rattle.std.proofs.Math.Seq.{drop-cons}
use Rattle.std.specs.Option.{option_or}
use Rattle.cc_base.specs.Faces.{first_answer}
use Rattle.cc_base.specs.declared.face.Face.{Face}
use Rattle.block_mem.specs.Start.{faces_of}
use Rattle.clight_sem.specs.Functions.{all_parts}
use Rattle.clight_unit.specs.declared.unit.ClightUnit.{ClightUnit as TypedUnit}
use Rattle.mean_start.specs.Small.{IsSmall, AreSmall}

-- the item at a place, and those behind it
pub drop_at : {A : Type 0} (xs : List A) (i : ℕ) (x : A) → i < length xs → x ≡ get_or xs i x → drop i xs ≡ x ∷ drop (i + 1) xs
drop_at xs i x h e = drop-cons xs i x h ∙ ap (λ y. y ∷ drop (suc i) xs) (sym e) ∙ ap (λ k. x ∷ drop k xs) (sym (add-one i))

-- units that are small
pub small_tail : (us : List TypedUnit) (i : ℕ) (u : TypedUnit) → i < length us → u ≡ get_or us i u → AreSmall (drop i us) → AreSmall (drop (i + 1) us)
small_tail us i u h e s = let both : AreSmall (u ∷ drop (i + 1) us) = subst AreSmall (drop_at us i u h e) s in both.1

pub small_at : (us : List TypedUnit) (i : ℕ) (u : TypedUnit) → i < length us → u ≡ get_or us i u → AreSmall us → IsSmall u
small_at [] i u h e s = let no : ⊥ = omega arith in absurd no
small_at (v ∷ us) zero u h e s = subst IsSmall (sym e) s.0
small_at (v ∷ us) (suc i) u h e s = small_at us i u (omega arith) e s.1

-- the answer of a unit's face settles it, or the others are asked
pub faces_answered : {R : Type 0} (ask : ℕ → Face → Option R) (us : List TypedUnit) (i : ℕ) (u : TypedUnit) (r : R) → i < length us → u ≡ get_or us i u → Some r ≡ ask i u.face → Some r ≡ first_answer ask i (faces_of (all_parts (drop i us)))
faces_answered {R} ask us i u r h e s = ap (λ (o : Option R). option_or o (first_answer ask (i + 1) (faces_of (all_parts (drop (i + 1) us))))) s ∙ sym (ap (λ (l : List TypedUnit). first_answer ask i (faces_of (all_parts l))) (drop_at us i u h e))

pub faces_passed : {R : Type 0} (ask : ℕ → Face → Option R) (us : List TypedUnit) (i : ℕ) (u : TypedUnit) → i < length us → u ≡ get_or us i u → None ≡ ask i u.face → first_answer ask (i + 1) (faces_of (all_parts (drop (i + 1) us))) ≡ first_answer ask i (faces_of (all_parts (drop i us)))
faces_passed {R} ask us i u h e s = ap (λ (o : Option R). option_or o (first_answer ask (i + 1) (faces_of (all_parts (drop (i + 1) us))))) s ∙ sym (ap (λ (l : List TypedUnit). first_answer ask i (faces_of (all_parts l))) (drop_at us i u h e))
