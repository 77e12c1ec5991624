-- Locations of which one gets a value.
use Rattle.std.specs.Prelude.{◌≡◌, ◌≢◌, Bool, cond, Some}
use Rattle.std.proofs.Common.{ap, refl, arith}
use Rattle.std.proofs.lemmas.Bool.{eq-eqb, ne_eqb}
use Rattle.block_mem.specs.declared.value.Value.{Value}
use Rattle.ltl_lang.specs.declared.location.Loc.{Loc}
use Rattle.ltl_lang.specs.declared.location.Loc.TheVariants.{Ebx, Esi, Edi, Ebp, Slot}
use Rattle.ltl_lang.specs.Meaning.{Contents, place, put}

-- no two locations have one number
pub place_one : (a b : Loc) → place a ≡ place b → a ≡ b
place_one Ebx Ebx e = refl
place_one Ebx Esi e = absurd (omega (arith, e))
place_one Ebx Edi e = absurd (omega (arith, e))
place_one Ebx Ebp e = absurd (omega (arith, e))
place_one Ebx (Slot j) e = absurd (omega (arith, e))
place_one Esi Ebx e = absurd (omega (arith, e))
place_one Esi Esi e = refl
place_one Esi Edi e = absurd (omega (arith, e))
place_one Esi Ebp e = absurd (omega (arith, e))
place_one Esi (Slot j) e = absurd (omega (arith, e))
place_one Edi Ebx e = absurd (omega (arith, e))
place_one Edi Esi e = absurd (omega (arith, e))
place_one Edi Edi e = refl
place_one Edi Ebp e = absurd (omega (arith, e))
place_one Edi (Slot j) e = absurd (omega (arith, e))
place_one Ebp Ebx e = absurd (omega (arith, e))
place_one Ebp Esi e = absurd (omega (arith, e))
place_one Ebp Edi e = absurd (omega (arith, e))
place_one Ebp Ebp e = refl
place_one Ebp (Slot j) e = absurd (omega (arith, e))
place_one (Slot i) Ebx e = absurd (omega (arith, e))
place_one (Slot i) Esi e = absurd (omega (arith, e))
place_one (Slot i) Edi e = absurd (omega (arith, e))
place_one (Slot i) Ebp e = absurd (omega (arith, e))
place_one (Slot i) (Slot j) e = ap Slot (omega (arith, e))

pub put_same : (t : Contents) (l : Loc) (v : Value) → put t l v l ≡ Some v
put_same t l v = ap (λ (b : Bool). cond b (Some v) (t l)) (eq-eqb (place l) (place l) refl)

pub put_other : (t : Contents) (l k : Loc) (v : Value) → k ≢ l → put t l v k ≡ t k
put_other t l k v ne = ap (λ (b : Bool). cond b (Some v) (t k)) (ne_eqb (place k) (place l) (λ e. ne (place_one k l e)))
