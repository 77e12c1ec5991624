-- Temporaries of which one gets a value.
use Rattle.std.specs.Prelude.{◌≡◌, ℕ, ◌<◌, Bool, cond, eqb, Option, Some}
use Rattle.std.proofs.Common.{refl, ap, arith}
use Rattle.std.proofs.lemmas.Bool.{eq-eqb, eqb-true, false_from_ne_true}
use Rattle.block_mem.specs.declared.value.Value.{Value}
use Rattle.core_lang.specs.Meaning.{Temporaries, put}

pub put_same : (t : Temporaries) (k : ℕ) (v : Value) → put t k v k ≡ Some v
put_same t k v = ap (λ (b : Bool). cond b (Some v) (t k)) (eq-eqb k k refl)

pub put_other : (t : Temporaries) (k j : ℕ) (v : Value) → (j ≡ k → ⊥) → put t k v j ≡ t j
put_other t k j v ne = ap (λ (b : Bool). cond b (Some v) (t j)) (false_from_ne_true (eqb j k) (λ h. ne (eqb-true j k h)))

pub put_below : (t : Temporaries) (k j : ℕ) (v : Value) → j < k → put t k v j ≡ t j
put_below t k j v below = put_other t k j v (λ h. absurd (omega (arith, h, below)))
