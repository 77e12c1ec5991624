-- A shift by 32 or more leaves nothing of a word.
use Rattle.std.proofs.Common.{◌≡◌, ℕ, ◌+◌, ◌-◌, ◌*◌, ◌%◌, ◌^◌, ◌<◌, ap, sym, ◌∙◌, arith}
use Rattle.std.proofs.lemmas.Nat.{pow-add}
use Rattle.std.proofs.Math.Nat.{mul-mod_left, mul_assoc}

pub shifted_out : (word shift : ℕ) → ¬ (shift < 32) → (word * 2 ^ shift) % 2 ^ 32 ≡ 0
shifted_out word shift far =
    let at : shift ≡ (shift - 32) + 32 = omega arith in
    let high = 2 ^ (shift - 32) in
    ap (λ (k : ℕ). (word * 2 ^ k) % 2 ^ 32) at ∙ ap (λ (x : ℕ). (word * x) % 2 ^ 32) (pow-add 2 (shift - 32) 32)
    ∙ ap (λ (x : ℕ). x % 2 ^ 32) (sym (mul_assoc word high (2 ^ 32))) ∙ mul-mod_left (word * high) (2 ^ 32)
