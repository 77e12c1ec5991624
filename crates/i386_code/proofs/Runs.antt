-- What runs of readers come to, by the functions that say what stands at the front.
use Rattle.std.proofs.Common.{◌≡◌, ℕ, suc, ◌+◌, ◌/◌, ◌%◌, ◌≤◌, Bool, true, false, cond, List, [], ◌∷◌, length, get_or, slice_index, drop, Option, Some, None, ◌==◌, nat_lt, refl, sym, ap, ◌∙◌, arith, add-zero, add-one}
use Rattle.std.proofs.lemmas.Bool.Decides.{nat_tests}
use Rattle.cc_base.specs.Words.{join}
use Rattle.i386_code.specs.declared.instr.Decoded.{Decoded}
use Rattle.i386_code.specs.declared.instr.Decoded.TheVariants.{Short}
use Rattle.std.specs.Option.{option_map}
use Rattle.i386_code.specs.declared.instr.Scaled.{Scaled}
use Rattle.i386_code.specs.declared.instr.Rm.{Rm}
use Rattle.i386_code.specs.declared.instr.Rm.TheVariants.{Reg, Mem}
use Rattle.i386_code.specs.declared.operand.Width.{Width}
use Rattle.i386_code.specs.declared.operand.Width.TheVariants.{Absent, Byte, Word}
use Rattle.i386_code.specs.Fields.{reg_at, sign_extended}
use Rattle.i386_code.specs.Reading.{base_at, width_at, index_at, behind, Reader, Next, run, word, displacement, address, operand, word_of, displacement_of, address_of, operand_of}

no_fewer : (n k : ℕ) → k ≤ n → nat_lt n k ≡ false
no_fewer n k h = grind (arith, nat_tests)

word_of-cons : (a b c d : ℕ) (xs : List ℕ) → word_of (a ∷ b ∷ c ∷ d ∷ xs) ≡ Some (join a b c d)
word_of-cons a b c d xs = rw (no_fewer (suc (suc (suc (suc (length xs))))) 4 (omega arith)) refl

pub run-word_none : (go : ℕ → Reader) (n : ℕ) (xs : List ℕ) → word_of xs ≡ None → run (word go) n xs ≡ Short
unfolding word
run-word_none go n [] e = refl
run-word_none go n (a ∷ []) e = refl
run-word_none go n (a ∷ b ∷ []) e = refl
run-word_none go n (a ∷ b ∷ c ∷ []) e = refl
run-word_none go n (a ∷ b ∷ c ∷ d ∷ xs) e = let made = word_of-cons a b c d xs in absurd cc

pub run-word_some : (go : ℕ → Reader) (n : ℕ) (xs : List ℕ) (v : ℕ) → word_of xs ≡ Some v → run (word go) n xs ≡ run (go v) (n + 4) (drop 4 xs)
unfolding word
run-word_some go n [] v e = absurd cc
run-word_some go n (a ∷ []) v e = absurd cc
run-word_some go n (a ∷ b ∷ []) v e = absurd cc
run-word_some go n (a ∷ b ∷ c ∷ []) v e = absurd cc
run-word_some go n (a ∷ b ∷ c ∷ d ∷ xs) v e =
    let counted : suc (suc (suc (suc n))) ≡ n + 4 = omega arith in
    let made = word_of-cons a b c d xs in
    let joined : join a b c d ≡ v = cc in
    ap (λ (k : ℕ). run (go (join a b c d)) k xs) counted ∙ ap (λ (w : ℕ). run (go w) (n + 4) xs) joined

pub run-next : (go : ℕ → Reader) (n : ℕ) (xs : List ℕ) → 1 ≤ length xs → run (Next go) n xs ≡ run (go (get_or xs 0 0)) (n + 1) (drop 1 xs)
run-next go n [] h = absurd (omega arith)
run-next go n (x ∷ xs) h = ap (λ (k : ℕ). run (go x) k xs) (omega arith)

-- what was found, and how many bytes it takes, leads on to the rest
abbrev pub led : {A : Type 0} → Option (A × ℕ) → (A → Reader) → ℕ → List ℕ → Decoded
led None go n xs = Short
led (Some found) go n xs = run (go found.0) (n + found.1) (drop found.1 xs)

word_led : (go : ℕ → Reader) (n : ℕ) (xs : List ℕ) (o : Option ℕ) → word_of xs ≡ o → run (word go) n xs ≡ led (option_map (λ value. (value, 4)) o) go n xs
word_led go n xs None e = run-word_none go n xs e
word_led go n xs (Some v) e = run-word_some go n xs v e

run-displacement : (w : Width) (go : ℕ → Reader) (n : ℕ) (xs : List ℕ) → run (displacement w go) n xs ≡ led (displacement_of w xs) go n xs
unfolding displacement
run-displacement Absent go n xs = rw add-zero refl
run-displacement Byte go n [] = refl
run-displacement Byte go n (x ∷ xs) =
    let counted : suc n ≡ n + 1 = omega arith in
    ap (λ (k : ℕ). run (go (sign_extended x)) k xs) counted
    ∙ ap (λ (b : Bool). led (cond b None (Some (sign_extended x, 1))) go n (x ∷ xs)) (sym (no_fewer (suc (length xs)) 1 (omega arith)))
run-displacement Word go n xs = word_led go n xs (word_of xs) refl

led-map : {A B : Type 0} (f : A → B) (go : B → Reader) (n : ℕ) (xs : List ℕ) (o : Option (A × ℕ)) → led o (λ x. go (f x)) n xs ≡ led (option_map (λ (x : A × ℕ). (f x.0, x.1)) o) go n xs
led-map f go n xs None = refl
led-map f go n xs (Some x) = refl

run-address : (index : Option Scaled) (mode number : ℕ) (go : Rm → Reader) (n : ℕ) (xs : List ℕ) → run (address index mode number go) n xs ≡ led (address_of index mode number xs) go n xs
run-address index mode number go n xs =
    let made = λ (disp : ℕ). Mem (record { base = base_at mode number; index = index; disp = disp }) in
    run-displacement (width_at mode number) (λ disp. go (made disp)) n xs ∙ led-map made go n xs (displacement_of (width_at mode number) xs)

led-behind : (go : Rm → Reader) (n x : ℕ) (xs : List ℕ) (o : Option (Rm × ℕ)) → led o go (suc n) xs ≡ led (behind o) go n (x ∷ xs)
led-behind go n x xs None = refl
led-behind go n x xs (Some found) =
    let counted : suc n + found.1 ≡ n + (found.1 + 1) = omega arith in
    rw (counted, add-one) refl

with_sib : (mode : ℕ) (go : Rm → Reader) (n : ℕ) (xs : List ℕ) → run (Next λ sib. address (index_at (sib / 64) (sib / 8 % 8)) mode (sib % 8) go) n xs ≡ led (cond (nat_lt (length xs) 1) None (behind (address_of (index_at (slice_index xs 0 / 64) (slice_index xs 0 / 8 % 8)) mode (slice_index xs 0 % 8) (drop 1 xs)))) go n xs
with_sib mode go n [] = refl
with_sib mode go n (x ∷ xs) =
    run-address (index_at (x / 64) (x / 8 % 8)) mode (x % 8) go (suc n) xs ∙ led-behind go n x xs (address_of (index_at (x / 64) (x / 8 % 8)) mode (x % 8) xs)
    ∙ ap (λ (b : Bool). led (cond b None (behind (address_of (index_at (x / 64) (x / 8 % 8)) mode (x % 8) xs))) go n (x ∷ xs)) (sym (no_fewer (suc (length xs)) 1 (omega arith)))

run-operand : (modrm : ℕ) (go : Rm → Reader) (n : ℕ) (xs : List ℕ) → run (operand modrm go) n xs ≡ led (operand_of modrm xs) go n xs
unfolding operand
run-operand modrm go n xs = by_tests (modrm / 64 == 3) (modrm % 8 == 4)
  where
    sib : Option (Rm × ℕ)
    sib = cond (nat_lt (length xs) 1) None (behind (address_of (index_at (slice_index xs 0 / 64) (slice_index xs 0 / 8 % 8)) (modrm / 64) (slice_index xs 0 % 8) (drop 1 xs)))

    by_tests : (a b : Bool) → run (cond a (go (Reg (reg_at (modrm % 8)))) (cond b (Next λ sib. address (index_at (sib / 64) (sib / 8 % 8)) (modrm / 64) (sib % 8) go) (address None (modrm / 64) (modrm % 8) go))) n xs ≡ led (cond a (Some (Reg (reg_at (modrm % 8)), 0)) (cond b (cond (nat_lt (length xs) 1) None (behind (address_of (index_at (slice_index xs 0 / 64) (slice_index xs 0 / 8 % 8)) (modrm / 64) (slice_index xs 0 % 8) (drop 1 xs)))) (address_of None (modrm / 64) (modrm % 8) xs))) go n xs
    by_tests true b = rw add-zero refl
    by_tests false true = with_sib (modrm / 64) go n xs
    by_tests false false = run-address None (modrm / 64) (modrm % 8) go n xs

pub run-operand_none : (modrm : ℕ) (go : Rm → Reader) (n : ℕ) (xs : List ℕ) → operand_of modrm xs ≡ None → run (operand modrm go) n xs ≡ Short
run-operand_none modrm go n xs e = run-operand modrm go n xs ∙ ap (λ (o : Option (Rm × ℕ)). led o go n xs) e

pub run-operand_some : (modrm : ℕ) (go : Rm → Reader) (n : ℕ) (xs : List ℕ) (rm : Rm) (count : ℕ) → operand_of modrm xs ≡ Some (rm, count) → run (operand modrm go) n xs ≡ run (go rm) (n + count) (drop count xs)
run-operand_some modrm go n xs rm count e = run-operand modrm go n xs ∙ ap (λ (o : Option (Rm × ℕ)). led o go n xs) e

pub ruleset runs = (run-word_none, run-word_some, run-operand_none, run-operand_some)
