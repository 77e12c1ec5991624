-- Zeros that are appended one by one.
use Rattle.std.proofs.Common.{◌≡◌, ℕ, suc, ◌-◌, ◌<◌, ◌≤◌, List, [], ◌∷◌, ◌++◌, length, replicate, sym, ap, ◌∙◌, arith, length-append, append_assoc, append-nil}
use Rattle.typing_initialisers.specs.Data.{padded}

-- what is left after one zero more is the same
pub one_more : (at : ℕ) (xs : List ℕ) → length xs < at → padded at (xs ++ 0 ∷ []) ≡ padded at xs
one_more at xs h =
    let fewer : at - length xs ≡ suc (at - length (xs ++ 0 ∷ [])) = omega (arith, h, length-append xs (0 ∷ [])) in
    append_assoc xs (0 ∷ []) (replicate (at - length (xs ++ 0 ∷ [])) 0)
    ∙ ap (λ n. xs ++ replicate n 0) (sym fewer)

-- nothing is left
pub no_more : (at : ℕ) (xs : List ℕ) → at ≤ length xs → padded at xs ≡ xs
no_more at xs h =
    let none : at - length xs ≡ 0 = omega arith in
    ap (λ n. xs ++ replicate n 0) none ∙ append-nil xs
