-- The list of a row's bits grows by the next one.
use Rattle.std.proofs.Common.{◌≡◌, ℕ, zero, suc, ◌+◌, ◌<◌, ◌≤◌, ◌↔◌, Bool, true, false, List, [], ◌∷◌, ◌++◌, length, get_or, refl, sym, ap, subst, ◌∙◌, inl, inr, ◌⊎◌, arith, length-append}
use Rattle.std.specs.List.{Contains}
use Rattle.std.specs.List.Sorted.{IsStrictlyIncreasing}
use Rattle.std.proofs.lemmas.Bool.{cases_lt, cases_eq}
use Rattle.std.proofs.lemmas.List.Elements.{Contains-append_left, Contains-append_right, Contains-append_cases, Contains-get_or}
use Rattle.std.proofs.lemmas.List.{get_or_append_left, get_or-append-add}
use Rattle.bit_rows.specs.Rows.{Rows, has}

module _ (v : Rows) (row from : ℕ) (list : List ℕ) (bit : ℕ) (taken : (k : ℕ) → Contains list k ↔ ((k < from) × (has v row k ≡ true))) (above : from ≤ bit) where
  pub taken_more : has v row bit ≡ true → ((k : ℕ) → from ≤ k → k < bit → has v row k ≡ false) → (k : ℕ) → Contains (list ++ bit ∷ []) k ↔ ((k < bit + 1) × (has v row k ≡ true))
  taken_more there none k = (to, back)
    where
      to : Contains (list ++ bit ∷ []) k → (k < bit + 1) × (has v row k ≡ true)
      to in_list =
          elim (Contains-append_cases list (bit ∷ []) k in_list) [
            | inl before ↦ (omega (arith, ((taken k).0 before).0), ((taken k).0 before).1)
            | inr (i, below, at) ↦ single i below at
          ]
        where
          single : (i : ℕ) → i < 1 → get_or (bit ∷ []) i k ≡ k → (k < bit + 1) × (has v row k ≡ true)
          single zero below at = (omega arith, ap (has v row) (sym at) ∙ there)
          single (suc i) below at = absurd (omega arith)

      differ : (b : Bool) → b ≡ true → b ≡ false → ⊥
      differ true p q = cc
      differ false p q = cc

      back : (k < bit + 1) × (has v row k ≡ true) → Contains (list ++ bit ∷ []) k
      back h =
          elim (cases_eq k bit) [
            | inl e ↦ Contains-append_right list (bit ∷ []) k (0, omega arith, sym e)
            | inr apart ↦
                elim (cases_lt k from) [
                  | inl before ↦ Contains-append_left list (bit ∷ []) k ((taken k).1 (before, h.1))
                  | inr after ↦ absurd (differ _ h.1 (none k after (omega arith)))
                ]
          ]

  pub rising_more : IsStrictlyIncreasing list → IsStrictlyIncreasing (list ++ bit ∷ [])
  rising_more rising k below =
      elim (cases_lt (k + 1) (length list)) [
        | inl within ↦
            omega (arith, rising k within, get_or_append_left list (bit ∷ []) 0 k (omega arith), get_or_append_left list (bit ∷ []) 0 (k + 1) within)
        | inr past ↦
            let long : length (list ++ bit ∷ []) ≡ length list + 1 = length-append list (bit ∷ []) in
            let at : length list + 0 ≡ k + 1 = omega arith in
            let last : get_or (list ++ bit ∷ []) (k + 1) 0 ≡ bit = ap (λ (i : ℕ). get_or (list ++ bit ∷ []) i 0) (sym at) ∙ get_or-append-add list (bit ∷ []) 0 0 in
            let k_in : k < length list = omega arith in
            let before : get_or list k 0 < from = ((taken (get_or list k 0)).0 (Contains-get_or list k 0 k_in)).0 in
            omega (arith, get_or_append_left list (bit ∷ []) 0 k k_in, last, before)
      ]
