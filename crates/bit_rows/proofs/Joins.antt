-- A row is joined to another word by word.
use Rattle.std.proofs.Common.{◌≡◌, ◌≢◌, ℕ, ◌+◌, ◌-◌, ◌*◌, ◌/◌, ◌%◌, ◌<◌, ◌≤◌, Bool, true, false, ◌||◌, ◌&&◌, not, Option, List, length, get_or, refl, sym, ap, subst, ◌∙◌, inl, inr, ◌⊎◌, arith}
use Rattle.std.proofs.lemmas.Bool.{cases_lt, cases_eq}
use Rattle.std.proofs.lemmas.Nat.{same_from_place, div-add-mod'}
use Rattle.bit_rows.specs.Rows.{is_left_out}
use Rattle.bit_rows.specs.Words.{is_one, bit_in}

-- the first words of the row have all that they are to have, and all else is as it was
pub record Joined (old : List ℕ) (row_words into from : ℕ) (but : Option ℕ) (now : List ℕ) (index : ℕ) : Type 0 where
  pub done : (k : ℕ) → k / 64 < row_words → k / 64 < index → bit_in now row_words into k ≡ (bit_in old row_words into k || (bit_in old row_words from k && not (is_left_out but k)))
  pub left : (n k : ℕ) → k / 64 < row_words → ((n ≡ into) × (k / 64 < index) → ⊥) → bit_in now row_words n k ≡ bit_in old row_words n k

-- the row has a bit that it had not
abbrev pub HasNew : List ℕ → ℕ → ℕ → List ℕ → Type 0
HasNew old row_words into now = (k : ℕ) × (k / 64 < row_words) × (bit_in old row_words into k ≡ false) × (bit_in now row_words into k ≡ true)

pub joined_first : (old : List ℕ) (row_words into from : ℕ) (but : Option ℕ) → Joined old row_words into from but old 0
joined_first old row_words into from but = record { done = λ k below before. absurd (omega arith); left = λ n k below apart. refl }

true_or : (a b : Bool) → b ≡ true → (a || b) ≡ true
true_or true b e = refl
true_or false b e = e

or_true : (a b : Bool) → a ≡ true → (a || b) ≡ true
or_true true b e = refl
or_true false b e = cc

module _ (old : List ℕ) (row_words into from : ℕ) (but : Option ℕ) (now next : List ℕ) (index ones : ℕ) (below : index < row_words) (j : Joined old row_words into from but now index) (ones_are : (place : ℕ) → place < 64 → is_one ones place ≡ (is_one (get_or now (from * row_words + index) 0) place && not (is_left_out but (index * 64 + place)))) (there : (place : ℕ) → place < 64 → is_one (get_or next (into * row_words + index) 0) place ≡ (is_one (get_or now (into * row_words + index) 0) place || is_one ones place)) (others : (i : ℕ) → (i ≡ into * row_words + index → ⊥) → get_or next i 0 ≡ get_or now i 0) where
  -- a bit of this word of a row
  in_word : (list : List ℕ) (n k : ℕ) → k / 64 ≡ index → is_one (get_or list (n * row_words + index) 0) (k % 64) ≡ bit_in list row_words n k
  in_word list n k at = ap (λ (i : ℕ). is_one (get_or list (n * row_words + i) 0) (k % 64)) (sym at)

  as_before : (n k : ℕ) → k / 64 ≡ index → is_one (get_or now (n * row_words + index) 0) (k % 64) ≡ bit_in old row_words n k
  as_before n k at = in_word now n k at ∙ j.left n k (omega arith) (λ both. omega (arith, both.1))

  place_of : (k : ℕ) → k / 64 ≡ index → index * 64 + k % 64 ≡ k
  place_of k at = omega (arith, div-add-mod' k 64)

  here : (k : ℕ) → k / 64 ≡ index → bit_in next row_words into k ≡ (bit_in old row_words into k || (bit_in old row_words from k && not (is_left_out but k)))
  here k at =
      sym (in_word next into k at)
      ∙ there (k % 64) (omega arith)
      ∙ ap (λ (b : Bool). is_one (get_or now (into * row_words + index) 0) (k % 64) || b) (ones_are (k % 64) (omega arith))
      ∙ ap (λ (b : Bool). b || (is_one (get_or now (from * row_words + index) 0) (k % 64) && not (is_left_out but (index * 64 + k % 64)))) (as_before into k at)
      ∙ ap (λ (b : Bool). bit_in old row_words into k || (b && not (is_left_out but (index * 64 + k % 64)))) (as_before from k at)
      ∙ ap (λ (m : ℕ). bit_in old row_words into k || (bit_in old row_words from k && not (is_left_out but m))) (place_of k at)

  elsewhere : (n k : ℕ) → k / 64 < row_words → ((n ≡ into) × (k / 64 ≡ index) → ⊥) → bit_in next row_words n k ≡ bit_in now row_words n k
  elsewhere n k k_below apart =
      ap (λ (w : ℕ). is_one w (k % 64)) (others (n * row_words + k / 64) (λ e. apart (same_from_place n (k / 64) into index row_words k_below below e)))

  pub joined_more : Joined old row_words into from but next (index + 1)
  joined_more = record { done = done; left = left }
    where
      done : (k : ℕ) → k / 64 < row_words → k / 64 < index + 1 → bit_in next row_words into k ≡ (bit_in old row_words into k || (bit_in old row_words from k && not (is_left_out but k)))
      done k k_below before =
          elim (cases_lt (k / 64) index) [
            | inl earlier ↦ elsewhere into k k_below (λ both. omega (arith, both.1)) ∙ j.done k k_below earlier
            | inr now_here ↦ here k (omega arith)
          ]

      left : (n k : ℕ) → k / 64 < row_words → ((n ≡ into) × (k / 64 < index + 1) → ⊥) → bit_in next row_words n k ≡ bit_in old row_words n k
      left n k k_below apart =
          elsewhere n k k_below (λ both. apart (both.0, omega (arith, both.1)))
          ∙ j.left n k k_below (λ both. apart (both.0, omega (arith, both.1)))

  -- what was new is still there
  pub new_kept : HasNew old row_words into now → HasNew old row_words into next
  new_kept h = (
    h.0,
    h.1,
    h.2,
    elim (cases_eq (h.0 / 64) index) [
      | inl at ↦ sym (in_word next into h.0 at) ∙ there (h.0 % 64) (omega arith) ∙ or_true _ _ (in_word now into h.0 at ∙ h.3)
      | inr apart ↦ elsewhere into h.0 h.1 (λ both. apart both.1) ∙ h.3
    ],
  )

  pub new_here : (place : ℕ) → place < 64 → is_one (get_or now (into * row_words + index) 0) place ≡ false → is_one ones place ≡ true → HasNew old row_words into next
  new_here place place_below was is =
      let k : ℕ = index * 64 + place in
      let at : k / 64 ≡ index = omega arith in
      let place_at : k % 64 ≡ place = omega arith in (
        k,
        omega arith,
        sym (as_before into k at) ∙ ap (is_one (get_or now (into * row_words + index) 0)) place_at ∙ was,
        sym (in_word next into k at) ∙ ap (is_one (get_or next (into * row_words + index) 0)) place_at ∙ there place place_below ∙ true_or _ _ is,
      )

pub or_new : {A : Type 0} → (a b : Bool) → (a ≡ true → A) → (b ≡ true → A) → (a || b) ≡ true → A
or_new true b f g e = f refl
or_new false b f g e = g e

pub or_still : {A : Type 0} → (a b : Bool) → (a ≡ false → b ≡ false → A) → (a || b) ≡ false → A
or_still true b f e = cc
or_still false b f e = f refl e
