-- What is kept, said of the rows that contracts see.
use Rattle.std.proofs.Common.{◌≡◌, ◌≢◌, ℕ, ◌+◌, ◌-◌, ◌*◌, ◌/◌, ◌%◌, ◌^◌, ◌<◌, ◌≤◌, Bool, true, false, List, [], length, map, get_or, set, replicate, Fits, w64, refl, sym, ap, subst, ◌∙◌, inl, inr, ◌⊎◌, arith, length-set}
use Rattle.std.specs.List.{range_with_len}
use Rattle.std.specs.Int.{bit_at}
use Rattle.std.proofs.lemmas.Bool.{cases_lt, cases_eq}
use Rattle.std.proofs.lemmas.List.{get_or-set_same, get_or-set_other, get_or_past, get_or-replicate, length-replicate}
use Rattle.std.proofs.lemmas.List.FromFn.{get_or-map-range_with_len, length-map-range_with_len}
use Rattle.std.proofs.lemmas.Nat.{mul-add-lt, same_from_place, div-add-mod', div_below, row_fits}
use Rattle.std.proofs.lemmas.Nat.Bits.{bit_at-zero}
use Rattle.bit_rows.specs.Rows.{Rows, has, height}
use Rattle.bit_rows.specs.Words.{is_one, bit_in, row_in, rows_in, Keeps}
use Rattle.bit_rows.proofs.Ones.{not_one}

abbrev pub view : List ℕ → ℕ → ℕ → ℕ → Rows
view words row_words width height = record { width = width; rows = rows_in words row_words width height }

pub length-rows_in : (words : List ℕ) (row_words width high : ℕ) → length (rows_in words row_words width high) ≡ high
unfolding rows_in
length-rows_in words row_words width high = length-map-range_with_len (row_in words row_words width) 0 high

row_at : (words : List ℕ) (row_words width high row : ℕ) → row < high → get_or (rows_in words row_words width high) row [] ≡ row_in words row_words width row
unfolding rows_in
row_at words row_words width high row below = get_or-map-range_with_len (row_in words row_words width) 0 high row row [] below (omega arith)

bit_at_row : (words : List ℕ) (row_words width row bit : ℕ) → bit < width → get_or (row_in words row_words width row) bit false ≡ bit_in words row_words row bit
unfolding row_in
bit_at_row words row_words width row bit below = get_or-map-range_with_len (bit_in words row_words row) 0 width bit bit false below (omega arith)

length-row_in : (words : List ℕ) (row_words width row : ℕ) → length (row_in words row_words width row) ≡ width
unfolding row_in
length-row_in words row_words width row = length-map-range_with_len (bit_in words row_words row) 0 width

module _ (words : List ℕ) (row_words width high : ℕ) where
  pub has_in : (row bit : ℕ) → row < high → bit < width → has (view words row_words width high) row bit ≡ bit_in words row_words row bit
  has_in row bit row_below below =
      ap (λ (r : List Bool). get_or r bit false) (row_at words row_words width high row row_below)
      ∙ bit_at_row words row_words width row bit below

  pub has_beyond : (row bit : ℕ) → width ≤ bit → has (view words row_words width high) row bit ≡ false
  has_beyond row bit above =
      elim (cases_lt row high) [
        | inl below ↦ ap (λ (r : List Bool). get_or r bit false) (row_at words row_words width high row below) ∙ get_or_past (row_in words row_words width row) bit false (omega (arith, length-row_in words row_words width row))
        | inr past ↦ ap (λ (r : List Bool). get_or r bit false) (get_or_past (rows_in words row_words width high) row [] (omega (arith, length-rows_in words row_words width high)))
      ]

  pub has_above : (row bit : ℕ) → high ≤ row → has (view words row_words width high) row bit ≡ false
  has_above row bit past = ap (λ (r : List Bool). get_or r bit false) (get_or_past (rows_in words row_words width high) row [] (omega (arith, length-rows_in words row_words width high)))

-- rows whose bits are the same within the width
pub same_has : (old new : List ℕ) (row_words width high n k : ℕ) → (n < high → k < width → bit_in new row_words n k ≡ bit_in old row_words n k) → has (view new row_words width high) n k ≡ has (view old row_words width high) n k
same_has old new row_words width high n k same =
    elim (cases_lt n high) [
      | inl row_below ↦
          elim (cases_lt k width) [
            | inl below ↦ has_in new row_words width high n k row_below below ∙ same row_below below ∙ sym (has_in old row_words width high n k row_below below)
            | inr above ↦ has_beyond new row_words width high n k above ∙ sym (has_beyond old row_words width high n k above)
          ]
      | inr past ↦ has_above new row_words width high n k past ∙ sym (has_above old row_words width high n k past)
    ]

-- the word of a bit
module _ (words : List ℕ) (row_words width high : ℕ) (k : Keeps words row_words width high) where
  pub word_of : (bit : ℕ) → bit < width → bit / 64 < row_words
  word_of bit below = div_below bit 64 row_words (omega arith) (omega (arith, k.wide))

  pub word_within : (row index : ℕ) → row < high → index < row_words → row * row_words + index < length words
  word_within row index row_below below = omega (arith, k.all, mul-add-lt row row_words index high row_below below, Rattle.std.proofs.Math.Nat.mul_comm row_words high)

  pub bit_within : (row bit : ℕ) → row < high → bit < width → row * row_words + bit / 64 < length words
  bit_within row bit row_below below = word_within row (bit / 64) row_below (word_of bit below)

  pub row_start : (row : ℕ) → row < high → row * row_words ≤ length words
  row_start row below = omega (arith, k.all, Rattle.std.proofs.lemmas.Nat.mul-le row row_words high row_words (omega arith) (omega arith))

-- a word is put in place of another
module _ (words : List ℕ) (row_words row index word : ℕ) (below : index < row_words) (within : row * row_words + index < length words) where
  abbrev changed : List ℕ
  changed = set words (row * row_words + index) word

  pub bit_there : (bit : ℕ) → bit / 64 ≡ index → bit_in changed row_words row bit ≡ is_one word (bit % 64)
  bit_there bit e =
      ap (λ (w : ℕ). is_one w (bit % 64)) (ap (λ (i : ℕ). get_or changed (row * row_words + i) 0) e ∙ get_or-set_same words (row * row_words + index) word 0 within)

  pub bit_elsewhere : (n bit : ℕ) → bit / 64 < row_words → ((n ≡ row) × (bit / 64 ≡ index) → ⊥) → bit_in changed row_words n bit ≡ bit_in words row_words n bit
  bit_elsewhere n bit bit_below apart =
      ap (λ (w : ℕ). is_one w (bit % 64))
      (get_or-set_other words (row * row_words + index) (n * row_words + bit / 64) word 0 (λ e. apart (same_from_place n (bit / 64) row index row_words bit_below below e)))

-- a bit is put in
module _ (words : List ℕ) (row_words width high row bit word : ℕ) (k : Keeps words row_words width high) (row_below : row < high) (below : bit < width) (there : is_one word (bit % 64) ≡ true) (others : (j : ℕ) → j ≢ bit % 64 → is_one word j ≡ is_one (get_or words (row * row_words + bit / 64) 0) j) where
  abbrev after : List ℕ
  after = set words (row * row_words + bit / 64) word

  in_row : bit / 64 < row_words
  in_row = word_of words row_words width high k bit below

  in_words : row * row_words + bit / 64 < length words
  in_words = bit_within words row_words width high k row bit row_below below

  pub put_there : has (view after row_words width high) row bit ≡ true
  put_there =
      has_in after row_words width high row bit row_below below
      ∙ bit_there words row_words row (bit / 64) word in_row in_words bit refl
      ∙ there

  bit_other : (n j : ℕ) → j / 64 < row_words → ((n ≡ row) × (j ≡ bit) → ⊥) → bit_in after row_words n j ≡ bit_in words row_words n j
  bit_other n j j_below apart =
      elim (cases_eq n row) [
        | inl e ↦
            elim (cases_eq (j / 64) (bit / 64)) [
              | inl e' ↦
                  ap (λ (m : ℕ). bit_in after row_words m j) e
                  ∙ bit_there words row_words row (bit / 64) word in_row in_words j e'
                  ∙ others (j % 64) (λ e''. apart (e, omega (arith, div-add-mod' j 64, div-add-mod' bit 64)))
                  ∙ ap (λ (i : ℕ). is_one (get_or words (row * row_words + i) 0) (j % 64)) (sym e')
                  ∙ ap (λ (m : ℕ). bit_in words row_words m j) (sym e)
              | inr ne ↦ bit_elsewhere words row_words row (bit / 64) word in_row in_words n j j_below (λ both. ne both.1)
            ]
        | inr ne ↦ bit_elsewhere words row_words row (bit / 64) word in_row in_words n j j_below (λ both. ne both.0)
      ]

  pub put_others : (n j : ℕ) → ((n ≡ row) × (j ≡ bit) → ⊥) → has (view after row_words width high) n j ≡ has (view words row_words width high) n j
  put_others n j apart = same_has words after row_words width high n j (λ n_below j_below. bit_other n j (word_of words row_words width high k j j_below) apart)

  pub put_keeps : Keeps after row_words width high
  put_keeps =
      record {
        all = length-set words (row * row_words + bit / 64) word ∙ k.all;
        wide = k.wide;
        small = k.small;
        few = k.few;
        clean = λ n j n_below above j_below. bit_other n j j_below (λ both. omega (arith, both.1)) ∙ k.clean n j n_below above j_below;
      }

-- words of zeros
module _ (row_words width high all : ℕ) (e : all ≡ high * row_words) where
  clear_bit : (row bit : ℕ) → row < high → bit / 64 < row_words → bit_in (replicate all 0) row_words row bit ≡ false
  clear_bit row bit row_below below =
      ap (λ (w : ℕ). is_one w (bit % 64)) (get_or-replicate all (row * row_words + bit / 64) 0 0 (omega (arith, e, mul-add-lt row row_words (bit / 64) high row_below below, Rattle.std.proofs.Math.Nat.mul_comm row_words high)))
      ∙ not_one 0 (bit % 64) (bit_at-zero (bit % 64))

  pub new_keeps : width ≤ row_words * 64 → width ≤ 2 ^ 32 → row_words ≤ 2 ^ 26 → Keeps (replicate all 0) row_words width high
  new_keeps wide small few =
      record {
        all = length-replicate {A = ℕ} all 0 ∙ e;
        wide = wide;
        small = small;
        few = few;
        clean = λ row bit row_below above below. clear_bit row bit row_below below;
      }

  pub new_clear : width ≤ row_words * 64 → (row bit : ℕ) → has (view (replicate all 0) row_words width high) row bit ≡ false
  new_clear wide row bit =
      elim (cases_lt row high) [
        | inl row_below ↦
            elim (cases_lt bit width) [
              | inl below ↦ has_in (replicate all 0) row_words width high row bit row_below below ∙ clear_bit row bit row_below (div_below bit 64 row_words (omega arith) (omega arith))
              | inr above ↦ has_beyond (replicate all 0) row_words width high row bit above
            ]
        | inr past ↦ has_above (replicate all 0) row_words width high row bit past
      ]
