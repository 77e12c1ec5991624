-- What the calls do, said of the rows that contracts see.
use Rattle.std.proofs.Common.{◌≡◌, ◌≢◌, ℕ, suc, ◌+◌, ◌*◌, ◌/◌, ◌%◌, ◌^◌, ◌<◌, ◌≤◌, Bool, true, false, ◌||◌, ◌&&◌, not, Option, List, length, get_or, set, Fits, w64, refl, sym, ap, subst, ◌∙◌, ◌-◌, Some, None, inl, inr, arith}
use Rattle.std.proofs.lemmas.Bool.{cases_lt, cases_eq}
use Rattle.bit_rows.specs.Rows.{Rows, has, height, IsFirstFrom, is_left_out}
use Rattle.bit_rows.specs.Words.{is_one, bit_in, Keeps}
use Rattle.bit_rows.proofs.Kept.{view, length-rows_in, has_in, has_beyond, word_within, bit_within, row_start, put_there, put_others, put_keeps}

module _ (words : List ℕ) (row_words width high : ℕ) (v : Rows) (is : view words row_words width high ≡ v) (keeps : Keeps words row_words width high) where
  pub high_is : height v ≡ high
  high_is = ap height (sym is) ∙ length-rows_in words row_words width high

  pub width_is : v.width ≡ width
  width_is = ap (λ (r : Rows). r.width) (sym is)

  pub row_in_range : (row : ℕ) → row < height v → row < high
  row_in_range row below = omega (arith, high_is)

  pub bit_in_range : (bit : ℕ) → bit < v.width → bit < width
  bit_in_range bit below = omega (arith, width_is)

  pub place_below : (row bit : ℕ) → row < height v → bit < v.width → row * row_words + bit / 64 < length words
  place_below row bit row_below below = bit_within words row_words width high keeps row bit (row_in_range row row_below) (bit_in_range bit below)

  pub start_below : (row : ℕ) → row < height v → row * row_words ≤ length words
  start_below row below = row_start words row_words width high keeps row (row_in_range row below)

  pub row_below_end : (row : ℕ) → row < height v → row * row_words + row_words ≤ length words
  row_below_end row below =
      let e : suc row * row_words ≡ row * row_words + row_words = omega arith in
      omega (arith, e, keeps.all, Rattle.std.proofs.lemmas.Nat.mul-le (suc row) row_words high row_words (row_in_range row below) (omega arith))

  pub bit_seen : (row bit : ℕ) → row < height v → bit < v.width → bit_in words row_words row bit ≡ has v row bit
  bit_seen row bit row_below below =
      sym (has_in words row_words width high row bit (row_in_range row row_below) (bit_in_range bit below))
      ∙ ap (λ (r : Rows). has r row bit) is

  module _ (row bit word : ℕ) (row_below : row < height v) (below : bit < v.width) (there : is_one word (bit % 64) ≡ true) (others : (j : ℕ) → j ≢ bit % 64 → is_one word j ≡ is_one (get_or words (row * row_words + bit / 64) 0) j) where
    pub put_there_seen : has (view (set words (row * row_words + bit / 64) word) row_words width high) row bit ≡ true
    put_there_seen = put_there words row_words width high row bit word keeps (row_in_range row row_below) (bit_in_range bit below) there others

    pub put_others_seen : (n j : ℕ) → ((n ≡ row) × (j ≡ bit) → ⊥) → has (view (set words (row * row_words + bit / 64) word) row_words width high) n j ≡ has v n j
    put_others_seen n j apart =
        put_others words row_words width high row bit word keeps (row_in_range row row_below) (bit_in_range bit below) there others n j apart
        ∙ ap (λ (r : Rows). has r n j) is

    pub put_keeps_seen : Keeps (set words (row * row_words + bit / 64) word) row_words width high
    put_keeps_seen = put_keeps words row_words width high row bit word keeps (row_in_range row row_below) (bit_in_range bit below) there others

    pub put_high : height (view (set words (row * row_words + bit / 64) word) row_words width high) ≡ height v
    put_high = length-rows_in _ row_words width high ∙ sym high_is

  pub beyond_seen : (row bit : ℕ) → v.width ≤ bit → has v row bit ≡ false
  beyond_seen row bit above = ap (λ (r : Rows). has r row bit) (sym is) ∙ has_beyond words row_words width high row bit (omega (arith, width_is))

  pub word_below : (row index : ℕ) → row < height v → index < row_words → row * row_words + index < length words
  word_below row index row_below below = word_within words row_words width high keeps row index (row_in_range row row_below) below

  -- a scan from a place on has come to a word
  module _ (row from index first word : ℕ) (row_below : row < height v) (begun : from / 64 ≤ index) (first_is : first ≡ from - index * 64) (word_is : word ≡ get_or words (row * row_words + index) 0) (none_yet : (k : ℕ) → from ≤ k → k / 64 < index → has v row k ≡ false) where
    in_word : (k : ℕ) → k / 64 ≡ index → k < v.width → has v row k ≡ is_one word (k % 64)
    in_word k at below =
        sym (bit_seen row k row_below below)
        ∙ ap (λ (i : ℕ). is_one (get_or words (row * row_words + i) 0) (k % 64)) at
        ∙ ap (λ (w : ℕ). is_one w (k % 64)) (sym word_is)

    clear_below : (end : ℕ) → ((k : ℕ) → first ≤ k → k < end → is_one word k ≡ false) → (k : ℕ) → from ≤ k → k / 64 ≤ index → (k / 64 ≡ index → k % 64 < end) → has v row k ≡ false
    clear_below end clear k above at_most within =
        elim (cases_lt (k / 64) index) [
          | inl before ↦ none_yet k above before
          | inr here ↦
              let at : k / 64 ≡ index = omega arith in
              elim (cases_lt k v.width) [
                | inl below ↦ in_word k at below ∙ clear (k % 64) (omega arith) (within at)
                | inr past ↦ beyond_seen row k past
              ]
        ]

    pub none_in_word : ((k : ℕ) → first ≤ k → k < 64 → is_one word k ≡ false) → (k : ℕ) → from ≤ k → k / 64 < index + 1 → has v row k ≡ false
    none_in_word clear k above at_most = clear_below 64 clear k above (omega arith) (λ at. omega arith)

    module _ (place : ℕ) (place_from : first ≤ place) (place_below : place < 64) (there : is_one word place ≡ true) (clear : (k : ℕ) → first ≤ k → k < place → is_one word k ≡ false) where
      before : (k : ℕ) → from ≤ k → k < index * 64 + place → has v row k ≡ false
      before k above below = clear_below place clear k above (omega arith) (λ at. omega arith)

      pub found : index * 64 + place < v.width → IsFirstFrom v row from (Some (index * 64 + place))
      found below =
          let word_at : (index * 64 + place) / 64 ≡ index = omega arith in
          let place_at : (index * 64 + place) % 64 ≡ place = omega arith in
          (omega arith, in_word (index * 64 + place) word_at below ∙ ap (is_one word) place_at ∙ there, before)

      pub found_beyond : v.width ≤ index * 64 + place → IsFirstFrom v row from None
      found_beyond past k above =
          elim (cases_lt k v.width) [
            | inl below ↦ before k above (omega arith)
            | inr beyond ↦ beyond_seen row k beyond
          ]

  pub none_found : (row from index : ℕ) → row_words ≤ index → ((k : ℕ) → from ≤ k → k / 64 < index → has v row k ≡ false) → IsFirstFrom v row from None
  none_found row from index ended none_yet k above =
      elim (cases_lt k v.width) [
        | inl below ↦ none_yet k above (omega (arith, Rattle.bit_rows.proofs.Kept.word_of words row_words width high keeps k (bit_in_range k below)))
        | inr beyond ↦ beyond_seen row k beyond
      ]

  -- a row is joined to another
  module _ (into from : ℕ) (but : Option ℕ) (new : List ℕ) (into_below : into < height v) (from_below : from < height v) (long : length new ≡ length words) (joined : (k : ℕ) → k / 64 < row_words → bit_in new row_words into k ≡ (bit_in words row_words into k || (bit_in words row_words from k && not (is_left_out but k)))) (others : (n k : ℕ) → k / 64 < row_words → (n ≡ into → ⊥) → bit_in new row_words n k ≡ bit_in words row_words n k) where
    nothing : (a b c : Bool) → a ≡ false → b ≡ false → (a || (b && c)) ≡ false
    nothing a b c p q = rw p (rw q refl)

    pub join_keeps : Keeps new row_words width high
    join_keeps =
        record {
          all = long ∙ keeps.all;
          wide = keeps.wide;
          small = keeps.small;
          few = keeps.few;
          clean = clean;
        }
      where
        clean : (row bit : ℕ) → row < high → width ≤ bit → bit / 64 < row_words → bit_in new row_words row bit ≡ false
        clean row bit row_below above bit_below =
            elim (cases_eq row into) [
              | inl e ↦
                  ap (λ (n : ℕ). bit_in new row_words n bit) e
                  ∙ joined bit bit_below
                  ∙ nothing _ _ _ (keeps.clean into bit (row_in_range into into_below) above bit_below) (keeps.clean from bit (row_in_range from from_below) above bit_below)
              | inr apart ↦ others row bit bit_below apart ∙ keeps.clean row bit row_below above bit_below
            ]

    pub join_high : height (view new row_words width high) ≡ height v
    join_high = length-rows_in new row_words width high ∙ sym high_is

    pub join_seen : (k : ℕ) → has (view new row_words width high) into k ≡ (has v into k || (has v from k && not (is_left_out but k)))
    join_seen k =
        elim (cases_lt k v.width) [
          | inl below ↦
              has_in new row_words width high into k (row_in_range into into_below) (bit_in_range k below)
              ∙ joined k (Rattle.bit_rows.proofs.Kept.word_of words row_words width high keeps k (bit_in_range k below))
              ∙ ap (λ (b : Bool). b || (bit_in words row_words from k && not (is_left_out but k))) (bit_seen into k into_below below)
              ∙ ap (λ (b : Bool). has v into k || (b && not (is_left_out but k))) (bit_seen from k from_below below)
          | inr above ↦
              has_beyond new row_words width high into k (omega (arith, width_is))
              ∙ sym (nothing _ _ _ (beyond_seen into k above) (beyond_seen from k above))
        ]

    pub join_others_seen : (n k : ℕ) → (n ≡ into → ⊥) → has (view new row_words width high) n k ≡ has v n k
    join_others_seen n k apart =
        Rattle.bit_rows.proofs.Kept.same_has words new row_words width high n k (λ n_below k_below. others n k (Rattle.bit_rows.proofs.Kept.word_of words row_words width high keeps k k_below) apart)
        ∙ ap (λ (r : Rows). has r n k) is

    pub join_new_seen : (k : ℕ) → k / 64 < row_words → bit_in words row_words into k ≡ false → bit_in new row_words into k ≡ true → (j : ℕ) × (j < v.width) × (has v into j ≡ false) × (has (view new row_words width high) into j ≡ true)
    join_new_seen k k_below was now =
        elim (cases_lt k v.width) [
          | inl below ↦
              (k, below, sym (bit_seen into k into_below below) ∙ was, has_in new row_words width high into k (row_in_range into into_below) (bit_in_range k below) ∙ now)
          | inr above ↦ absurd (differ _ now (join_keeps.clean into k (row_in_range into into_below) (omega (arith, width_is)) k_below))
        ]
      where
        differ : (b : Bool) → b ≡ true → b ≡ false → ⊥
        differ true p q = cc
        differ false p q = cc
