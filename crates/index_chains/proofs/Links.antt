-- Links after two writes.
use Rattle.std.proofs.Common.{◌≡◌, ◌≢◌, ℕ, suc, ◌<◌, List, [], ◌∷◌, length, get_or, set, slice_get, Some, refl, ◌∙◌, inl, inr, arith, length-set, get_or-set_same, get_or-set_other}
use Rattle.std.proofs.lemmas.Bool.{cases_eq}
use Rattle.index_chains.specs.Rings.{Leads}

-- the second list is the first with two links changed
pub record Changed (xs ys : List ℕ) (i a j b : ℕ) : Type 0 where
  pub long : length ys ≡ length xs
  pub one : get_or ys i 0 ≡ a
  pub two : get_or ys j 0 ≡ b
  pub other : (c : ℕ) → c ≢ i → c ≢ j → get_or ys c 0 ≡ get_or xs c 0

pub changed : (xs : List ℕ) (i a j b : ℕ) → i < length xs → j < length xs → i ≢ j → Changed xs (set (set xs i a) j b) i a j b
changed xs i a j b in_i in_j apart =
    record {
      long = length-set (set xs i a) j b ∙ length-set xs i a;
      one = get_or-set_other (set xs i a) j i b 0 apart ∙ get_or-set_same xs i a 0 in_i;
      two = get_or-set_same (set xs i a) j b 0 (omega (arith, length-set xs i a));
      other = λ c ne_i ne_j. get_or-set_other (set xs i a) j c b 0 ne_j ∙ get_or-set_other xs i c a 0 ne_i;
    }

pub flipped : (xs ys : List ℕ) (i a j b : ℕ) → Changed xs ys i a j b → Changed xs ys j b i a
flipped xs ys i a j b h = record { long = h.long; one = h.two; two = h.one; other = λ c ne_j ne_i. h.other c ne_i ne_j }

-- the links still lead through nodes whose links are as before
pub still_leads : (next next' : List ℕ) (nodes from from' : ℕ) (xs : List ℕ) (to : ℕ) → Leads next nodes from xs to → get_or next' from' 0 ≡ get_or next from 0 → ((place x : ℕ) → slice_get xs place ≡ Some x → get_or next' x 0 ≡ get_or next x 0) → Leads next' nodes from' xs to
still_leads next next' nodes from from' [] to leads same rest = same ∙ leads
still_leads next next' nodes from from' (x ∷ xs) to leads same rest =
    (same ∙ leads.0, leads.1, still_leads next next' nodes x x xs to leads.2 (rest 0 x refl) (λ place. rest (suc place)))

module _ (next prev next' prev' : List ℕ) (there : (c : ℕ) → c < length next → get_or prev (get_or next c 0) 0 ≡ c) where
  -- where a node is put between two neighbours, each link back still undoes the link there
  pub there_between : (before node after c : ℕ) → Changed next next' node after before node → Changed prev prev' after node node before → get_or next before 0 ≡ after → get_or next node 0 ≡ node → before < length next → node < length next → c < length next → get_or prev' (get_or next' c 0) 0 ≡ c
  there_between before node after c n p leads lone in_before in_node below =
      elim (cases_eq c before) [
        | inl e ↦ let e1 = n.two in let e2 = p.two in cc
        | inr ne ↦ elim (cases_eq c node) [
          | inl e ↦ let e1 = n.one in let e2 = p.one in cc
          | inr ne' ↦
              let t : get_or prev (get_or next c 0) 0 ≡ c = there c below in
              let t1 : get_or prev (get_or next before 0) 0 ≡ before = there before in_before in
              let t2 : get_or prev (get_or next node 0) 0 ≡ node = there node in_node in
              let s : get_or next' c 0 ≡ get_or next c 0 = n.other c ne' ne in
              let ne_node : get_or next c 0 ≢ node = λ d. ne' cc in
              let ne_after : get_or next c 0 ≢ after = λ d. ne cc in
              let u : get_or prev' (get_or next c 0) 0 ≡ get_or prev (get_or next c 0) 0 = p.other (get_or next c 0) ne_after ne_node in
              cc
        ]
      ]

  -- and where a node is taken out from between two neighbours
  pub there_without : (before node after c : ℕ) → Changed next next' before after node node → Changed prev prev' after before node node → get_or next before 0 ≡ node → get_or next node 0 ≡ after → before < length next → node < length next → c < length next → get_or prev' (get_or next' c 0) 0 ≡ c
  there_without before node after c n p leads leads' in_before in_node below =
      elim (cases_eq c before) [
        | inl e ↦ let e1 = n.one in let e2 = p.one in cc
        | inr ne ↦ elim (cases_eq c node) [
          | inl e ↦ let e1 = n.two in let e2 = p.two in cc
          | inr ne' ↦
              let t : get_or prev (get_or next c 0) 0 ≡ c = there c below in
              let t1 : get_or prev (get_or next before 0) 0 ≡ before = there before in_before in
              let t2 : get_or prev (get_or next node 0) 0 ≡ node = there node in_node in
              let s : get_or next' c 0 ≡ get_or next c 0 = n.other c ne ne' in
              let ne_node : get_or next c 0 ≢ node = λ d. ne cc in
              let ne_after : get_or next c 0 ≢ after = λ d. ne' cc in
              let u : get_or prev' (get_or next c 0) 0 ≡ get_or prev (get_or next c 0) 0 = p.other (get_or next c 0) ne_after ne_node in
              cc
        ]
      ]

-- a link that was changed leads into the cells where the new ones do
pub still_in : (xs ys : List ℕ) (i a j b most c : ℕ) → Changed xs ys i a j b → a < most → b < most → get_or xs c 0 < most → get_or ys c 0 < most
still_in xs ys i a j b most c h in_a in_b was =
    elim (cases_eq c i) [
      | inl e ↦ rw e (omega (arith, h.one))
      | inr ne ↦ elim (cases_eq c j) [ inl e ↦ rw e (omega (arith, h.two)) | inr ne' ↦ omega (arith, h.other c ne ne') ]
    ]
