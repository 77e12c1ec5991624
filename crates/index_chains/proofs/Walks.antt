-- Walks along links that lead from a cell through nodes to a head.
use Rattle.std.proofs.Common.{◌≡◌, ℕ, zero, suc, ◌+◌, ◌-◌, ◌<◌, ◌≤◌, List, [], ◌∷◌, length, get_or, drop, Some, None, true, false, eqb, nat_lt, slice_get, if◌then◌else◌, refl, sym, ap, subst, ◌∙◌, inl, inr, arith, length-drop, le-ltb, lt-ltb, ne_eqb, eqb-true}
use Rattle.std.specs.List.{AllByRecursion, IsDistinct, list_any}
use Rattle.std.proofs.lemmas.Bool.{cond-true, cond-false, or_cases}
use Rattle.std.proofs.lemmas.Option.{slice_get_within}
use Rattle.std.proofs.lemmas.List.FromFn.{fill_by_all}
use Rattle.std.proofs.lemmas.Map.Steps.{length-le_from_distinct_below}
use Rattle.index_chains.specs.Lists.{list_at}
use Rattle.index_chains.specs.Rings.{walk, ring, rings, Leads}

module _ (next : List ℕ) (nodes : ℕ) where
  -- a walk finds the nodes that the links lead through
  walk-Leads : (from : ℕ) (xs : List ℕ) (to most : ℕ) → Leads next nodes from xs to → nodes ≤ to → length xs ≤ most → walk most next nodes (get_or next from 0) ≡ xs
  walk-Leads from [] to zero leads out short = refl
  walk-Leads from [] to (suc most) leads out short = cond-false _ _ _ (le-ltb (get_or next from 0) nodes (omega arith))
  walk-Leads from (x ∷ xs) to zero leads out short = absurd (omega arith)
  walk-Leads from (x ∷ xs) to (suc most) leads out short =
      rw leads.0 (cond-true _ _ _ (lt-ltb x nodes leads.1) ∙ ap (λ (r : List ℕ). x ∷ r) (walk-Leads x xs to most leads.2 out (omega arith)))

  -- the links lead from a cell in one way
  pub same_way : (from : ℕ) (xs ys : List ℕ) (to to' : ℕ) → Leads next nodes from xs to → Leads next nodes from ys to' → nodes ≤ to → nodes ≤ to' → (xs ≡ ys) × (to ≡ to')
  same_way from [] [] to to' one two out out' = (refl, sym one ∙ two)
  same_way from [] (y ∷ ys) to to' one two out out' = absurd (omega arith)
  same_way from (x ∷ xs) [] to to' one two out out' = absurd (omega arith)
  same_way from (x ∷ xs) (y ∷ ys) to to' one two out out' =
      let e : y ≡ x = sym two.0 ∙ one.0 in
      let rest = same_way x xs ys to to' one.2 (subst (λ (c : ℕ). Leads next nodes c ys to') e two.2) out out' in
      let h : xs ≡ ys = rest.0 in
      (cc, rest.1)

  -- from a node in a walk the links lead through what stands behind it
  pub behind : (from : ℕ) (xs : List ℕ) (to place node : ℕ) → Leads next nodes from xs to → slice_get xs place ≡ Some node → (node < nodes) × Leads next nodes node (drop (suc place) xs) to
  behind from [] to place node leads at = cc
  behind from (x ∷ xs) to zero node leads at =
      let e : x ≡ node = cc in
      (subst (λ (c : ℕ). c < nodes) e leads.1, subst (λ (c : ℕ). Leads next nodes c xs to) e leads.2)
  behind from (x ∷ xs) to (suc place) node leads at = behind x xs to place node leads.2 at

  -- a node that is linked to itself leads nowhere else
  pub stuck : (node : ℕ) (xs : List ℕ) (to : ℕ) → get_or next node 0 ≡ node → Leads next nodes node xs to → to ≡ node
  stuck node [] to self leads = sym leads ∙ self
  stuck node (x ∷ xs) to self leads = stuck node xs to self (subst (λ (c : ℕ). Leads next nodes c xs to) (sym leads.0 ∙ self) leads.2)

  absent : (x : ℕ) (ys : List ℕ) → ((place : ℕ) → slice_get ys place ≡ Some x → ⊥) → AllByRecursion (λ (y : ℕ). eqb x y ≡ false) ys
  absent x [] not_in = tt
  absent x (y ∷ ys) not_in =
      (ne_eqb x y (λ e. not_in 0 (ap (λ (z : ℕ). Some z) (sym e))), absent x ys (λ place. not_in (suc place)))

  -- no node stands twice in a walk
  distinct : (from : ℕ) (xs : List ℕ) (to : ℕ) → Leads next nodes from xs to → nodes ≤ to → IsDistinct eqb xs
  unfolding IsDistinct
  distinct from [] to leads out = tt
  distinct from (x ∷ xs) to leads out = (absent x xs once, distinct x xs to leads.2 out)
    where
      once : (place : ℕ) → slice_get xs place ≡ Some x → ⊥
      once place at =
          let again = same_way x xs (drop (suc place) xs) to to leads.2 (behind x xs to place x leads.2 at).1 out out in
          omega (arith, ap length again.0, length-drop (suc place) xs, slice_get_within xs place x at)

  in_walk : (from : ℕ) (xs : List ℕ) (to q : ℕ) → Leads next nodes from xs to → list_any (eqb q) xs ≡ true → q < nodes
  in_walk from [] to q leads found = cc
  in_walk from (x ∷ xs) to q leads found =
      elim (or_cases (eqb q x) (list_any (eqb q) xs) found) [
        | inl here ↦ omega (arith, eqb-true q x here, leads.1)
        | inr there ↦ in_walk x xs to q leads.2 there
      ]

  -- so a walk has at most as many nodes as there are
  short : (from : ℕ) (xs : List ℕ) (to : ℕ) → Leads next nodes from xs to → nodes ≤ to → length xs ≤ nodes
  short from xs to leads out = length-le_from_distinct_below xs nodes (distinct from xs to leads out) (λ q. in_walk from xs to q leads)

  -- the list of a head is what the links lead through from the head back to it
  pub ring-Leads : (head : ℕ) (xs : List ℕ) → Leads next nodes (nodes + head) xs (nodes + head) → ring next nodes head ≡ xs
  unfolding ring
  ring-Leads head xs leads = walk-Leads (nodes + head) xs (nodes + head) nodes leads (omega arith) (short (nodes + head) xs (nodes + head) leads (omega arith))

  pub rings-Leads : (lists : List (List ℕ)) → length next ≡ nodes + length lists → ((head : ℕ) → head < length lists → Leads next nodes (nodes + head) (list_at lists head) (nodes + head)) → rings next nodes ≡ lists
  unfolding rings
  rings-Leads lists cells closed =
      sym (fill_by_all (ring next nodes) lists (length next - nodes) [] (omega arith) (λ head below. sym (ring-Leads head (get_or lists head []) (closed head (omega arith)))))

  -- what comes next on a walk
  pub step-Leads : (from : ℕ) (xs : List ℕ) (to : ℕ) → Leads next nodes from xs to → nodes ≤ to → (if nat_lt (get_or next from 0) nodes then Some (get_or next from 0) else None) ≡ slice_get xs 0
  step-Leads from [] to leads out = cond-false _ _ _ (le-ltb (get_or next from 0) nodes (omega arith))
  step-Leads from (x ∷ xs) to leads out = rw leads.0 (cond-true _ _ _ (lt-ltb x nodes leads.1))

-- the first element behind a place
pub slice_get-drop : (xs : List ℕ) (place : ℕ) → slice_get (drop (suc place) xs) 0 ≡ slice_get xs (suc place)
slice_get-drop [] place = refl
slice_get-drop (x ∷ xs) zero = refl
slice_get-drop (x ∷ xs) (suc place) = slice_get-drop xs place
