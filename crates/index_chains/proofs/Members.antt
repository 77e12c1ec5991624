-- Which nodes stand in lists after a node was put in or taken out.
use Rattle.std.proofs.Common.{◌≡◌, ◌≢◌, ℕ, suc, zero, ◌<◌, List, [], ◌∷◌, length, set, map, filter, not, ◌==◌, slice_get, Some, replicate, sym, ap, subst, ◌∙◌, inl, inr, arith, eq-eqb, ne_eqb, get_or-set_same, get_or-set_other}
use Rattle.std.proofs.lemmas.Bool.{cases_eq, cond-true, cond-false, not_from_true, not_from_false}
use Rattle.std.proofs.lemmas.List.{get_or-map, get_or-replicate, length-map, length-replicate}
use Rattle.index_chains.specs.Lists.{list_at, Stands, IsLinked}

-- only heads have nodes
pub in_heads : (lists : List (List ℕ)) (head place node : ℕ) → Stands lists head place node → head < length lists
in_heads [] head place node at = cc
in_heads (xs ∷ lists) zero place node at = omega arith
in_heads (xs ∷ lists) (suc head) place node at = omega (arith, in_heads lists head place node at)

-- no node stands in empty lists
pub linked-replicate : (heads node : ℕ) → IsLinked (replicate heads []) node → ⊥
linked-replicate heads node linked =
    let below : linked.0 < heads = omega (arith, in_heads (replicate heads []) linked.0 linked.1 node linked.2, length-replicate {A = List ℕ} heads []) in
    let at : Stands (replicate heads []) linked.0 linked.1 node = linked.2 in
    let none : slice_get [] linked.1 ≡ Some node = sym (ap (λ (xs : List ℕ). slice_get xs linked.1) (get_or-replicate {A = List ℕ} heads linked.0 [] [] below)) ∙ at in
    cc

-- the list of a head of lists of which one was replaced
module _ (lists : List (List ℕ)) (head : ℕ) (in_lists : head < length lists) (xs : List ℕ) where
  pub list_at-same : list_at (set lists head xs) head ≡ xs
  list_at-same = get_or-set_same lists head xs [] in_lists

  pub list_at-other : (head' : ℕ) → head' ≢ head → list_at (set lists head xs) head' ≡ list_at lists head'
  list_at-other head' ne = get_or-set_other lists head head' xs [] ne

-- a node was put first in a list
module _ (lists : List (List ℕ)) (head node : ℕ) (in_lists : head < length lists) where
  abbrev pub put_first : List (List ℕ)
  put_first = set lists head (node ∷ list_at lists head)

  same : list_at put_first head ≡ node ∷ list_at lists head
  same = list_at-same lists head in_lists (node ∷ list_at lists head)

  pub linked-put_first : IsLinked put_first node
  linked-put_first = (head, 0, ap (λ (xs : List ℕ). slice_get xs 0) same)

  pub linked_still : (other : ℕ) → IsLinked lists other → IsLinked put_first other
  linked_still other linked =
      elim (cases_eq linked.0 head) [
        | inl e ↦ (head, suc linked.1, ap (λ (xs : List ℕ). slice_get xs (suc linked.1)) same ∙ subst (λ (h : ℕ). Stands lists h linked.1 other) e linked.2)
        | inr ne ↦ (linked.0, linked.1, ap (λ (xs : List ℕ). slice_get xs linked.1) (list_at-other lists head in_lists _ linked.0 ne) ∙ linked.2)
      ]

  pub linked_already : (other : ℕ) → other ≢ node → IsLinked put_first other → IsLinked lists other
  linked_already other ne linked =
      elim (cases_eq linked.0 head) [
        | inl e ↦ behind linked.1 (sym (ap (λ (xs : List ℕ). slice_get xs linked.1) same) ∙ subst (λ (h : ℕ). Stands put_first h linked.1 other) e linked.2)
        | inr ne' ↦ (linked.0, linked.1, sym (ap (λ (xs : List ℕ). slice_get xs linked.1) (list_at-other lists head in_lists _ linked.0 ne')) ∙ linked.2)
      ]
    where
      behind : (place : ℕ) → slice_get (node ∷ list_at lists head) place ≡ Some other → IsLinked lists other
      behind zero at = absurd (ne cc)
      behind (suc place) at = (head, place, at)

-- a node was taken out
module _ (node : ℕ) where
  abbrev pub rest_of : List ℕ → List ℕ
  rest_of xs = filter (λ other. not (other == node)) xs

  pub rest_of-kept : (x : ℕ) (xs : List ℕ) → x ≢ node → rest_of (x ∷ xs) ≡ x ∷ rest_of xs
  rest_of-kept x xs ne = cond-true _ _ _ (not_from_false _ (ne_eqb x node ne))

  pub rest_of-gone : (x : ℕ) (xs : List ℕ) → x ≡ node → rest_of (x ∷ xs) ≡ rest_of xs
  rest_of-gone x xs e = cond-false _ _ _ (not_from_true _ (eq-eqb x node e))

  -- another node stands somewhere in what is left
  place_left : (xs : List ℕ) (place other : ℕ) → slice_get xs place ≡ Some other → other ≢ node → (place' : ℕ) × (slice_get (rest_of xs) place' ≡ Some other)
  place_left [] place other at apart = cc
  place_left (x ∷ xs) zero other at apart =
      let e : x ≡ other = cc in
      (0, ap (λ (ys : List ℕ). slice_get ys 0) (rest_of-kept x xs (λ d. apart (sym e ∙ d))) ∙ at)
  place_left (x ∷ xs) (suc place) other at apart =
      let left = place_left xs place other at apart in
      elim (cases_eq x node) [
        | inl e ↦ (left.0, ap (λ (ys : List ℕ). slice_get ys left.0) (rest_of-gone x xs e) ∙ left.1)
        | inr ne ↦ (suc left.0, ap (λ (ys : List ℕ). slice_get ys (suc left.0)) (rest_of-kept x xs ne) ∙ left.1)
      ]

  -- what is left is another node that stood there
  place_before : (xs : List ℕ) (place other : ℕ) → slice_get (rest_of xs) place ≡ Some other → (other ≢ node) × ((place' : ℕ) × (slice_get xs place' ≡ Some other))
  place_before [] place other at = cc
  place_before (x ∷ xs) zero other at =
      elim (cases_eq x node) [
        | inl e ↦
            let was = place_before xs zero other (sym (ap (λ (ys : List ℕ). slice_get ys 0) (rest_of-gone x xs e)) ∙ at) in
            (was.0, (suc was.1.0, was.1.1))
        | inr ne ↦
            let first : Some x ≡ Some other = sym (ap (λ (ys : List ℕ). slice_get ys 0) (rest_of-kept x xs ne)) ∙ at in
            ((λ d. ne cc), (0, first))
      ]
  place_before (x ∷ xs) (suc place) other at =
      elim (cases_eq x node) [
        | inl e ↦
            let was = place_before xs (suc place) other (sym (ap (λ (ys : List ℕ). slice_get ys (suc place)) (rest_of-gone x xs e)) ∙ at) in
            (was.0, (suc was.1.0, was.1.1))
        | inr ne ↦
            let was = place_before xs place other (sym (ap (λ (ys : List ℕ). slice_get ys (suc place)) (rest_of-kept x xs ne)) ∙ at) in
            (was.0, (suc was.1.0, was.1.1))
      ]

  module _ (lists : List (List ℕ)) where
    abbrev pub rests : List (List ℕ)
    rests = map rest_of lists

    pub linked_left : (other : ℕ) → other ≢ node → IsLinked lists other → IsLinked rests other
    linked_left other apart linked =
        let left = place_left (list_at lists linked.0) linked.1 other linked.2 apart in
        (linked.0, left.0, ap (λ (xs : List ℕ). slice_get xs left.0) (get_or-map rest_of lists linked.0 [] [] (in_heads lists linked.0 linked.1 other linked.2)) ∙ left.1)

    pub linked_before : (other : ℕ) → IsLinked rests other → (other ≢ node) × IsLinked lists other
    linked_before other linked =
        let below : linked.0 < length lists = omega (arith, in_heads rests linked.0 linked.1 other linked.2, length-map lists rest_of) in
        let was = place_before (list_at lists linked.0) linked.1 other (sym (ap (λ (xs : List ℕ). slice_get xs linked.1) (get_or-map rest_of lists linked.0 [] [] below)) ∙ linked.2) in
        (was.0, (linked.0, was.1.0, was.1.1))
