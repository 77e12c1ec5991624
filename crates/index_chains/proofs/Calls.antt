-- What each call does to the links, said of the value that contracts see.
use Rattle.std.proofs.Common.{◌≡◌, ◌≢◌, ℕ, ◌+◌, ◌^◌, ◌<◌, ◌↔◌, List, [], length, get_or, set, replicate, slice_get, Option, Some, None, IfSome, not, nat_eq, nat_lt, if◌then◌else◌, IsTrue, refl, sym, ap, subst, ◌∙◌, arith, ne_eqb}
use Rattle.std.proofs.lemmas.Bool.{eqb-false, not-true, not_from_false}
use Rattle.std.proofs.lemmas.List.{get_or_read}
use Rattle.index_chains.specs.Lists.{Lists, list_at, Stands, IsLinked, IsDisjoint, with_front, without, LeavesOthers}
use Rattle.index_chains.specs.Rings.{Keeps, rings}
use Rattle.index_chains.proofs.Members.{linked-put_first, linked_still, linked_already, linked_left, linked_before, linked-replicate}
use Rattle.index_chains.proofs.Front.{with_front-Keeps}
use Rattle.index_chains.proofs.Removal.{without-Keeps}
use Rattle.index_chains.proofs.Views.{rings-Keeps, itself, first_is, next_is, not_lone, disjoint, lone-Keeps}

abbrev pub view : List ℕ → ℕ → Lists
view next nodes = record { lists = rings next nodes; nodes = nodes }

-- links that keep these lists are seen as them
pub record Shows (next prev : List ℕ) (nodes : ℕ) (value : Lists) : Type 0 where
  pub keeps : Keeps next prev nodes (rings next nodes)
  pub is : view next nodes ≡ value

shows : (next prev : List ℕ) (nodes : ℕ) (lists : List (List ℕ)) → Keeps next prev nodes lists → Shows next prev nodes (record { lists = lists; nodes = nodes })
shows next prev nodes lists k =
    record {
      keeps = itself next prev nodes lists k;
      is = ap (λ (ls : List (List ℕ)). record { lists = ls; nodes = nodes }) (rings-Keeps next prev nodes lists k);
    }

module _ (next prev : List ℕ) (nodes : ℕ) (value : Lists) (is : view next nodes ≡ value) (keeps : Keeps next prev nodes (rings next nodes)) where
  k : Keeps next prev nodes value.lists
  k = subst (λ (ls : List (List ℕ)). Keeps next prev nodes ls) (ap (λ (v : Lists). v.lists) is) keeps

  same_nodes : nodes ≡ value.nodes
  same_nodes = ap (λ (v : Lists). v.nodes) is

  at_cell : (c x : ℕ) → c < length next → x ≡ get_or next c x → get_or next c 0 ≡ x
  at_cell c x below e = sym (get_or_read next c x below e 0)

  -- the new links keep these lists
  now_shows : (next' prev' : List ℕ) (lists : List (List ℕ)) → Keeps next' prev' nodes lists → Shows next' prev' nodes (record value { lists = lists })
  now_shows next' prev' lists h = subst (λ (m : ℕ). Shows next' prev' nodes (record { lists = lists; nodes = m })) same_nodes (shows next' prev' nodes lists h)

  pub front_shows : (head node first : ℕ) → head < length value.lists → node < value.nodes → (IsLinked value.lists node → ⊥) → first ≡ get_or next (nodes + head) first
      → Shows (set (set next node first) (nodes + head) node) (set (set prev first node) node (nodes + head)) nodes (with_front value head node)
  front_shows head node first head_in node_in unlinked e =
      let same = same_nodes in
      now_shows _ _ _ (with_front-Keeps next prev nodes value.lists head node first k head_in (omega arith) unlinked (at_cell (nodes + head) first (omega (arith, k.cells)) e))

  pub removal_shows : (node before after : ℕ) → node < value.nodes → IsLinked value.lists node → before ≡ get_or prev node before → after ≡ get_or next node after
      → Shows (set (set next before after) node node) (set (set prev after before) node node) nodes (without value node)
  removal_shows node before after node_in linked b a =
      let same = same_nodes in
      now_shows _ _ _
      (without-Keeps next prev nodes value.lists node before after k (omega arith) linked
      (sym (get_or_read prev node before (omega (arith, k.cells, k.as_many)) b 0))
      (at_cell node after (omega (arith, k.cells)) a))

  node_seen : (cell : ℕ) → (if nat_lt cell value.nodes then Some cell else None) ≡ (if nat_lt cell nodes then Some cell else None)
  node_seen cell = ap (λ (m : ℕ). if nat_lt cell m then Some cell else None) (sym same_nodes)

  pub first_shows : (head cell : ℕ) → head < length value.lists → cell ≡ get_or next (nodes + head) cell → (if nat_lt cell value.nodes then Some cell else None) ≡ slice_get (list_at value.lists head) 0
  first_shows head cell head_in e =
      node_seen cell
      ∙ ap (λ (c : ℕ). if nat_lt c nodes then Some c else None) (sym (at_cell (nodes + head) cell (omega (arith, k.cells)) e))
      ∙ first_is next prev nodes value.lists k head head_in

  module _ (node after : ℕ) (node_in : node < value.nodes) (e : after ≡ get_or next node after) where
    after_is : get_or next node 0 ≡ after
    after_is = let same = same_nodes in at_cell node after (omega (arith, k.cells)) e

    pub next_shows : (head place : ℕ) → Stands value.lists head place node → (if nat_lt after value.nodes then Some after else None) ≡ slice_get (list_at value.lists head) (place + 1)
    next_shows head place at =
        node_seen after
        ∙ ap (λ (c : ℕ). if nat_lt c nodes then Some c else None) (sym after_is)
        ∙ next_is next prev nodes value.lists k head place node at

    pub apart_shows : IsLinked value.lists node → after ≢ node
    apart_shows linked same = not_lone next prev nodes value.lists k node linked (after_is ∙ same)

    pub linked_shows : after ≢ node → IsLinked value.lists node
    linked_shows apart = let same = same_nodes in k.alone node (omega arith) (λ d. apart (sym after_is ∙ d))

    pub test_shows : IsTrue (not (nat_eq after node)) ↔ IsLinked value.lists node
    test_shows = (λ t. linked_shows (eqb-false after node (not-true _ t)), λ linked. not_from_false _ (ne_eqb after node (apart_shows linked)))

  pub disjoint_shows : IsDisjoint value
  disjoint_shows = subst (λ (m : ℕ). IsDisjoint (record { lists = value.lists; nodes = m })) same_nodes (disjoint next prev nodes value.lists k)

pub new_shows : (next prev : List ℕ) (heads nodes : ℕ) → nodes < 2 ^ 32 → length next ≡ nodes + heads → length prev ≡ nodes + heads → ((c : ℕ) → c < nodes + heads → get_or next c 0 ≡ c) → ((c : ℕ) → c < nodes + heads → get_or prev c 0 ≡ c) → Shows next prev nodes (record { lists = replicate heads []; nodes = nodes })
new_shows next prev heads nodes small long long' self self' = shows next prev nodes (replicate heads []) (lone-Keeps next prev heads nodes small long long' self self')

-- which nodes stand in lists after a call
module _ (old new : Lists) (node : ℕ) where
  pub front_linked : (head : ℕ) → new ≡ with_front old head node → head < length old.lists → IsLinked new.lists node
  front_linked head e head_in = subst (λ (v : Lists). IsLinked v.lists node) (sym e) (linked-put_first old.lists head node head_in)

  pub front_others : (head : ℕ) → new ≡ with_front old head node → head < length old.lists → LeavesOthers old new node
  front_others head e head_in =
      subst (λ (v : Lists). LeavesOthers old v node) (sym e)
      (λ other ne. (linked_already old.lists head node head_in other ne, linked_still old.lists head node head_in other))

  pub removal_unlinked : new ≡ without old node → IsLinked new.lists node → ⊥
  removal_unlinked e = subst (λ (v : Lists). IsLinked v.lists node → ⊥) (sym e) (λ linked. (linked_before node old.lists node linked).0 refl)

  pub removal_others : new ≡ without old node → LeavesOthers old new node
  removal_others e =
      subst (λ (v : Lists). LeavesOthers old v node) (sym e)
      (λ other ne. (λ linked. (linked_before node old.lists other linked).1, linked_left node old.lists other ne))

pub new_unlinked : (heads nodes : ℕ) (made : Lists) → made ≡ record { lists = replicate heads []; nodes = nodes } → (node : ℕ) → IsLinked made.lists node → ⊥
new_unlinked heads nodes made e = subst (λ (v : Lists). (node : ℕ) → IsLinked v.lists node → ⊥) (sym e) (linked-replicate heads)

-- what was read from a place stands in a list
pub read_linked : (lists : List (List ℕ)) (head place : ℕ) (found : Option ℕ) → found ≡ slice_get (list_at lists head) place → IfSome found (IsLinked lists)
read_linked lists head place None e = tt
read_linked lists head place (Some node) e = (head, place, sym e)
