-- The links after a node was put first in a list.
use Rattle.std.proofs.Common.{◌≡◌, ◌≢◌, ℕ, ◌+◌, ◌<◌, List, ◌∷◌, length, get_or, set, sym, ap, subst, ◌∙◌, inl, inr, arith, length-set}
use Rattle.std.proofs.lemmas.Bool.{cases_eq}
use Rattle.index_chains.specs.Lists.{list_at, Stands, IsLinked}
use Rattle.index_chains.specs.Rings.{Leads, Keeps}
use Rattle.index_chains.proofs.Walks.{behind}
use Rattle.index_chains.proofs.Members.{put_first, list_at-same, list_at-other, linked-put_first, linked_still}
use Rattle.index_chains.proofs.Links.{Changed, changed, flipped, still_leads, there_between, still_in}

module _ (next prev : List ℕ) (nodes : ℕ) (lists : List (List ℕ)) (head node first : ℕ) (k : Keeps next prev nodes lists) (in_heads : head < length lists) (in_nodes : node < nodes) (unlinked : IsLinked lists node → ⊥) (leads : get_or next (nodes + head) 0 ≡ first) where
  abbrev lists' : List (List ℕ)
  lists' = put_first lists head node in_heads

  lone : get_or next node 0 ≡ node
  lone = elim (cases_eq (get_or next node 0) node) [ inl e ↦ e | inr ne ↦ absurd (unlinked (k.alone node in_nodes ne)) ]

  pub first_apart : first ≢ node
  first_apart e =
      let t : get_or prev (get_or next (nodes + head) 0) 0 ≡ nodes + head = k.there (nodes + head) (omega (arith, k.cells)) in
      let t' : get_or prev (get_or next node 0) 0 ≡ node = k.there node (omega (arith, k.cells)) in
      let l = lone in
      let same : nodes + head ≡ node = cc in
      omega arith

  module _ (next' prev' : List ℕ) (n : Changed next next' node first (nodes + head) node) (p : Changed prev prev' first node node (nodes + head)) where
    -- a node of the old lists keeps its link
    same_link : (head' place x : ℕ) → head' < length lists → Stands lists head' place x → get_or next' x 0 ≡ get_or next x 0
    same_link head' place x in_heads' at =
        n.other x
        (λ e. unlinked (head', place, subst (λ (y : ℕ). Stands lists head' place y) e at))
        (λ e. omega (arith, (behind next nodes (nodes + head') (list_at lists head') (nodes + head') place x (k.closed head' in_heads') at).0))

    closed' : (head' : ℕ) → head' < length lists → Leads next' nodes (nodes + head') (list_at lists' head') (nodes + head')
    closed' head' below =
        elim (cases_eq head' head) [
          | inl e ↦
              subst (λ (h : ℕ). Leads next' nodes (nodes + h) (list_at lists' h) (nodes + h)) (sym e)
              (subst (λ (xs : List ℕ). Leads next' nodes (nodes + head) xs (nodes + head)) (sym (list_at-same lists head in_heads (node ∷ list_at lists head)))
              (n.two, in_nodes, still_leads next next' nodes (nodes + head) node (list_at lists head) (nodes + head) (k.closed head in_heads) (n.one ∙ sym leads) (λ place x. same_link head place x in_heads)))
          | inr ne ↦
              subst (λ (xs : List ℕ). Leads next' nodes (nodes + head') xs (nodes + head')) (sym (list_at-other lists head in_heads (node ∷ list_at lists head) head' ne))
              (still_leads next next' nodes (nodes + head') (nodes + head') (list_at lists head') (nodes + head') (k.closed head' below)
              (n.other (nodes + head') (omega arith) (omega arith))
              (λ place x. same_link head' place x below))
        ]

    alone' : (other : ℕ) → other < nodes → get_or next' other 0 ≢ other → IsLinked lists' other
    alone' other below ne =
        elim (cases_eq other node) [
          | inl e ↦ subst (λ (y : ℕ). IsLinked lists' y) (sym e) (linked-put_first lists head node in_heads)
          | inr apart ↦
              let s : get_or next' other 0 ≡ get_or next other 0 = n.other other apart (omega arith) in
              linked_still lists head node in_heads other (k.alone other below (λ e. ne (s ∙ e)))
        ]

    front : Keeps next' prev' nodes lists'
    front =
        let long = k.cells in
        let in_head : nodes + head < length next = omega arith in
        let in_node : node < length next = omega arith in
        let in_first : first < length next = subst (λ (c : ℕ). c < length next) leads (k.next_in (nodes + head) in_head) in
        let l = lone in
        let back_first : get_or prev first 0 ≡ nodes + head = let t = k.there (nodes + head) in_head in cc in
        let back_lone : get_or prev node 0 ≡ node = let t = k.there node in_node in cc in
        record {
          small = k.small;
          cells = n.long ∙ k.cells ∙ ap (λ (m : ℕ). nodes + m) (sym (length-set lists head (node ∷ list_at lists head)));
          as_many = p.long ∙ k.as_many ∙ sym n.long;
          next_in = λ c below. still_in next next' node first (nodes + head) node (length next') c n (omega (arith, n.long)) (omega (arith, n.long)) (omega (arith, n.long, k.next_in c (omega (arith, n.long))));
          prev_in = λ c below. still_in prev prev' first node node (nodes + head) (length next') c p (omega (arith, n.long)) (omega (arith, n.long)) (omega (arith, n.long, k.prev_in c (omega (arith, n.long))));
          there = λ c below. there_between next prev next' prev' k.there (nodes + head) node first c n p leads l in_head in_node (omega (arith, n.long));
          back =
              λ c below. there_between prev next prev' next' (λ d in_d. k.back d (omega (arith, k.as_many))) first node (nodes + head) c
              (flipped prev prev' first node node (nodes + head) p)
              (flipped next next' node first (nodes + head) node n)
              back_first back_lone
              (omega (arith, k.as_many))
              (omega (arith, k.as_many))
              (omega (arith, n.long, k.as_many));
          closed = λ head' below. closed' head' (omega (arith, length-set lists head (node ∷ list_at lists head)));
          alone = alone';
        }

  -- the two links there and the two links back, as they are written
  pub with_front-Keeps : Keeps (set (set next node first) (nodes + head) node) (set (set prev first node) node (nodes + head)) nodes lists'
  with_front-Keeps =
      let in_first : first < length next = subst (λ (c : ℕ). c < length next) leads (k.next_in (nodes + head) (omega (arith, k.cells))) in
      front _ _
      (changed next node first (nodes + head) node (omega (arith, k.cells)) (omega (arith, k.cells)) (omega arith))
      (changed prev first node node (nodes + head) (omega (arith, k.as_many)) (omega (arith, k.cells, k.as_many)) first_apart)
