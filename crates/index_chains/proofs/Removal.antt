-- The links after a node was taken out of its list.
use Rattle.std.proofs.Common.{◌≡◌, ◌≢◌, ℕ, ◌+◌, ◌<◌, List, [], ◌∷◌, length, get_or, set, sym, ap, subst, ◌∙◌, inl, inr, arith}
use Rattle.std.proofs.lemmas.Bool.{cases_eq}
use Rattle.std.proofs.lemmas.List.{get_or-map, length-map}
use Rattle.index_chains.specs.Lists.{list_at, IsLinked}
use Rattle.index_chains.specs.Rings.{Leads, Keeps}
use Rattle.index_chains.proofs.Walks.{behind, stuck}
use Rattle.index_chains.proofs.Members.{in_heads, rest_of, rest_of-kept, rest_of-gone, rests, linked_left}
use Rattle.index_chains.proofs.Links.{Changed, changed, there_without, still_in}

module _ (next prev : List ℕ) (nodes : ℕ) (lists : List (List ℕ)) (node before after : ℕ) (k : Keeps next prev nodes lists) (in_nodes : node < nodes) (linked : IsLinked lists node) (back : get_or prev node 0 ≡ before) (leads : get_or next node 0 ≡ after) where
  abbrev lists' : List (List ℕ)
  lists' = rests node lists

  in_node : node < length next
  in_node = omega (arith, k.cells)

  not_lone : get_or next node 0 ≢ node
  not_lone e =
      let head = linked.0 in
      let rest = behind next nodes (nodes + head) (list_at lists head) (nodes + head) linked.1 node (k.closed head (in_heads lists head linked.1 node linked.2)) linked.2 in
      let same = stuck next nodes node _ (nodes + head) e rest.1 in
      omega arith

  from_before : get_or next before 0 ≡ node
  from_before = let t = k.back node in_node in cc

  to_after : get_or prev after 0 ≡ node
  to_after = let t = k.there node in_node in cc

  only_before : (c : ℕ) → c < length next → get_or next c 0 ≡ node → c ≡ before
  only_before c below e = let t = k.there c below in cc

  before_apart : before ≢ node
  before_apart e = not_lone (let f = from_before in cc)

  after_apart : after ≢ node
  after_apart e = not_lone (leads ∙ e)

  module _ (next' prev' : List ℕ) (n : Changed next next' before after node node) (p : Changed prev prev' after before node node) where
    -- the links lead past the node
    past : (from : ℕ) (xs : List ℕ) (to : ℕ) → Leads next nodes from xs to → from ≢ node → to ≢ node → from < length next → Leads next' nodes from (rest_of node xs) to
    past from [] to way ne ne_to below =
        let f = from_before in
        n.other from (λ e. ne_to cc) ne ∙ way
    past from (x ∷ []) to way ne ne_to below =
        let f = from_before in
        elim (cases_eq x node) [
          | inl e ↦
              let b = only_before from below (way.0 ∙ e) in
              let o = n.one in
              subst (λ (ys : List ℕ). Leads next' nodes from ys to) (sym (rest_of-gone node x [] e)) cc
          | inr ne_x ↦
              subst (λ (ys : List ℕ). Leads next' nodes from ys to) (sym (rest_of-kept node x [] ne_x))
              (n.other from (λ e. ne_x cc) ne ∙ way.0, way.1, past x [] to way.2 ne_x ne_to (omega (arith, way.1, k.cells)))
        ]
    past from (x ∷ y ∷ ys) to way ne ne_to below =
        let f = from_before in
        elim (cases_eq x node) [
          | inl e ↦
              let b = only_before from below (way.0 ∙ e) in
              let o = n.one in
              let ne_y : y ≢ node = λ d. not_lone cc in
              subst (λ (zs : List ℕ). Leads next' nodes from zs to) (sym (rest_of-gone node x (y ∷ ys) e ∙ rest_of-kept node y ys ne_y))
              (cc, way.2.1, past y ys to way.2.2 ne_y ne_to (omega (arith, way.2.1, k.cells)))
          | inr ne_x ↦
              subst (λ (zs : List ℕ). Leads next' nodes from zs to) (sym (rest_of-kept node x (y ∷ ys) ne_x))
              (n.other from (λ e. ne_x cc) ne ∙ way.0, way.1, past x (y ∷ ys) to way.2 ne_x ne_to (omega (arith, way.1, k.cells)))
        ]

    closed' : (head : ℕ) → head < length lists → Leads next' nodes (nodes + head) (list_at lists' head) (nodes + head)
    closed' head below =
        subst (λ (xs : List ℕ). Leads next' nodes (nodes + head) xs (nodes + head)) (sym (get_or-map (rest_of node) lists head [] [] below))
        (past (nodes + head) (list_at lists head) (nodes + head) (k.closed head below) (omega arith) (omega arith) (omega (arith, k.cells)))

    alone' : (other : ℕ) → other < nodes → get_or next' other 0 ≢ other → IsLinked lists' other
    alone' other below ne =
        let apart : other ≢ node = λ e. ne (let t = n.two in cc) in
        linked_left node lists other apart (k.alone other below (λ e. still other ne apart e))
      where
        still : (other : ℕ) → get_or next' other 0 ≢ other → other ≢ node → get_or next other 0 ≡ other → ⊥
        still other ne apart e =
            let f = from_before in
            ne (n.other other (λ d. apart cc) apart ∙ e)

    removed : Keeps next' prev' nodes lists'
    removed =
        let in_before : before < length next = subst (λ (c : ℕ). c < length next) back (k.prev_in node in_node) in
        let in_after : after < length next = subst (λ (c : ℕ). c < length next) leads (k.next_in node in_node) in
        let within = in_node in
        record {
          small = k.small;
          cells = n.long ∙ k.cells ∙ ap (λ (m : ℕ). nodes + m) (sym (length-map lists (rest_of node)));
          as_many = p.long ∙ k.as_many ∙ sym n.long;
          next_in = λ c below. still_in next next' before after node node (length next') c n (omega (arith, n.long)) (omega (arith, n.long)) (omega (arith, n.long, k.next_in c (omega (arith, n.long))));
          prev_in = λ c below. still_in prev prev' after before node node (length next') c p (omega (arith, n.long)) (omega (arith, n.long)) (omega (arith, n.long, k.prev_in c (omega (arith, n.long))));
          there = λ c below. there_without next prev next' prev' k.there before node after c n p from_before leads in_before within (omega (arith, n.long));
          back =
              λ c below. there_without prev next prev' next' (λ d in_d. k.back d (omega (arith, k.as_many))) after node before c p n to_after back
              (omega (arith, k.as_many))
              (omega (arith, k.as_many))
              (omega (arith, n.long, k.as_many));
          closed = λ head below. closed' head (omega (arith, length-map lists (rest_of node)));
          alone = alone';
        }

  -- the two links past the node and its own two, as they are written
  pub without-Keeps : Keeps (set (set next before after) node node) (set (set prev after before) node node) nodes lists'
  without-Keeps =
      let in_before : before < length next = subst (λ (c : ℕ). c < length next) back (k.prev_in node in_node) in
      let in_after : after < length next = subst (λ (c : ℕ). c < length next) leads (k.next_in node in_node) in
      removed _ _
      (changed next before after node node in_before in_node before_apart)
      (changed prev after before node node (omega (arith, k.as_many)) (omega (arith, in_node, k.as_many)) after_apart)
