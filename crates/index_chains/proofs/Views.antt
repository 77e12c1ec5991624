-- What the links say of the lists.
use Rattle.std.proofs.Common.{◌≡◌, ◌≢◌, ℕ, suc, ◌+◌, ◌^◌, ◌<◌, List, [], length, get_or, drop, replicate, slice_get, Some, None, nat_lt, if◌then◌else◌, sym, ap, subst, ◌∙◌, arith, length-drop, add-one}
use Rattle.std.proofs.lemmas.List.{get_or-replicate, length-replicate}
use Rattle.std.proofs.lemmas.Option.{slice_get_within}
use Rattle.index_chains.specs.Lists.{list_at, Stands, IsLinked, IsDisjoint}
use Rattle.index_chains.specs.Rings.{Leads, Keeps, rings}
use Rattle.index_chains.proofs.Walks.{behind, stuck, same_way, step-Leads, slice_get-drop, rings-Leads}
use Rattle.index_chains.proofs.Members.{in_heads}

module _ (next prev : List ℕ) (nodes : ℕ) (lists : List (List ℕ)) (k : Keeps next prev nodes lists) where
  -- the lists are what the walks find
  pub rings-Keeps : rings next nodes ≡ lists
  rings-Keeps = rings-Leads next nodes lists k.cells k.closed

  pub itself : Keeps next prev nodes (rings next nodes)
  itself = subst (λ (ls : List (List ℕ)). Keeps next prev nodes ls) (sym rings-Keeps) k

  rest : (head place node : ℕ) → Stands lists head place node → (node < nodes) × Leads next nodes node (drop (suc place) (list_at lists head)) (nodes + head)
  rest head place node at = behind next nodes (nodes + head) (list_at lists head) (nodes + head) place node (k.closed head (in_heads lists head place node at)) at

  pub first_is : (head : ℕ) → head < length lists → (if nat_lt (get_or next (nodes + head) 0) nodes then Some (get_or next (nodes + head) 0) else None) ≡ slice_get (list_at lists head) 0
  first_is head below = step-Leads next nodes (nodes + head) (list_at lists head) (nodes + head) (k.closed head below) (omega arith)

  pub next_is : (head place node : ℕ) → Stands lists head place node → (if nat_lt (get_or next node 0) nodes then Some (get_or next node 0) else None) ≡ slice_get (list_at lists head) (place + 1)
  next_is head place node at =
      rw add-one (step-Leads next nodes node (drop (suc place) (list_at lists head)) (nodes + head) (rest head place node at).1 (omega arith) ∙ slice_get-drop (list_at lists head) place)

  pub not_lone : (node : ℕ) → IsLinked lists node → get_or next node 0 ≢ node
  not_lone node linked e =
      let way = rest linked.0 linked.1 node linked.2 in
      omega (arith, way.0, stuck next nodes node _ (nodes + linked.0) e way.1)

  pub disjoint : IsDisjoint (record { lists = lists; nodes = nodes })
  disjoint = record { in_range = λ head place node at. (rest head place node at).0; once = once }
    where
      once : (head place head' place' node : ℕ) → Stands lists head place node → Stands lists head' place' node → (head ≡ head') × (place ≡ place')
      once head place head' place' node at at' =
          let same = same_way next nodes node _ _ (nodes + head) (nodes + head') (rest head place node at).1 (rest head' place' node at').1 (omega arith) (omega arith) in
          let e : head ≡ head' = omega (arith, same.1) in
          let one = slice_get_within (list_at lists head) place node at in
          let two = slice_get_within (list_at lists head') place' node at' in
          (e, omega (arith, ap length same.0, length-drop (suc place) (list_at lists head), length-drop (suc place') (list_at lists head'), ap (λ (h : ℕ). length (list_at lists h)) e))

-- cells that are linked to themselves keep empty lists
pub lone-Keeps : (next prev : List ℕ) (heads nodes : ℕ) → nodes < 2 ^ 32 → length next ≡ nodes + heads → length prev ≡ nodes + heads → ((c : ℕ) → c < nodes + heads → get_or next c 0 ≡ c) → ((c : ℕ) → c < nodes + heads → get_or prev c 0 ≡ c) → Keeps next prev nodes (replicate heads [])
lone-Keeps next prev heads nodes small long long' self self' =
    record {
      small = small;
      cells = long ∙ ap (λ (m : ℕ). nodes + m) (sym (length-replicate {A = List ℕ} heads []));
      as_many = long' ∙ sym long;
      next_in = λ c below. omega (arith, self c (omega arith));
      prev_in = λ c below. omega (arith, self' c (omega arith));
      there = λ c below. let s = self c (omega arith) in let s' = self' c (omega arith) in cc;
      back = λ c below. let s = self c (omega arith) in let s' = self' c (omega arith) in cc;
      closed = closed;
      alone = λ node below ne. absurd (ne (self node (omega arith)));
    }
  where
    closed : (head : ℕ) → head < length (replicate {A = List ℕ} heads []) → Leads next nodes (nodes + head) (list_at (replicate heads []) head) (nodes + head)
    closed head below =
        let in_heads' : head < heads = omega (arith, length-replicate {A = List ℕ} heads []) in
        subst (λ (xs : List ℕ). Leads next nodes (nodes + head) xs (nodes + head)) (sym (get_or-replicate heads head [] [] in_heads')) (self (nodes + head) (omega arith))
