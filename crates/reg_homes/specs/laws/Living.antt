-- In a function that names nothing that it has not, what is live is one of its temporaries.
use Rattle.std.specs.Prelude.{◌≡◌, ℕ, ◌<◌, ◌+◌, ◌⊎◌, All, List, [], ◌∷◌, length, map, slice_get, slice_index_or, Option, Some, None, option_map}
use Rattle.std.specs.List.{Contains, range_with_len}
use Rattle.std.specs.Option.{option_to_list}
use Rattle.std.proofs.Common.{zero, suc, refl, sym, ap, subst, ◌∙◌, inl, inr, arith}
use Rattle.std.proofs.lemmas.List.Elements.{All-contains, All-contains_itself, Contains-append_cases}
use Rattle.std.proofs.lemmas.List.FromFn.{length-range_with_len, get_or-range_with_len}
use Rattle.std.proofs.lemmas.Option.{slice_get-map}
use Rattle.flow_walks.specs.Flows.{Flow, entry_flow, places}
use Rattle.flow_walks.specs.Liveness.{IsNode, IsRead, IsLive, Meet, AreLiveTogether}
use Rattle.rtl_lang.specs.declared.syntax.RtlNode.{RtlNode}
use Rattle.rtl_lang.specs.declared.syntax.RtlNode.TheVariants as node
use Rattle.rtl_lang.specs.declared.syntax.RtlParts.{RtlParts}
use Rattle.rtl_lang.specs.Ranges.{NodeInRange, IsBelowIfAny, InRange}
use Rattle.rtl_lang.specs.Routines.{flow_of, routine}
use Rattle.reg_homes.specs.laws.Walking.{contained}

abbrev AllBelow : ℕ → List ℕ → Type 0
AllBelow t ks = All (λ (k : ℕ). k < t) ks

below_none : (t : ℕ) → AllBelow t []
below_none t k d lt = absurd (let l : k < 0 = lt in omega (arith, l))

below_more : (t a : ℕ) (ks : List ℕ) → a < t → AllBelow t ks → AllBelow t (a ∷ ks)
below_more t a ks first all zero d lt = first
below_more t a ks first all (suc k) d lt = all k d (omega (arith, lt))

below_one : (t a : ℕ) → a < t → AllBelow t (a ∷ [])
below_one t a first = below_more t a [] first (below_none t)

below_if_any : (t : ℕ) (k : Option ℕ) → IsBelowIfAny t k → AllBelow t (option_to_list k)
below_if_any t None r = below_none t
below_if_any t (Some k) r = below_one t k r

-- what a node reads and what it writes
reads_below : (nodes t : ℕ) (x : RtlNode) → NodeInRange nodes t x → AllBelow t (flow_of x).reads
reads_below nodes t (node.Nop next) r = below_none t
reads_below nodes t (node.Const n to next) r = below_none t
reads_below nodes t (node.Address name plus to next) r = below_none t
reads_below nodes t (node.Local index to next) r = below_none t
reads_below nodes t (node.Apply op left right to next) r = below_more t left (right ∷ []) r.0 (below_one t right r.1)
reads_below nodes t (node.Load width place to next) r = below_one t place r.0
reads_below nodes t (node.Store width place value next) r = below_more t place (value ∷ []) r.0 (below_one t value r.1)
reads_below nodes t (node.Call name arguments to next) r = r.0
reads_below nodes t (node.Branch k this that) r = below_one t k r.0
reads_below nodes t (node.Return k) r = below_if_any t k r

writes_below : (nodes t : ℕ) (x : RtlNode) → NodeInRange nodes t x → AllBelow t (flow_of x).writes
writes_below nodes t (node.Nop next) r = below_none t
writes_below nodes t (node.Const n to next) r = below_one t to r.0
writes_below nodes t (node.Address name plus to next) r = below_one t to r.0
writes_below nodes t (node.Local index to next) r = below_one t to r.0
writes_below nodes t (node.Apply op left right to next) r = below_one t to r.2
writes_below nodes t (node.Load width place to next) r = below_one t to r.1
writes_below nodes t (node.Store width place value next) r = below_none t
writes_below nodes t (node.Call name arguments to next) r = below_if_any t to r.1
writes_below nodes t (node.Branch k this that) r = below_none t
writes_below nodes t (node.Return k) r = below_none t

-- a node's flow is that of a node of the graph
mapped : (o : Option RtlNode) (flow : Flow ℕ) → option_map flow_of o ≡ Some flow → (x : RtlNode) × (o ≡ Some x) × (flow_of x ≡ flow)
mapped None flow e = cc
mapped (Some x) flow e = (x, refl, cc)

found : {X : Type 0} (xs : List X) (i : ℕ) (x : X) → i < length xs → slice_index_or xs i x ≡ x → slice_get xs i ≡ Some x
found [] i x lt same = absurd (let l : i < 0 = lt in omega (arith, l))
found (y ∷ xs) zero x lt same = ap Some same
found (y ∷ xs) (suc i) x lt same = found xs i x (omega (arith, lt)) same

module _ (f : RtlParts) (range : InRange f) where
  node_below : (n : ℕ) (flow : Flow ℕ) → IsNode (routine f) n flow → AllBelow f.temporaries flow.reads × AllBelow f.temporaries flow.writes
  node_below n flow here =
      let m = mapped (slice_get f.graph n) flow (sym (slice_get-map flow_of f.graph n) ∙ here) in
      let r = All-contains (NodeInRange (length f.graph) f.temporaries) f.graph m.0 range.graph (contained f.graph n m.0 m.1) in (
        subst (λ (w : Flow ℕ). AllBelow f.temporaries w.reads) m.2 (reads_below (length f.graph) f.temporaries m.0 r),
        subst (λ (w : Flow ℕ). AllBelow f.temporaries w.writes) m.2 (writes_below (length f.graph) f.temporaries m.0 r),
      )

  read_below : (moves n k : ℕ) → IsRead (routine f) k moves n → k < f.temporaries
  read_below zero n k walk = All-contains (λ (j : ℕ). j < f.temporaries) walk.0.reads k (node_below n walk.0 walk.1).0 walk.2
  read_below (suc moves) n k walk = read_below moves walk.3.0 k walk.3.2

  live_below : (place : Flow ℕ) (k : ℕ) → IsLive (routine f) place k → k < f.temporaries
  live_below place k live = read_below live.2.0 live.0 k live.2.1

  parameter_below : (k : ℕ) → Contains (range_with_len 0 f.parameters) k → k < f.temporaries
  parameter_below k m =
      let most = range.parameters in
      let short : m.0 < f.parameters = let lt = m.1 in let e = length-range_with_len 0 f.parameters in omega (arith, lt, e) in
      let same : k ≡ 0 + m.0 = sym m.2 ∙ get_or-range_with_len 0 f.parameters m.0 k short in
      omega (arith, most, short, same)

  place_below : (place : Flow ℕ) → Contains (places (routine f)) place → AllBelow f.temporaries place.writes
  place_below place m = at (Contains-append_cases (map flow_of f.graph) (entry_flow (routine f) ∷ []) place m)
    where
      node_of : (i : ℕ) → i < length (map flow_of f.graph) → slice_index_or (map flow_of f.graph) i place ≡ place → AllBelow f.temporaries place.writes
      node_of i lt same = (node_below i place (found (map flow_of f.graph) i place lt same)).1

      at : Contains (map flow_of f.graph) place ⊎ Contains (entry_flow (routine f) ∷ []) place → AllBelow f.temporaries place.writes
      at (inl m) = node_of m.0 m.1 m.2
      at (inr (zero, lt, same)) = subst (λ (w : Flow ℕ). AllBelow f.temporaries w.writes) same (λ k d lt. parameter_below _ (All-contains_itself (range_with_len 0 f.parameters) k d lt))
      at (inr (suc i, lt, same)) = absurd (omega (arith, lt))

  met_below : (place : Flow ℕ) (a b : ℕ) → Contains (places (routine f)) place → Meet (routine f) place a b → (a < f.temporaries) × (b < f.temporaries)
  met_below place a b there (inl live, other) = (live_below place a live, live_below place b other)
  met_below place a b there (inr written, other) = (All-contains (λ (j : ℕ). j < f.temporaries) place.writes a (place_below place there) written, live_below place b other)

  pub together_below : (a b : ℕ) → AreLiveTogether (routine f) a b → (a < f.temporaries) × (b < f.temporaries)
  together_below a b (place, there, inl meet) = met_below place a b there meet
  together_below a b (place, there, inr meet) = let m = met_below place b a there meet in (m.1, m.0)
