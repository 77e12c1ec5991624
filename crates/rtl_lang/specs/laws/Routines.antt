-- Nodes of Rtl as nodes of a routine.
use Rattle.std.specs.Prelude.{◌≡◌, ℕ, zero, suc, ◌<◌, ◌+◌, List, [], ◌∷◌, map, length, slice_get, Some}
use Rattle.std.specs.List.{Contains, range_with_len}
use Rattle.std.proofs.Common.{refl, sym, ◌∙◌, ap, arith}
use Rattle.std.proofs.lemmas.List.FromFn.{get_or-range_with_len, length-range_with_len}
use Rattle.flow_walks.specs.Flows.{Flow}
use Rattle.flow_walks.specs.Liveness.{IsNode}
use Rattle.rtl_lang.specs.declared.syntax.RtlNode.{RtlNode}
use Rattle.rtl_lang.specs.declared.syntax.RtlFn.{RtlFn}
use Rattle.rtl_lang.specs.Routines.{flow_of, routine}

flow_at : (xs : List RtlNode) (n : ℕ) (x : RtlNode) → slice_get xs n ≡ Some x → slice_get (map flow_of xs) n ≡ Some (flow_of x)
flow_at [] n x e = cc
flow_at (y ∷ xs) zero x e = let same : y ≡ x = cc in ap (λ (z : RtlNode). Some (flow_of z)) same
flow_at (y ∷ xs) (suc n) x e = flow_at xs n x e

node_at : (xs : List RtlNode) (n : ℕ) (flow : Flow ℕ) → slice_get (map flow_of xs) n ≡ Some flow → (x : RtlNode) × (slice_get xs n ≡ Some x) × (flow_of x ≡ flow)
node_at [] n flow e = cc
node_at (y ∷ xs) zero flow e = (y, refl, (let same : flow_of y ≡ flow = cc in same))
node_at (y ∷ xs) (suc n) flow e = node_at xs n flow e

-- a node of the graph is one of the routine
pub node_flow : (f : RtlFn) (n : ℕ) (x : RtlNode) → slice_get f.graph n ≡ Some x → IsNode (routine f) n (flow_of x)
node_flow f n x e = flow_at f.graph n x e

-- and each of the routine is one of the graph
pub flow_node : (f : RtlFn) (n : ℕ) (flow : Flow ℕ) → IsNode (routine f) n flow → (x : RtlNode) × (slice_get f.graph n ≡ Some x) × (flow_of x ≡ flow)
flow_node f n flow e = node_at f.graph n flow e

pub is_parameter : (f : RtlFn) (k : ℕ) → k < f.parameters → Contains (routine f).parameters k
is_parameter f k h =
    let long : k < length (range_with_len 0 f.parameters) = omega (arith, h, length-range_with_len 0 f.parameters) in
    (k, long, (let e : 0 + k ≡ k = omega arith in get_or-range_with_len 0 f.parameters k k h ∙ e))

pub parameter_below : (f : RtlFn) (k : ℕ) → Contains (routine f).parameters k → k < f.parameters
parameter_below f k (i, h, e) =
    let short : i < f.parameters = omega (arith, h, length-range_with_len 0 f.parameters) in
    let same : 0 + i ≡ k = sym (get_or-range_with_len 0 f.parameters i k short) ∙ e in
    omega arith
