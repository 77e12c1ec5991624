-- What is placed in homes names nothing that it has not.
use Rattle.std.specs.Prelude.{◌≡◌, ℕ, All, List, [], ◌∷◌, length, map, Option, Some, None, option_map}
use Rattle.std.proofs.Common.{zero, suc, sym, subst, ap, ◌∙◌, arith}
use Rattle.std.proofs.lemmas.List.{length-map}
use Rattle.std.proofs.lemmas.List.Elements.{All-map}
use Rattle.rtl_lang.specs.declared.syntax.RtlNode.{RtlNode}
use Rattle.rtl_lang.specs.declared.syntax.RtlNode.TheVariants as node
use Rattle.rtl_lang.specs.declared.syntax.RtlParts.{RtlParts}
use Rattle.rtl_lang.specs.Ranges as rtl
use Rattle.ltl_lang.specs.declared.location.Loc.{Loc}
use Rattle.ltl_lang.specs.declared.location.Loc.TheVariants.{Ebx}
use Rattle.ltl_lang.specs.declared.syntax.LtlNode.{LtlNode}
use Rattle.ltl_lang.specs.declared.syntax.LtlParts.{LtlParts}
use Rattle.ltl_lang.specs.Ranges as ltl
use Rattle.ltl_lang.specs.Ranges.{IsLoc, IsLocIfAny}
use Rattle.reg_homes.specs.Homes.{Placed, placed, home_of}

home_in_range : (slots : ℕ) (homes : List Loc) → All (IsLoc slots) homes → (k : ℕ) → IsLoc slots (home_of homes k)
home_in_range slots [] all k = tt
home_in_range slots (h ∷ hs) all zero = all 0 Ebx (omega arith)
home_in_range slots (h ∷ hs) all (suc k) = home_in_range slots hs (λ j d lt. all (suc j) d (omega (arith, lt))) k

if_any_in_range : (slots : ℕ) (homes : List Loc) → All (IsLoc slots) homes → (k : Option ℕ) → IsLocIfAny slots (option_map (home_of homes) k)
if_any_in_range slots homes all None = tt
if_any_in_range slots homes all (Some k) = home_in_range slots homes all k

node_in_range : (nodes slots temporaries : ℕ) (homes : List Loc) → All (IsLoc slots) homes → (x : RtlNode) → rtl.NodeInRange nodes temporaries x → ltl.NodeInRange nodes slots (placed (home_of homes) x)
node_in_range nodes slots temporaries homes all (node.Nop next) r = r
node_in_range nodes slots temporaries homes all (node.Const n to next) r = (home_in_range slots homes all to, r.1)
node_in_range nodes slots temporaries homes all (node.Address name plus to next) r = (home_in_range slots homes all to, r.1)
node_in_range nodes slots temporaries homes all (node.Local index to next) r = (home_in_range slots homes all to, r.1)
node_in_range nodes slots temporaries homes all (node.Apply op left right to next) r = (home_in_range slots homes all left, home_in_range slots homes all right, home_in_range slots homes all to, r.3)
node_in_range nodes slots temporaries homes all (node.Load width place to next) r = (home_in_range slots homes all place, home_in_range slots homes all to, r.2)
node_in_range nodes slots temporaries homes all (node.Store width place value next) r = (home_in_range slots homes all place, home_in_range slots homes all value, r.2)
node_in_range nodes slots temporaries homes all (node.Call name arguments to next) r =
    (All-map (IsLoc slots) (home_of homes) arguments (λ k d lt. home_in_range slots homes all _), if_any_in_range slots homes all to, r.2)
node_in_range nodes slots temporaries homes all (node.Branch k this that) r = (home_in_range slots homes all k, r.1, r.2)
node_in_range nodes slots temporaries homes all (node.Return k) r = if_any_in_range slots homes all k

graph_in_range : (nodes slots temporaries : ℕ) (homes : List Loc) → All (IsLoc slots) homes → (xs : List RtlNode) → All (rtl.NodeInRange nodes temporaries) xs → All (ltl.NodeInRange nodes slots) (map (placed (home_of homes)) xs)
graph_in_range nodes slots temporaries homes all xs every =
    All-map (ltl.NodeInRange nodes slots) (placed (home_of homes)) xs (λ k d lt. node_in_range nodes slots temporaries homes all _ (every k d lt))

pub placed_in_range : (f : RtlParts) (h : LtlParts) → rtl.InRange f → Placed f h → All (IsLoc h.slots) h.homes → ltl.InRange h
placed_in_range f h range made all =
    let nodes : length h.graph ≡ length f.graph = ap length made.graph ∙ length-map f.graph (placed (home_of h.homes)) in
    let few = range.nodes in
    let first = range.entry in
    let entry = made.entry in
    let given = range.parameters in
    let parameters = made.parameters in
    let homes = made.homes in
    record {
      graph =
          subst (λ (xs : List LtlNode). All (ltl.NodeInRange (length h.graph) h.slots) xs) (sym made.graph)
          (subst (λ (n : ℕ). All (ltl.NodeInRange n h.slots) (map (placed (home_of h.homes)) f.graph)) (sym nodes)
          (graph_in_range (length f.graph) h.slots f.temporaries h.homes all f.graph range.graph));
      nodes = omega (arith, nodes, few);
      entry = omega (arith, entry, first, nodes);
      homes = all;
      parameters = omega (arith, given, parameters, homes);
    }
