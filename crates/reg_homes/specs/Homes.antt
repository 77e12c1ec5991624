-- What is made of a function of Rtl where each temporary has a location, its home.
use Rattle.std.specs.Prelude.{◌≡◌, ℕ, ◌≤◌, List, length, map, get_or, option_map}
use Rattle.rtl_lang.specs.declared.syntax.RtlNode.{RtlNode}
use Rattle.rtl_lang.specs.declared.syntax.RtlNode.TheVariants as node
use Rattle.rtl_lang.specs.declared.syntax.RtlParts.{RtlParts}
use Rattle.ltl_lang.specs.declared.location.Loc.{Loc}
use Rattle.ltl_lang.specs.declared.location.Loc.TheVariants.{Ebx}
use Rattle.ltl_lang.specs.declared.syntax.LtlNode.{LtlNode}
use Rattle.ltl_lang.specs.declared.syntax.LtlNode.TheVariants as ltl_node
use Rattle.ltl_lang.specs.declared.syntax.LtlParts.{LtlParts}
use Rattle.flow_walks.specs.Liveness.{Separates}
use Rattle.rtl_lang.specs.Routines.{routine}

-- the home of a temporary of this number
abbrev pub home_of : List Loc → ℕ → Loc
home_of homes k = get_or homes k Ebx

-- each temporary in its home
abbrev pub placed : (ℕ → Loc) → RtlNode → LtlNode
placed home (node.Nop next) = ltl_node.Nop next
placed home (node.Const n to next) = ltl_node.Const n (home to) next
placed home (node.Address name plus to next) = ltl_node.Address name plus (home to) next
placed home (node.Local index to next) = ltl_node.Local index (home to) next
placed home (node.Apply op left right to next) = ltl_node.Apply op (home left) (home right) (home to) next
placed home (node.Load width place to next) = ltl_node.Load width (home place) (home to) next
placed home (node.Store width place value next) = ltl_node.Store width (home place) (home value) next
placed home (node.Call callee arguments to next) = ltl_node.Call callee (map home arguments) (option_map home to) next
placed home (node.Branch k this that) = ltl_node.Branch (home k) this that
placed home (node.Return k) = ltl_node.Return (option_map home k)

-- the same function over homes that keep apart what is live together
pub record Placed (f : RtlParts) (h : LtlParts) : Type 0 where
  pub symbol : h.symbol ≡ f.symbol
  pub is_static : h.is_static ≡ f.is_static
  pub parameters : h.parameters ≡ f.parameters
  pub homes : length h.homes ≡ f.temporaries
  pub enough : f.parameters ≤ f.temporaries
  pub slots : h.slots ≤ f.temporaries
  pub locals : h.locals ≡ f.locals
  pub need : h.need ≡ f.need
  pub entry : h.entry ≡ f.entry
  pub graph : h.graph ≡ map (placed (home_of h.homes)) f.graph
  pub apart : Separates (routine f) (home_of h.homes)
