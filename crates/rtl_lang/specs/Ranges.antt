-- What numbers a function of Rtl names: nodes and temporaries that it has.
use Rattle.std.specs.Prelude.{ℕ, ◌<◌, ◌≤◌, ◌^◌, All, length, Option, Some, None}
use Rattle.rtl_lang.specs.declared.syntax.RtlNode.{RtlNode}
use Rattle.rtl_lang.specs.declared.syntax.RtlNode.TheVariants as node
use Rattle.rtl_lang.specs.declared.syntax.RtlParts.{RtlParts}

abbrev pub IsBelowIfAny : ℕ → Option ℕ → Type 0
IsBelowIfAny count None = Unit {0}
IsBelowIfAny count (Some k) = k < count

-- a node whose numbers are in range where there are so many nodes and so many temporaries
abbrev pub NodeInRange : ℕ → ℕ → RtlNode → Type 0
NodeInRange nodes temporaries (node.Nop next) = next < nodes
NodeInRange nodes temporaries (node.Const n to next) = (to < temporaries) × (next < nodes)
NodeInRange nodes temporaries (node.Address name plus to next) = (to < temporaries) × (next < nodes)
NodeInRange nodes temporaries (node.Local index to next) = (to < temporaries) × (next < nodes)
NodeInRange nodes temporaries (node.Apply op left right to next) = (left < temporaries) × (right < temporaries) × (to < temporaries) × (next < nodes)
NodeInRange nodes temporaries (node.Load width place to next) = (place < temporaries) × (to < temporaries) × (next < nodes)
NodeInRange nodes temporaries (node.Store width place value next) = (place < temporaries) × (value < temporaries) × (next < nodes)
NodeInRange nodes temporaries (node.Call name arguments to next) = All (λ k. k < temporaries) arguments × IsBelowIfAny temporaries to × (next < nodes)
NodeInRange nodes temporaries (node.Branch k this that) = (k < temporaries) × (this < nodes) × (that < nodes)
NodeInRange nodes temporaries (node.Return k) = IsBelowIfAny temporaries k

-- a function that names nothing that it has not
pub record InRange (f : RtlParts) : Type 0 where
  pub graph : All (NodeInRange (length f.graph) f.temporaries) f.graph
  pub nodes : length f.graph < 2 ^ 32
  pub entry : f.entry < length f.graph
  pub parameters : f.parameters ≤ f.temporaries
