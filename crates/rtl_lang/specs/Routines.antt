-- What the nodes of Rtl read and write, and which follow them.
use Rattle.std.specs.Prelude.{ℕ, [], ◌∷◌, map}
use Rattle.std.specs.List.{range_with_len}
use Rattle.std.specs.Option.{option_to_list}
use Rattle.flow_walks.specs.Flows.{Flow, Routine}
use Rattle.rtl_lang.specs.declared.syntax.RtlNode.{RtlNode}
use Rattle.rtl_lang.specs.declared.syntax.RtlNode.TheVariants as node
use Rattle.rtl_lang.specs.declared.syntax.RtlParts.{RtlParts}

abbrev pub flow_of : RtlNode → Flow ℕ
flow_of (node.Nop next) = record { reads = []; writes = []; next = next ∷ [] }
flow_of (node.Const n to next) = record { reads = []; writes = to ∷ []; next = next ∷ [] }
flow_of (node.Address symbol offset to next) = record { reads = []; writes = to ∷ []; next = next ∷ [] }
flow_of (node.Local index to next) = record { reads = []; writes = to ∷ []; next = next ∷ [] }
flow_of (node.Apply op left right to next) = record { reads = left ∷ right ∷ []; writes = to ∷ []; next = next ∷ [] }
flow_of (node.Load width place to next) = record { reads = place ∷ []; writes = to ∷ []; next = next ∷ [] }
flow_of (node.Store width place value next) = record { reads = place ∷ value ∷ []; writes = []; next = next ∷ [] }
flow_of (node.Call callee arguments to next) = record { reads = arguments; writes = option_to_list to; next = next ∷ [] }
flow_of (node.Branch k this that) = record { reads = k ∷ []; writes = []; next = this ∷ that ∷ [] }
flow_of (node.Return v) = record { reads = option_to_list v; writes = []; next = [] }

-- the parameters are the first temporaries
abbrev pub routine : RtlParts → Routine ℕ
routine f = record { entry = f.entry; parameters = range_with_len 0 f.parameters; flows = map flow_of f.graph }
