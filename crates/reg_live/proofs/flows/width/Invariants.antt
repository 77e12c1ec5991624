use Rattle.std.proofs.Common.{◌≡◌, ℕ, ◌<◌, ◌≤◌, ◌^◌, slice_get, Some}
use Rattle.rtl_lang.specs.declared.syntax.RtlNode.{RtlNode}
use Rattle.rtl_lang.specs.Routines.{flow_of}
use Rattle.reg_live.specs.Sweeps.{AreBelow}
use Rattle.reg_live.proofs.flows.width.Given as goal

-- above what is read by the nodes that were gone through
abbrev pub invariant-loop-node : goal.invariant-loop-node
invariant-loop-node l = record { below : (n : ℕ) (x : RtlNode) → n < l.node-index → slice_get l.nodes n ≡ Some x → AreBelow l.width (flow_of x).reads; small : l.width ≤ 2 ^ 32 }
