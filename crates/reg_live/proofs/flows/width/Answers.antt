use Rattle.std.proofs.Common.{◌≡◌, ℕ, ◌<◌, List, length, get_or, slice_get, Some, sym, ◌∙◌, ap, subst, arith, inl, inr}
use Rattle.std.proofs.lemmas.Option.{slice_get_within, slice_get-get_or}
use Rattle.rtl_lang.specs.declared.syntax.RtlNode.{RtlNode}
use Rattle.flow_walks.specs.Flows.{Flow}
use Rattle.rtl_lang.specs.Routines.{flow_of}
use Rattle.rtl_lang.specs.laws.Routines.{flow_node}
use Rattle.reg_live.specs.Sweeps.{AreBelow}
use Rattle.reg_live.proofs.Clear.{same_or_not}
use Rattle.reg_live.proofs.Listing.{below_weaker}
use Rattle.reg_live.proofs.flows.width.Goals as goal

node_here : (nodes : List RtlNode) (i : ℕ) (read x : RtlNode) → i < length nodes → read ≡ get_or nodes i read → slice_get nodes i ≡ Some x → read ≡ x
node_here nodes i read x inside is e =
    let found : slice_get nodes i ≡ Some (get_or nodes i read) = slice_get-get_or nodes i read inside in
    cc

pub loop-node-preserved : goal.loop-node-preserved
loop-node-preserved c =
    let was = c.loop-node.invariant in
    let nodes = c.as_slice-nodes.result.now in
    record {
      below = λ n x h e. elim (same_or_not n c.loop-node.node-index) [
        | inl same ↦
            let there : c.node-item.result ≡ x = node_here nodes c.loop-node.node-index c.node-item.result x c.loop-node-test.true c.node-item.is (sym (ap (λ (j : ℕ). slice_get nodes j) same) ∙ e) in
            let P : RtlNode → Type 0 = λ y. AreBelow c.greater-width.result (flow_of y).reads in
            subst P there (below_weaker (flow_of c.node-item.result).reads c.above_reads-above.result c.greater-width.result (omega (arith, c.greater-width.ensures)) c.above_reads-above.ensures.below)
        | inr other ↦ below_weaker (flow_of x).reads c.loop-node.width c.greater-width.result (omega (arith, c.greater-width.ensures)) (was.below n x (omega arith) e)
      ];
      small = omega (arith, c.greater-width.ensures, c.above_reads-above.ensures.small);
    }

pub returns-clause-wide : goal.returns-clause-wide
returns-clause-wide c = λ n flow here.
    let found = flow_node c.args.function.now n flow here in
    let P : Flow ℕ → Type 0 = λ f. AreBelow c.loop-node.width f.reads in
    let at : slice_get c.as_slice-nodes.result.now n ≡ Some found.0 = ap (λ (xs : List RtlNode). slice_get xs n) c.as_slice-nodes.ensures ∙ found.1 in
    subst P found.2 (c.loop-node.invariant.below n found.0 (let h : n < length c.as_slice-nodes.result.now = slice_get_within c.as_slice-nodes.result.now n found.0 at in omega arith) at)
