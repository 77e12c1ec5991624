use Rattle.std.proofs.Common.{arith, ap, sym, ◌∙◌, ◌≡◌, ◌+◌, ◌-◌, length, map, List}
use Rattle.rtl_gen.specs.Trees.{tree, Tree}
use Rattle.rtl_gen.specs.Translation.{Laid, lay_operand, lay_operands}
use Rattle.rtl_gen.proofs.Lists.{others, others_whole, others_none, laid_more}
use Rattle.rtl_gen.proofs.arguments.operands.Goals as goal

pub arguments-init : goal.arguments-init
arguments-init c =
    let xs = c.args.arguments.now in
    (omega arith, sym (ap (λ (ys : List Tree). lay_operands (c.args.next, c.args.graph.now.items) ys (c.args.scratch + length xs)) (others_none xs)))

pub arguments-preserved : goal.arguments-preserved
arguments-preserved c =
    let xs = c.args.arguments.now in
    let x = c.index-arguments-left.result in
    let left = c.arguments.left in
    let k = c.args.scratch in
    let inside = c.arguments.invariant.0 in (
      omega (arith, inside),
      c.in_ok-at.ensures
          ∙ ap (λ j. lay_operand (c.arguments.at, c.arguments.graph.items) (tree x) j) c.in_ok-free.ensures
          ∙ ap (λ (r : Laid). lay_operand r (tree x) (k + (left - 1))) c.arguments.invariant.1
          ∙ laid_more (c.args.next, c.args.graph.now.items) xs left k x c.index-arguments-left.is c.arguments-test.true inside,
    )

pub returns : goal.returns
returns c =
    let xs = c.args.arguments.now in
    let test = c.arguments-test.false in
    let none : c.arguments.left ≡ 0 = omega (arith, test) in
    let start : c.args.scratch + 0 ≡ c.args.scratch = omega arith in
    c.arguments.invariant.1
    ∙ ap (λ k. lay_operands (c.args.next, c.args.graph.now.items) (others xs k) (c.args.scratch + k)) none
    ∙ ap (λ ys. lay_operands (c.args.next, c.args.graph.now.items) ys (c.args.scratch + 0)) (others_whole xs)
    ∙ ap (lay_operands (c.args.next, c.args.graph.now.items) (map tree xs)) start
