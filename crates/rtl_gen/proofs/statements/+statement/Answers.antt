use Rattle.std.proofs.Common.{arith, ap, ◌∙◌, ◌≡◌, ◌<◌, ◌≤◌, length, reverse, ◌-◌}
use denote.Param.Weighed.{at_most}
use Rattle.core_lang.specs.declared.syntax.Statement.{size-Statement}
use Rattle.rtl_gen.specs.Trees.{body_code}
use Rattle.rtl_gen.specs.Translation.{lay}
use Rattle.rtl_gen.proofs.Lists.{rest, rest_whole}
use Rattle.rtl_gen.proofs.statements.+statement.Goals as goal

pub sequence-statement-requires : goal.sequence-statement-requires
sequence-statement-requires t c =
    let ss = c.args.statements.now in
    let s = c.index-statements-left.result in
    let inside : c.statements.left ≤ length ss = c.statements.invariant.0 in
    let some = c.statements-test.true in
    let there : c.statements.left - 1 < length ss = omega (arith, some, inside) in
    let is : _ = ap size-Statement c.index-statements-left.is in
    let near = at_most size-Statement ss (c.statements.left - 1) s there in
    let falls = c.decreases in
    omega (arith, falls, near, is)

pub sequence-returns-clause-laid : goal.sequence-returns-clause-laid
sequence-returns-clause-laid t c =
    let ss = c.args.statements.now in
    let i = c.statements.invariant in
    let test = c.statements-test.false in
    let none : c.statements.left ≡ 0 = omega (arith, test) in
    i.1
    ∙ ap (λ k. lay c.args.graph.now.items c.args.scratch c.args.end (rest ss k) c.args.next (reverse c.args.exits.now.items)) none
    ∙ ap (λ b. lay c.args.graph.now.items c.args.scratch c.args.end b c.args.next (reverse c.args.exits.now.items)) (rest_whole ss)
