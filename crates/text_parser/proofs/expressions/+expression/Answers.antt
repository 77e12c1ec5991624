use Rattle.std.proofs.Common.{sym, ◌∙◌, ap, length, arith}
use Rattle.text_grammar.specs.declared.kind.Kind.TheVariants as k
use Rattle.text_grammar.specs.Grammar.{operator_of}
use Rattle.text_grammar.specs.laws.Programs.{runs, After, Further}
use Rattle.text_parser.proofs.Steps.{took, passed, tail_shorter}
use Rattle.text_parser.proofs.ExpressionTurns.{index_turn, member_turn, arrow_turn, further_turn}
use Rattle.text_parser.proofs.expressions.+expression.Goals as goal

pub read_after-parts-preserved-in-Some : goal.read_after-parts-preserved-in-Some
read_after-parts-preserved-in-Some t c = record {
  same = ap (λ w. runs (After w) c.expect.new.self) c.in_ok-whole.ensures
      ∙ sym (index_turn c.parts.whole c.in_ok-at.at c.in-Some.x c.in_ok-expect.field-0 c.parts.tokens c.next_if.new.self c.read_chain.new.tokens c.expect.new.self c.in-Some.ensures c.in_ok-at.ensures.reads c.in_ok-expect.ensures)
      ∙ c.parts.invariant.same;
  shorter = omega (arith, c.parts.invariant.shorter, took k.LBracket c.parts.tokens c.in-Some.x c.next_if.new.self c.in-Some.ensures, c.in_ok-at.ensures.shorter, took k.RBracket c.read_chain.new.tokens c.in_ok-expect.field-0 c.expect.new.self c.in_ok-expect.ensures);
}

pub read_after-parts-preserved-in-Some-next_if : goal.read_after-parts-preserved-in-Some-next_if
read_after-parts-preserved-in-Some-next_if t c = record {
  same = ap (λ w. runs (After w) c.expect-in-Some-next_if.new.self) c.in_ok-whole-2.ensures
      ∙ sym (member_turn c.parts.whole c.in-Some-next_if.field-0 c.in_ok-y.y c.parts.tokens c.next_if.new.self c.next_if-in-parts.new.self c.expect-in-Some-next_if.new.self c.in_default.ensures c.in-Some-next_if.ensures c.in_ok-y.ensures)
      ∙ c.parts.invariant.same;
  shorter = omega (arith, c.parts.invariant.shorter, passed k.LBracket c.parts.tokens c.next_if.new.self c.in_default.ensures, took k.Dot c.next_if.new.self c.in-Some-next_if.field-0 c.next_if-in-parts.new.self c.in-Some-next_if.ensures, took k.Id c.next_if-in-parts.new.self c.in_ok-y.y c.expect-in-Some-next_if.new.self c.in_ok-y.ensures);
}

pub read_after-parts-preserved : goal.read_after-parts-preserved
read_after-parts-preserved t c = record {
  same = ap (λ w. runs (After w) c.expect-in-Some-next_if-2.new.self) c.in_ok-whole-3.ensures
      ∙ sym (arrow_turn c.parts.whole c.in-Some-next_if-2.field-0 c.in_ok-y-2.y c.parts.tokens c.next_if.new.self c.next_if-in-parts.new.self c.next_if-in-parts-2.new.self c.expect-in-Some-next_if-2.new.self c.in_default.ensures c.in_default-next_if.ensures c.in-Some-next_if-2.ensures c.in_ok-y-2.ensures)
      ∙ c.parts.invariant.same;
  shorter = omega (arith, c.parts.invariant.shorter, passed k.LBracket c.parts.tokens c.next_if.new.self c.in_default.ensures, passed k.Dot c.next_if.new.self c.next_if-in-parts.new.self c.in_default-next_if.ensures, took k.Arrow c.next_if-in-parts.new.self c.in-Some-next_if-2.field-0 c.next_if-in-parts-2.new.self c.in-Some-next_if-2.ensures, took k.Id c.next_if-in-parts-2.new.self c.in_ok-y-2.y c.expect-in-Some-next_if-2.new.self c.in_ok-y-2.ensures);
}

pub read_further-operators-preserved : goal.read_further-operators-preserved
read_further-operators-preserved t c = record {
  same = ap (λ w. runs (Further c.args.level w) c.read_operand.new.tokens) c.in_ok-whole.ensures
      ∙ sym (further_turn c.args.level c.operators.whole c.in_ok-operand.operand c.in-Some.x c.in-Some-operator_of.op c.operators.tokens c.skip.new.self c.read_operand.new.tokens (sym c.in-Some.ensures) (ap (operator_of c.args.level) (sym c.kind.ensures) ∙ sym c.in-Some-operator_of.ensures) c.skip.ensures c.in_ok-operand.ensures.reads)
      ∙ c.operators.invariant.same;
  shorter = omega (arith, c.operators.invariant.shorter, tail_shorter c.operators.tokens, ap length c.skip.ensures, c.in_ok-operand.ensures.shorter);
}
