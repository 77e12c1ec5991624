use Rattle.std.proofs.Common.{◌<◌, ◌∷◌, ◌++◌, [], sym, ◌∙◌, ap, length, arith}
use Rattle.text_grammar.specs.declared.kind.Kind.TheVariants as k
use Rattle.text_grammar.specs.declared.tree.Arm.{roll-Arm}
use Rattle.text_grammar.specs.laws.Programs.{runs, Choice, StatementsOf}
use Rattle.text_parser.proofs.Steps.{took, passed}
use Rattle.text_parser.proofs.StatementTurns.{arms_turn, statements_turn, statement_shorter}
use Rattle.text_parser.proofs.statements.+statement.Goals as goal

pub read_choice-arms-preserved : goal.read_choice-arms-preserved
read_choice-arms-preserved t c = record {
  same = ap (λ f. runs (Choice f) c.read_guarded.new.tokens) c.in_ok-push-2.ensures.ok
      ∙ ap (λ at. runs (Choice (c.arms.arms ++ roll-Arm (record { at = at; test = c.in_ok-test.test; body = c.in_ok-test.body }) ∷ [])) c.read_guarded.new.tokens) c.at.ensures
      ∙ sym (arms_turn c.arms.arms c.in_ok-test.test c.in_ok-test.body c.in-Some.field-0 c.in-Some-next_if.y c.arms.tokens c.next_if.new.self c.next_if-in-Some.new.self c.read_guarded.new.tokens c.in-Some.ensures c.in-Some-next_if.ensures c.in_ok-test.ensures.reads)
      ∙ c.arms.invariant.same;
  shorter = omega (arith, c.arms.invariant.shorter, took k.KwElse c.arms.tokens c.in-Some.field-0 c.next_if.new.self c.in-Some.ensures, took k.KwIf c.next_if.new.self c.in-Some-next_if.y c.next_if-in-Some.new.self c.in-Some-next_if.ensures, c.in_ok-test.ensures.shorter);
}

pub read_statements-statements-preserved : goal.read_statements-statements-preserved
read_statements-statements-preserved t c = record {
  same = ap (λ f. runs (StatementsOf f) c.read_statement.new.tokens) c.in_ok-push.ensures.ok
      ∙ sym (statements_turn c.statements.found c.in_ok-next.next c.statements.tokens c.next_if.new.self c.read_statement.new.tokens c.in_default.ensures c.in_ok-next.ensures.reads)
      ∙ c.statements.invariant.same;
  shorter = omega (arith, c.statements.invariant.shorter, passed k.RBrace c.statements.tokens c.next_if.new.self c.in_default.ensures, c.in_ok-next.ensures.shorter);
}

pub read_statements-statements-smaller : goal.read_statements-statements-smaller
read_statements-statements-smaller t c =
    let h : length c.read_statement.new.tokens < length c.statements.tokens = omega (arith, statement_shorter _ _ _ c.in_ok-next.ensures.reads, ap length c.in_default.ensures.1) in
    h
