use Rattle.std.proofs.Common.{◌++◌, ◌∷◌, [], sym, ◌∙◌, ap, arith}
use Rattle.text_grammar.specs.declared.kind.Kind.TheVariants as k
use Rattle.text_grammar.specs.laws.Programs.{runs, LengthsOf}
use Rattle.text_parser.proofs.Steps.{took}
use Rattle.text_parser.proofs.DeclarationTurns.{lengths_turn}
use Rattle.text_parser.proofs.declarators.read_lengths.Goals as goal

pub lengths-preserved : goal.lengths-preserved
lengths-preserved c = record {
  same = ap (λ f. runs (LengthsOf f) c.expect-in-Some.new.self) c.in_ok-push.ensures.ok
      ∙ ap (λ n. runs (LengthsOf (c.lengths.found ++ n ∷ [])) c.expect-in-Some.new.self) c.number.ensures
      ∙ sym (lengths_turn c.lengths.found c.in-Some.field-0 c.in_ok-number.number c.in_ok-expect.field-0 c.lengths.tokens c.next_if.new.self c.expect.new.self c.expect-in-Some.new.self c.in-Some.ensures c.in_ok-number.ensures c.in_ok-expect.ensures)
      ∙ c.lengths.invariant.same;
  shorter = omega (arith, c.lengths.invariant.shorter, took k.LBracket c.lengths.tokens c.in-Some.field-0 c.next_if.new.self c.in-Some.ensures, took k.Num c.next_if.new.self c.in_ok-number.number c.expect.new.self c.in_ok-number.ensures, took k.RBracket c.expect.new.self c.in_ok-expect.field-0 c.expect-in-Some.new.self c.in_ok-expect.ensures);
}
