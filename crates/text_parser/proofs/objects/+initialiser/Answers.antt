use Rattle.std.proofs.Common.{sym, ◌∙◌, ap, arith}
use Rattle.text_grammar.specs.declared.kind.Kind.TheVariants as k
use Rattle.text_grammar.specs.laws.Programs.{runs, ItemsOf}
use Rattle.text_parser.proofs.Steps.{took, passed}
use Rattle.text_parser.proofs.DeclarationTurns.{items_turn}
use Rattle.text_parser.proofs.objects.+initialiser.Goals as goal

pub read_items-items-preserved : goal.read_items-items-preserved
read_items-items-preserved t c = record {
  same = ap (λ f. runs (ItemsOf f) c.read_initialiser.new.tokens) c.in_ok-push-2.ensures.ok
      ∙ sym (items_turn c.items.found c.in_ok-next.next c.in-Some.field-0 c.items.tokens c.next_if.new.self c.next_if-in-Some.new.self c.read_initialiser.new.tokens c.in-Some.ensures c.in_default-next_if.ensures c.in_ok-next.ensures.reads)
      ∙ c.items.invariant.same;
  shorter = omega (arith, c.items.invariant.shorter, took k.Comma c.items.tokens c.in-Some.field-0 c.next_if.new.self c.in-Some.ensures, passed k.RBrace c.next_if.new.self c.next_if-in-Some.new.self c.in_default-next_if.ensures, c.in_ok-next.ensures.shorter);
}
