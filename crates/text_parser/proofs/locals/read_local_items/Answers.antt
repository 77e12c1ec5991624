use Rattle.std.proofs.Common.{sym, ◌∙◌, ap, arith}
use Rattle.text_grammar.specs.declared.kind.Kind.TheVariants as k
use Rattle.text_grammar.specs.laws.Programs.{runs, LocalItemsOf}
use Rattle.text_parser.proofs.Steps.{took}
use Rattle.text_parser.proofs.DeclarationTurns.{local_items_turn}
use Rattle.text_parser.proofs.locals.read_local_items.Goals as goal

pub commas-preserved : goal.commas-preserved
commas-preserved c = record {
  same = ap (λ f. runs (LocalItemsOf f) c.read_local.new.tokens) c.in_ok-push-2.ensures.ok
      ∙ sym (local_items_turn c.commas.found c.in_ok-next.next c.in-Some.field-0 c.commas.tokens c.next_if.new.self c.read_local.new.tokens c.in-Some.ensures c.in_ok-next.ensures.reads)
      ∙ c.commas.invariant.same;
  shorter = omega (arith, c.commas.invariant.shorter, took k.Comma c.commas.tokens c.in-Some.field-0 c.next_if.new.self c.in-Some.ensures, c.in_ok-next.ensures.shorter);
}
