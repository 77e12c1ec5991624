use Rattle.std.proofs.Common.{◌≡◌, true, sym, ◌∙◌, ap, arith, rules}
use Rattle.std.proofs.lemmas.Result.{err_from_is_err_and}
use Rattle.text_grammar.specs.declared.kind.Kind.TheVariants as k
use Rattle.text_grammar.specs.laws.Programs.{head, begins_type, runs, LocalListsOf}
use Rattle.text_parser.proofs.Steps.{took, passed}
use Rattle.text_parser.proofs.DeclarationTurns.{registers, others, no_register, no_other}
use Rattle.text_parser.proofs.locals.read_local_lists.Goals as goal

pub returns-in_err-next-clause-reads : goal.returns-in_err-next-clause-reads
returns-in_err-next-clause-reads c =
    let p = err_from_is_err_and c.from_residual.result c.from_residual.ensures.1 in
    rw (p.1, p.2)
    (no_register c.lists.found c.in-Some.field-0 c.args.tokens.now c.lists.tokens c.next_if.new.self c.read_locals.new.tokens c.lists.invariant.same c.in-Some.ensures c.in_err-next.field-0.0 c.in_err-next.ensures.reads)

pub lists-preserved-in-Some : goal.lists-preserved-in-Some
lists-preserved-in-Some c = record {
  same = ap (λ f. runs (LocalListsOf f) c.read_locals.new.tokens) c.in_ok-push.ensures.ok
      ∙ sym (registers c.lists.found c.in-Some.field-0 c.lists.tokens c.next_if.new.self c.in-Some.ensures ∙ c.in_ok-next.ensures.reads c.lists.found)
      ∙ c.lists.invariant.same;
  shorter = omega (arith, c.lists.invariant.shorter, took k.KwRegister c.lists.tokens c.in-Some.field-0 c.next_if.new.self c.in-Some.ensures, c.in_ok-next.ensures.shorter);
}

pub returns-in_err-next-2-clause-reads : goal.returns-in_err-next-2-clause-reads
returns-in_err-next-2-clause-reads c =
    let p = err_from_is_err_and c.from_residual-in_err-next-2.result c.from_residual-in_err-next-2.ensures.1 in
    let b : begins_type (head c.next_if.new.self) ≡ true = search rules in
    rw (p.1, p.2)
    (no_other c.lists.found c.args.tokens.now c.lists.tokens c.next_if.new.self c.read_locals-in-lists.new.tokens c.lists.invariant.same c.in_default.ensures b c.in_err-next-2.field-0.0 c.in_err-next-2.ensures.reads)

pub lists-preserved : goal.lists-preserved
lists-preserved c =
    let b : begins_type (head c.next_if.new.self) ≡ true = search rules in
    record {
      same = ap (λ f. runs (LocalListsOf f) c.read_locals-in-lists.new.tokens) c.in_ok-push-2.ensures.ok
          ∙ sym (others c.lists.found c.lists.tokens c.next_if.new.self c.in_default.ensures b ∙ c.in_ok-next-2.ensures.reads c.lists.found)
          ∙ c.lists.invariant.same;
      shorter = omega (arith, c.lists.invariant.shorter, passed k.KwRegister c.lists.tokens c.next_if.new.self c.in_default.ensures, c.in_ok-next-2.ensures.shorter);
    }
