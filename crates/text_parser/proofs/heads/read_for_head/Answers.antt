use Rattle.std.proofs.lemmas.Result.{err_from_is_err_and}
use Rattle.text_parser.proofs.ForTurns.{no_first, no_test, no_step, whole_head}
use Rattle.text_parser.proofs.heads.read_for_head.Goals as goal

pub returns-in_err-first-clause-leads : goal.returns-in_err-first-clause-leads
returns-in_err-first-clause-leads c =
    let p = err_from_is_err_and c.from_residual-in_err-first.result c.from_residual-in_err-first.ensures.1 in
    rw (p.1, p.2)
    (no_first c.args.x.now c.in_ok-expect.field-0 c.args.tokens.now c.expect.new.self c.in_ok-expect.ensures c.in_err-first.field-0.0 c.read_simple_before.new.tokens c.in_err-first.ensures.leads)

pub returns-in_err-test-clause-leads : goal.returns-in_err-test-clause-leads
returns-in_err-test-clause-leads c =
    let p = err_from_is_err_and c.from_residual-in_err-test.result c.from_residual-in_err-test.ensures.1 in
    rw (p.1, p.2)
    (no_test c.args.x.now c.in_ok-expect.field-0 c.args.tokens.now c.expect.new.self c.in_ok-expect.ensures c.in_ok-first.first c.read_simple_before.new.tokens c.in_ok-first.ensures.leads
    c.in_err-test.field-0.0 c.read_test.new.tokens c.in_err-test.ensures.leads)

pub returns-in_err-step-clause-leads : goal.returns-in_err-step-clause-leads
returns-in_err-step-clause-leads c =
    let p = err_from_is_err_and c.from_residual-in_err-step.result c.from_residual-in_err-step.ensures.1 in
    rw (p.1, p.2)
    (no_step c.args.x.now c.in_ok-expect.field-0 c.args.tokens.now c.expect.new.self c.in_ok-expect.ensures c.in_ok-first.first c.read_simple_before.new.tokens c.in_ok-first.ensures.leads
    c.in_ok-test.test c.read_test.new.tokens c.in_ok-test.ensures.leads c.in_err-step.field-0.0 c.read_simple_before-2.new.tokens c.in_err-step.ensures.leads)

pub returns-clause-leads : goal.returns-clause-leads
returns-clause-leads c =
    whole_head c.args.x.now c.in_ok-expect.field-0 c.args.tokens.now c.expect.new.self c.in_ok-expect.ensures c.in_ok-first.first c.read_simple_before.new.tokens c.in_ok-first.ensures.leads
    c.in_ok-test.test c.read_test.new.tokens c.in_ok-test.ensures.leads c.in_ok-step.step c.read_simple_before-2.new.tokens c.in_ok-step.ensures.leads
