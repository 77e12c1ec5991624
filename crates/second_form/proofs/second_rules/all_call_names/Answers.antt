use Rattle.std.proofs.Common.{refl}
use Rattle.second_form.specs.SecondForm.{CallsName}
use Rattle.second_form.proofs.Each.{one_more, all_of_them}
use Rattle.second_form.proofs.second_rules.all_call_names.Goals as goal

pub statements-preserved : goal.statements-preserved
statements-preserved c = one_more CallsName c.args.statements.now c.statements.statement-index c.statement-item.result c.statements-test.true c.statement-item.is c.statements.invariant (c.calls_name.ensures.0 c.if-not-calls_name.false)

pub returns : goal.returns
returns c = (λ _. all_of_them CallsName c.args.statements.now c.statements.statement-index c.statements-test.false c.statements.invariant, λ _. refl)
