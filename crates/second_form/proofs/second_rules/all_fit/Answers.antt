use Rattle.std.proofs.Common.{refl}
use Rattle.second_form.specs.SecondForm.{Fits}
use Rattle.second_form.proofs.Each.{one_more, all_of_them}
use Rattle.second_form.proofs.second_rules.all_fit.Goals as goal

pub statements-preserved : goal.statements-preserved
statements-preserved c = one_more Fits c.args.statements.now c.statements.statement-index c.statement-item.result c.statements-test.true c.statement-item.is c.statements.invariant (c.fits.ensures.0 c.if-not-fits.false)

pub returns : goal.returns
returns c = (λ _. all_of_them Fits c.args.statements.now c.statements.statement-index c.statements-test.false c.statements.invariant, λ _. refl)
