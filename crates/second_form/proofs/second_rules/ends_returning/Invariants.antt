use Rattle.std.proofs.Common.{drop}
use Rattle.second_form.specs.SecondForm.{EndsReturning}
use Rattle.second_form.proofs.second_rules.ends_returning.Given as goal

-- no statement before is a return
abbrev pub invariant-statements : goal.invariant-statements
invariant-statements l = (EndsReturning (drop l.place l.statements) → EndsReturning l.statements) × (EndsReturning l.statements → EndsReturning (drop l.place l.statements))
