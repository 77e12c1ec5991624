use Rattle.std.proofs.Common.{take}
use Rattle.std.specs.List.{All}
use Rattle.second_form.specs.SecondForm.{Fits}
use Rattle.second_form.proofs.second_rules.all_fit.Given as goal

abbrev pub invariant-statements : goal.invariant-statements
invariant-statements l = All Fits (take l.statement-index l.statements)
