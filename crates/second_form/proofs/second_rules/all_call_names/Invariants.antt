use Rattle.std.proofs.Common.{take}
use Rattle.std.specs.List.{All}
use Rattle.second_form.specs.SecondForm.{CallsName}
use Rattle.second_form.proofs.second_rules.all_call_names.Given as goal

abbrev pub invariant-statements : goal.invariant-statements
invariant-statements l = All CallsName (take l.statement-index l.statements)
