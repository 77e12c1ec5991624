use Rattle.std.proofs.Common.{◌≡◌, ◌++◌, drop}
use Rattle.std.specs.Option.{option_map}
use Rattle.second_form.specs.SecondForm.{all_of, statement_of}
use Rattle.second_form.proofs.second_tree.statements_of.Given as goal

-- those that are left are behind these
abbrev pub invariant-body : goal.invariant-body
invariant-body l = option_map (λ more. l.statements ++ more) (all_of statement_of (drop l.tree-index l.body)) ≡ all_of statement_of l.body
