use Rattle.std.proofs.Common.{◌≡◌, ◌++◌, drop}
use Rattle.std.specs.Option.{option_map}
use Rattle.second_form.specs.SecondForm.{all_of, item_of}
use Rattle.second_form.proofs.second_tree.items_of.Given as goal

-- those that are left are behind these
abbrev pub invariant-tree : goal.invariant-tree
invariant-tree l = option_map (λ more. l.items ++ more) (all_of item_of (drop l.external-index l.tree)) ≡ all_of item_of l.tree
