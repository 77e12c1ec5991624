use Rattle.std.proofs.Common.{ℕ, ◌<◌}
use Rattle.second_form.specs.declared.second_items.Item.{Item}
use Rattle.second_form.specs.SecondForm.{IsAt}
use Rattle.second_form.specs.SecondNames.{KeepsItem}
use Rattle.second_form.proofs.second_names.keep_items.Given as goal

abbrev pub invariant-loop-place : goal.invariant-loop-place
invariant-loop-place l = (i : ℕ) (a : Item) → i < l.place → IsAt l.items i a → KeepsItem l.names i a
