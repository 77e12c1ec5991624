use Rattle.std.proofs.Common.{take, List, ℕ, ◌≡◌}
use Rattle.std.specs.List.{All}
use Rattle.second_form.specs.declared.second_items.SmallStmt.TheVariants.{Call}
use Rattle.second_form.specs.SecondNames.{known_of, IsSeenBy}
use Rattle.second_form.proofs.second_names.are_declared.Given as goal

abbrev pub invariant-loop-statement : goal.invariant-loop-statement
invariant-loop-statement l = All (λ s. (name : List ℕ) → s ≡ Call name → IsSeenBy (known_of l.names name) l.place) (take l.statement-index l.statements)
