use Rattle.std.proofs.Common.{◌≡◌, ℕ, List, ◌||◌, map, drop}
use Rattle.second_code.specs.Parts.{is_used}
use Rattle.second_code.specs.PartSteps.{use_of, has}
use Rattle.second_code.proofs.names.used_names.Given as goal

abbrev pub invariant-loop-call : goal.invariant-loop-call
invariant-loop-call l = (name : List ℕ) → (has l.used name || is_used (map use_of (drop l.call-index l.calls)) name) ≡ is_used (map use_of l.calls) name
