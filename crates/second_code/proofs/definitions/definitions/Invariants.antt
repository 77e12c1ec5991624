use Rattle.std.proofs.Common.{◌≡◌, ◌+◌, ℕ, List, drop, length}
use Rattle.second_code.specs.Parts.{text_of, definition_from}
use Rattle.second_code.specs.PartSteps.{found_at, or_later}
use Rattle.second_code.proofs.definitions.definitions.Given as goal

abbrev pub invariant-loop-item : goal.invariant-loop-item
invariant-loop-item l = record {
  found : (name : List ℕ) → or_later (found_at l.definitions name) (definition_from l.at (drop l.item-index l.items) name) ≡ definition_from 0 l.items name;
  end : l.at + length (text_of (drop l.item-index l.items)) ≡ length (text_of l.items);
}
