use Rattle.std.proofs.Common.{◌≡◌, ◌++◌, ◌+◌, map, drop, length}
use Rattle.second_code.specs.Parts.{text_of, unit_uses_from}
use Rattle.second_code.specs.PartSteps.{use_of}
use Rattle.second_code.proofs.calls.calls.Given as goal

abbrev pub invariant-loop-item : goal.invariant-loop-item
invariant-loop-item l = record {
  calls : map use_of l.calls ++ unit_uses_from l.at (drop l.item-index l.items) ≡ unit_uses_from 0 l.items;
  end : l.at + length (text_of (drop l.item-index l.items)) ≡ length (text_of l.items);
}
