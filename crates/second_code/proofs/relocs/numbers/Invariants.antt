use Rattle.std.proofs.Common.{◌≡◌, ◌+◌, ℕ, List, drop}
use Rattle.second_code.specs.Parts.{number_in}
use Rattle.second_code.specs.PartSteps.{bytes_of, found_at, number_or}
use Rattle.second_code.proofs.relocs.numbers.Given as goal

abbrev pub invariant-loop-name : goal.invariant-loop-name
invariant-loop-name l = record {
  counted : l.number ≡ l.name-index;
  numbered : (name : List ℕ) → number_or (found_at l.numbers name) (l.name-index + number_in (bytes_of (drop l.name-index l.names)) name) ≡ number_in (bytes_of l.names) name;
}
