use Rattle.std.proofs.Common.{◌≡◌, ◌≤◌, ◌+◌, ◌-◌, ◌++◌, length, drop}
use Rattle.text_grammar.specs.Lexical.{element_bytes, string_value}
use Rattle.text_grammar.proofs.values.string_value.Given as goal

abbrev pub invariant-elements : goal.invariant-elements
invariant-elements l = record {
  count : length l.found + 1 ≤ l.at;
  same : string_value l.literal ≡ l.found ++ element_bytes (length l.literal - length l.found) 34 (drop l.at l.literal);
}

abbrev pub decreases-elements : goal.decreases-elements
decreases-elements l = length l.literal - l.at
