use Rattle.std.proofs.Common.{◌≡◌, ◌≤◌, length}
use Rattle.text_grammar.specs.laws.Programs.{LengthsOf, runs}
use Rattle.text_parser.proofs.declarators.read_lengths.Given as goal

abbrev pub invariant-lengths : goal.invariant-lengths
invariant-lengths l = record {
  same : runs (LengthsOf l.found) l.tokens ≡ runs (LengthsOf l.fn.before) l.fn.tokens;
  shorter : length l.tokens ≤ length l.fn.tokens;
}

abbrev pub decreases-lengths : goal.decreases-lengths
decreases-lengths l = length l.tokens
