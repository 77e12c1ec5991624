use Rattle.std.proofs.Common.{◌≡◌, ◌+◌, length}
use Rattle.text_grammar.specs.laws.Programs.{StarsOf, runs}
use Rattle.text_parser.proofs.types.read_stars.Given as goal

abbrev pub invariant-stars : goal.invariant-stars
invariant-stars l = record {
  same : runs (StarsOf l.stars) l.tokens ≡ runs (StarsOf 0) l.initial.tokens;
  count : l.stars + length l.tokens ≡ l.left;
}

abbrev pub decreases-stars : goal.decreases-stars
decreases-stars l = length l.tokens
