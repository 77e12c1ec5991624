use Rattle.std.proofs.Common.{◌≡◌, ◌≤◌, [], length}
use Rattle.text_grammar.specs.laws.Programs.{UnitOf, runs}
use Rattle.text_parser.proofs.externals.read_unit.Given as goal

abbrev pub invariant-externals : goal.invariant-externals
invariant-externals l = record {
  same : runs (UnitOf l.found) l.tokens ≡ runs (UnitOf []) l.fn.tokens;
  shorter : length l.tokens ≤ length l.fn.tokens;
}

abbrev pub decreases-externals : goal.decreases-externals
decreases-externals l = length l.tokens
