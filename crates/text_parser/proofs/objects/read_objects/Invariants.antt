use Rattle.std.proofs.Common.{◌≡◌, ◌≤◌, [], ◌∷◌, length}
use Rattle.text_grammar.specs.laws.Programs.{ObjectsOf, runs}
use Rattle.text_parser.proofs.objects.read_objects.Given as goal

abbrev pub invariant-commas : goal.invariant-commas
invariant-commas l = record {
  same : runs (ObjectsOf l.found) l.tokens ≡ runs (ObjectsOf (l.fn.first ∷ [])) l.fn.tokens;
  shorter : length l.tokens ≤ length l.fn.tokens;
}

abbrev pub decreases-commas : goal.decreases-commas
decreases-commas l = length l.tokens
