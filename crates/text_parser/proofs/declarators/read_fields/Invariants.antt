use Rattle.std.proofs.Common.{◌≡◌, ◌≤◌, [], ◌∷◌, length}
use Rattle.text_grammar.specs.laws.Programs.{FieldsOf, runs}
use Rattle.text_parser.proofs.declarators.read_fields.Given as goal

abbrev pub invariant-commas : goal.invariant-commas
invariant-commas l = record {
  same : runs (FieldsOf l.found) l.tokens ≡ runs (FieldsOf (l.fn.first ∷ [])) l.fn.tokens;
  shorter : length l.tokens ≤ length l.fn.tokens;
}

abbrev pub decreases-commas : goal.decreases-commas
decreases-commas l = length l.tokens
