use Rattle.std.proofs.Common.{◌≡◌, ◌≤◌, [], ◌∷◌, length}
use Rattle.text_grammar.specs.laws.Programs.{LocalItemsOf, runs}
use Rattle.text_parser.proofs.locals.read_local_items.Given as goal

abbrev pub invariant-commas : goal.invariant-commas
invariant-commas l = record {
  same : runs (LocalItemsOf l.found) l.tokens ≡ runs (LocalItemsOf (l.fn.first ∷ [])) l.fn.tokens;
  shorter : length l.tokens ≤ length l.fn.tokens;
}

abbrev pub decreases-commas : goal.decreases-commas
decreases-commas l = length l.tokens
