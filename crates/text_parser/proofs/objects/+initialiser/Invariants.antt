use Rattle.std.proofs.Common.{◌≡◌, ◌≤◌, [], ◌∷◌, length}
use Rattle.text_grammar.specs.laws.Programs.{InitialiserOf, ItemsOf, fuel, runs}
use Rattle.text_parser.proofs.objects.+initialiser.Given as goal

abbrev pub decreases-read_initialiser : goal.decreases-read_initialiser
decreases-read_initialiser l = fuel InitialiserOf l.tokens.now

abbrev pub decreases-read_items : goal.decreases-read_items
decreases-read_items l = fuel (ItemsOf (l.first ∷ [])) l.tokens.now

abbrev pub invariant-read_items-items : goal.invariant-read_items-items
invariant-read_items-items l = record {
  same : runs (ItemsOf l.found) l.tokens ≡ runs (ItemsOf (l.fn.first ∷ [])) l.fn.tokens;
  shorter : length l.tokens ≤ length l.fn.tokens;
}

abbrev pub decreases-read_items-items : goal.decreases-read_items-items
decreases-read_items-items l = length l.tokens
