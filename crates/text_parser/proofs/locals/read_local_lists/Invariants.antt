use Rattle.std.proofs.Common.{◌≡◌, ◌≤◌, [], length}
use Rattle.text_grammar.specs.laws.Programs.{LocalListsOf, runs}
use Rattle.text_parser.proofs.locals.read_local_lists.Given as goal

abbrev pub invariant-lists : goal.invariant-lists
invariant-lists l = record {
  same : runs (LocalListsOf l.found) l.tokens ≡ runs (LocalListsOf []) l.fn.tokens;
  shorter : length l.tokens ≤ length l.fn.tokens;
}

abbrev pub decreases-lists : goal.decreases-lists
decreases-lists l = length l.tokens
