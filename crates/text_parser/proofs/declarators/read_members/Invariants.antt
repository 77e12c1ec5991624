use Rattle.std.proofs.Common.{◌≡◌, ◌≤◌, [], ◌∷◌, length}
use Rattle.text_grammar.specs.laws.Programs.{MembersOf, runs}
use Rattle.text_parser.proofs.declarators.read_members.Given as goal

abbrev pub invariant-members : goal.invariant-members
invariant-members l = record {
  same : runs (MembersOf l.found) l.tokens ≡ runs (MembersOf (l.fn.first ∷ [])) l.fn.tokens;
  shorter : length l.tokens ≤ length l.fn.tokens;
}

abbrev pub decreases-members : goal.decreases-members
decreases-members l = length l.tokens
