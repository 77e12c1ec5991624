use Rattle.std.proofs.Common.{◌≡◌, ◌≤◌, ◌+◌, ◌*◌, [], ◌∷◌, length}
use Rattle.text_grammar.specs.laws.Programs.{StatementOf, GuardedOf, Choice, BodyOf, StatementsOf, fuel, runs}
use Rattle.text_parser.proofs.statements.+statement.Given as goal

abbrev pub decreases-read_statement : goal.decreases-read_statement
decreases-read_statement l = fuel StatementOf l.tokens.now

abbrev pub decreases-read_branching : goal.decreases-read_branching
decreases-read_branching l = 32 * length l.tokens.now + 5

abbrev pub decreases-read_do : goal.decreases-read_do
decreases-read_do l = 32 * length l.tokens.now + 2

abbrev pub decreases-read_for : goal.decreases-read_for
decreases-read_for l = 32 * length l.tokens.now + 4

abbrev pub decreases-read_guarded : goal.decreases-read_guarded
decreases-read_guarded l = fuel GuardedOf l.tokens.now

abbrev pub decreases-read_choice : goal.decreases-read_choice
decreases-read_choice l = fuel (Choice (l.first ∷ [])) l.tokens.now

abbrev pub decreases-read_body : goal.decreases-read_body
decreases-read_body l = fuel BodyOf l.tokens.now

abbrev pub decreases-read_statements : goal.decreases-read_statements
decreases-read_statements l = fuel (StatementsOf []) l.tokens.now

abbrev pub invariant-read_choice-arms : goal.invariant-read_choice-arms
invariant-read_choice-arms l = record {
  same : runs (Choice l.arms) l.tokens ≡ runs (Choice (l.fn.first ∷ [])) l.fn.tokens;
  shorter : length l.tokens ≤ length l.fn.tokens;
}

abbrev pub decreases-read_choice-arms : goal.decreases-read_choice-arms
decreases-read_choice-arms l = length l.tokens

abbrev pub invariant-read_statements-statements : goal.invariant-read_statements-statements
invariant-read_statements-statements l = record {
  same : runs (StatementsOf l.found) l.tokens ≡ runs (StatementsOf []) l.fn.tokens;
  shorter : length l.tokens ≤ length l.fn.tokens;
}

abbrev pub decreases-read_statements-statements : goal.decreases-read_statements-statements
decreases-read_statements-statements l = length l.tokens
