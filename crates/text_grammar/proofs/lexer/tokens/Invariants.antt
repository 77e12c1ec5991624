use Rattle.std.proofs.Common.{length, ◌-◌, ◌≤◌}
use Rattle.std.specs.List.{All}
use Rattle.text_grammar.specs.Spelled.{IsSpelled}
use Rattle.text_grammar.specs.laws.Cuts.{Continues}
use Rattle.text_grammar.proofs.lexer.tokens.Given as goal

abbrev pub invariant-loop-at : goal.invariant-loop-at
invariant-loop-at l = record { within : l.at ≤ length l.text; continues : Continues l.text l.at l.found; spelled : All (IsSpelled l.text) l.found }

abbrev pub decreases-loop-at : goal.decreases-loop-at
decreases-loop-at l = length l.text - l.at
