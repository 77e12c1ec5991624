use Rattle.std.proofs.Common.{◌≡◌, ◌+◌, drop}
use Rattle.second_code.specs.Parts.{body_size}
use Rattle.second_code.proofs.text.body_size.Given as goal

abbrev pub invariant-loop-statement : goal.invariant-loop-statement
invariant-loop-statement l = l.size + body_size (drop l.statement-index l.body) ≡ body_size l.body
