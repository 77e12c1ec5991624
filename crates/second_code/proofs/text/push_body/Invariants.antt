use Rattle.std.proofs.Common.{◌≡◌, ◌++◌, drop}
use Rattle.second_code.specs.Parts.{open_body}
use Rattle.second_code.proofs.text.push_body.Given as goal

-- the code so far, and that of the rest, are the whole
abbrev pub invariant-loop-statement : goal.invariant-loop-statement
invariant-loop-statement l = l.text ++ open_body (drop l.statement-index l.body) ≡ l.fn.text ++ open_body l.body
