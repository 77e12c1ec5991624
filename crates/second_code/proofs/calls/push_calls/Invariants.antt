use Rattle.std.proofs.Common.{◌≡◌, ◌++◌, ◌+◌, map, drop}
use Rattle.second_code.specs.Parts.{body_size, uses_from}
use Rattle.second_code.specs.PartSteps.{use_of}
use Rattle.second_code.proofs.calls.push_calls.Given as goal

abbrev pub invariant-loop-statement : goal.invariant-loop-statement
invariant-loop-statement l = record {
  calls : map use_of l.calls ++ uses_from l.end (drop l.statement-index l.body) ≡ map use_of l.fn.calls ++ uses_from l.at l.body;
  end : l.end + body_size (drop l.statement-index l.body) ≡ l.at + body_size l.body;
}
