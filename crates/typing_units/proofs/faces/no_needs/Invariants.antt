use Rattle.std.proofs.Common.{◌≡◌, replicate}
use Rattle.typing_units.proofs.faces.no_needs.Given as goal

abbrev pub invariant-symbols : goal.invariant-symbols
invariant-symbols l = l.needs ≡ replicate l.counter 0
