use Rattle.std.proofs.Common.{◌≡◌, ◌-◌, length}
use Rattle.typing_initialisers.specs.Data.{padded}
use Rattle.typing_initialisers.proofs.data.pad.Given as goal

-- what is left to append makes the same
abbrev pub invariant-zeros : goal.invariant-zeros
invariant-zeros l = padded l.at l.bytes ≡ padded l.at l.initial.bytes

abbrev pub decreases-zeros : goal.decreases-zeros
decreases-zeros l = l.at - length l.bytes
