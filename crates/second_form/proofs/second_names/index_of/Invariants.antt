use Rattle.std.proofs.Common.{take}
use Rattle.second_form.proofs.NameRules.{IndexedSoFar}
use Rattle.second_form.proofs.second_names.index_of.Given as goal

abbrev pub invariant-loop-place : goal.invariant-loop-place
invariant-loop-place l = IndexedSoFar (take l.place l.items) l.names
