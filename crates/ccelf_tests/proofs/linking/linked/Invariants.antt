use Rattle.std.proofs.Common.{◌≡◌, length}
use Rattle.ccelf_tests.proofs.linking.linked.Given as goal

abbrev pub invariant-loop-file : goal.invariant-loop-file
invariant-loop-file l = length l.inputs ≡ l.file-index
