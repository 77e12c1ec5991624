use Rattle.std.proofs.Common.{◌≡◌, ◌+◌, ◌*◌, ◌≤◌}
use Rattle.elf_linker.proofs.Placing.{ends_at}
use Rattle.elf_linker.proofs.placement.texts_end.Given as goal

abbrev pub invariant-loop-number : goal.invariant-loop-number
invariant-loop-number l = record {
  end : l.at ≡ ends_at l.objects l.number;
  small : l.at ≤ 134516736 + l.number * 8589934592;
}
