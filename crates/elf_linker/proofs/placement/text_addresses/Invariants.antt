use Rattle.std.proofs.Common.{◌≡◌, ℕ, ◌<◌, get_or, length}
use Rattle.elf_linker.specs.Placement.{text_address}
use Rattle.elf_linker.proofs.Placing.{ends_at}
use Rattle.elf_linker.proofs.placement.text_addresses.Given as goal

abbrev pub invariant-loop-number : goal.invariant-loop-number
invariant-loop-number l = record {
  end : l.at ≡ ends_at l.objects l.number;
  each : length l.texts.items ≡ l.number;
  are : (number : ℕ) → number < l.number → get_or l.texts.items number 0 ≡ text_address l.objects number;
}
