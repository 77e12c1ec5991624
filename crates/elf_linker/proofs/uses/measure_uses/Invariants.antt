use Rattle.std.proofs.Common.{◌≡◌, drop}
use Rattle.cc_base.specs.Faces.{first_answer}
use Rattle.elf_linker.specs.Names.{sized}
use Rattle.elf_linker.specs.Linked.{object_at}
use Rattle.elf_linker.specs.LinkSteps.{sized_at}
use Rattle.elf_linker.proofs.uses.measure_uses.Given as goal

abbrev pub invariant-loop-symbol : goal.invariant-loop-symbol
invariant-loop-symbol l = first_answer (sized_at l.objects l.number) l.symbol (drop l.symbol (object_at l.objects l.number).symbols) ≡ sized l.objects l.number (object_at l.objects l.number)
