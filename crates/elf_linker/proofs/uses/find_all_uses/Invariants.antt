use Rattle.std.proofs.Common.{◌≡◌, drop}
use Rattle.cc_base.specs.Faces.{first_answer}
use Rattle.elf_linker.specs.Names.{unresolved}
use Rattle.elf_linker.proofs.uses.find_all_uses.Given as goal

abbrev pub invariant-loop-number : goal.invariant-loop-number
invariant-loop-number l = first_answer (unresolved l.objects) l.number (drop l.number l.objects) ≡ first_answer (unresolved l.objects) 0 l.objects
