use Rattle.std.proofs.Common.{◌≡◌, drop}
use Rattle.cc_base.specs.Faces.{first_answer}
use Rattle.elf_linker.specs.Names.{doubled}
use Rattle.elf_linker.specs.LinkSteps.{symbols_before, AreNoted}
use Rattle.elf_linker.proofs.definitions.definitions.Given as goal

abbrev pub invariant-loop-number : goal.invariant-loop-number
invariant-loop-number l = record {
  noted : AreNoted l.objects (symbols_before l.objects l.number 0) l.definitions;
  answers : first_answer (doubled l.objects) l.number (drop l.number l.objects) ≡ first_answer (doubled l.objects) 0 l.objects;
}
