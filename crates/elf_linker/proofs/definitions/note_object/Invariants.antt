use Rattle.std.proofs.Common.{◌≡◌, drop}
use Rattle.cc_base.specs.Faces.{first_answer}
use Rattle.elf_linker.specs.Names.{doubled}
use Rattle.elf_linker.specs.Linked.{object_at}
use Rattle.elf_linker.specs.LinkSteps.{symbols_before, AreNoted, doubled_at}
use Rattle.elf_linker.proofs.definitions.note_object.Given as goal

abbrev pub invariant-loop-symbol : goal.invariant-loop-symbol
invariant-loop-symbol l = record {
  noted : AreNoted l.objects (symbols_before l.objects l.number l.symbol) l.definitions;
  answers : first_answer (doubled_at l.objects l.number) l.symbol (drop l.symbol (object_at l.objects l.number).symbols) ≡ doubled l.objects l.number (object_at l.objects l.number);
}
