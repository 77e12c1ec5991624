use Rattle.elf_linker.specs.Runtime.{with_runtime}
use Rattle.elf_linker.specs.declared.fault.LinkFault.TheVariants as fault
use Rattle.commands.proofs.FaultPlaces.{fault_place, found_fault, not_memory_doubled, not_memory_unresolved, not_memory_sized}
use Rattle.commands.proofs.linking.told.Goals as goal

pub names_of-requires-clause-there : goal.names_of-requires-clause-there
names_of-requires-clause-there c =
    fault_place (with_runtime c.args.objects.now) (fault.Doubled c.in-Doubled.object c.in-Doubled.symbol)
    (found_fault (with_runtime c.args.objects.now) c.args.fault (fault.Doubled c.in-Doubled.object c.in-Doubled.symbol) c.in-Doubled.is (not_memory_doubled _ _) c.requires.fault)

pub names_of-requires-in-Unresolved-clause-there : goal.names_of-requires-in-Unresolved-clause-there
names_of-requires-in-Unresolved-clause-there c =
    fault_place (with_runtime c.args.objects.now) (fault.Unresolved c.in-Unresolved.object c.in-Unresolved.symbol)
    (found_fault (with_runtime c.args.objects.now) c.args.fault (fault.Unresolved c.in-Unresolved.object c.in-Unresolved.symbol) c.in-Unresolved.is (not_memory_unresolved _ _) c.requires.fault)

pub names_of-requires-in-Sized-clause-there : goal.names_of-requires-in-Sized-clause-there
names_of-requires-in-Sized-clause-there c =
    fault_place (with_runtime c.args.objects.now) (fault.Sized c.in-Sized.object c.in-Sized.symbol c.in-Sized.stated c.in-Sized.defined)
    (found_fault (with_runtime c.args.objects.now) c.args.fault (fault.Sized c.in-Sized.object c.in-Sized.symbol c.in-Sized.stated c.in-Sized.defined) c.in-Sized.is (not_memory_sized _ _ _ _) c.requires.fault)
