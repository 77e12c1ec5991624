use Rattle.std.proofs.Common.{◌≡◌, map, take}
use Rattle.command_words.specs.Commands.{object_name}
use Rattle.command_words.specs.Orders.{texts}
use Rattle.command_words.proofs.names.objects_of.Given as goal

abbrev pub invariant-loop-unit : goal.invariant-loop-unit
invariant-loop-unit l = texts l.objects.items ≡ map object_name (texts (take l.unit-index l.units))
