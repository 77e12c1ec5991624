use Rattle.std.proofs.Common.{take}
use Rattle.std.specs.Prelude.{All}
use Rattle.command_words.specs.Commands.{IsUnit}
use Rattle.command_words.specs.Orders.{texts}
use Rattle.command_words.proofs.names.are_units.Given as goal

abbrev pub invariant-loop-name : goal.invariant-loop-name
invariant-loop-name l = All IsUnit (texts (take l.name-index l.names))
