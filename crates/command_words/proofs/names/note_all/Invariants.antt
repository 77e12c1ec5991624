use Rattle.std.proofs.Common.{◌≡◌, ◌++◌, drop}
use Rattle.command_words.specs.Commands.{AreNames}
use Rattle.command_words.specs.Orders.{texts, bytes_of}
use Rattle.command_words.proofs.names.note_all.Given as goal

abbrev pub invariant-loop-name : goal.invariant-loop-name
invariant-loop-name l = record {
  fit : AreNames (bytes_of l.seen.keys);
  left : bytes_of l.seen.keys ++ texts (drop l.name-index l.names) ≡ bytes_of l.fn.seen.keys ++ texts l.names;
}
