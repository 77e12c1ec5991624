use Rattle.std.proofs.Common.{◌≡◌, drop, length}
use Rattle.command_words.specs.Orders.{texts}
use Rattle.commands.proofs.Readings.{Reading}
use Rattle.commands.proofs.linking.read_all.Given as goal

abbrev pub invariant-loop-index : goal.invariant-loop-index
invariant-loop-index l = record {
  count : length l.objects ≡ l.index;
  reading : Reading (texts l.names) l.files (drop l.index (texts l.names)) (drop l.index l.files) l.objects;
}
