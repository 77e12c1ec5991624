use Rattle.std.proofs.Common.{string_bytes}
use Rattle.command_words.specs.Commands.{IsUnit}
use Rattle.command_words.proofs.NameFacts.{text_at}
use Rattle.command_words.proofs.names.objects_of.Goals as goal

pub object_of-requires : goal.object_of-requires
object_of-requires c = text_at IsUnit string_bytes c.args.units.now c.loop-unit.unit-index c.unit-item.result c.as_str.result.now c.loop-unit-test.true c.unit-item.is c.as_str.ensures.value c.requires
