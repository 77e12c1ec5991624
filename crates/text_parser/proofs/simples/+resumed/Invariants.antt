use Rattle.std.proofs.Common.{◌+◌}
use Rattle.text_grammar.specs.laws.Programs.{Resume, fuel}
use Rattle.text_parser.proofs.simples.+resumed.Given as goal

abbrev pub decreases-read_above : goal.decreases-read_above
decreases-read_above l = fuel (Resume l.inner l.name.now) l.tokens.now + 1

abbrev pub decreases-read_resumed : goal.decreases-read_resumed
decreases-read_resumed l = fuel (Resume l.level l.name.now) l.tokens.now
