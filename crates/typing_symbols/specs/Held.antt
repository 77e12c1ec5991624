-- What a sight is, as the text has it.
use Rattle.std.specs.Prelude.{List, map}
use Rattle.typing_symbols.specs.Sights.{Seen, seen}
use Rattle.typing_symbols.specs.declared.sight.Sight.{Sight}

abbrev pub seen_at : Sight → Seen
seen_at s = seen s.how s.name.now

abbrev pub seen_in : List Sight → List Seen
seen_in sights = map seen_at sights
