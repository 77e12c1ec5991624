-- What the objects in memory tell.
use Rattle.std.specs.Prelude.{drop, Some}
use Rattle.std.specs.Ordering.{nat_cmp}
use Rattle.std.specs.Cmp.Lexicographic.{slice_cmp}
use Rattle.std.specs.FinMap.{from_entries}
use Rattle.cc_base.specs.Seen.{FilesSeen, SourceSeen, SinkSeen}
use Rattle.cc_base.specs.declared.in_memory.MemFiles.{MemFiles}
use Rattle.cc_base.specs.declared.in_memory.MemSource.{MemSource}
use Rattle.cc_base.specs.declared.in_memory.MemSink.{MemSink}

abbrev pub files_seen : MemFiles → FilesSeen
files_seen m = record { told = Some (from_entries {R = slice_cmp nat_cmp} m.log.items); read_faults = m.read_faults; write_faults = m.write_faults; misses = m.misses; longs = m.longs }

abbrev pub source_seen : MemSource → SourceSeen
source_seen m = record { told = Some (drop m.at m.bytes); faults = m.faults }

abbrev pub sink_seen : MemSink → SinkSeen
sink_seen m = record { told = Some m.bytes; flushed = m.flushed; faults = m.faults; wants = m.wants }
