-- Bytes that are given to a sink, one after the other.
use Rattle.std.specs.Prelude.{◌≡◌, ℕ, ◌<◌, List, length, take, Result, Ok, Err}
use Rattle.cc_base.specs.Seen.{SinkSeen}
use Rattle.cc_base.specs.Outside.{SinkFailed, SinkWanted, grown}
use Rattle.cc_base.specs.declared.outside.GiveFault.{GiveFault}
use Rattle.cc_base.specs.declared.outside.GiveFault.TheVariants as fault

-- the first bytes were given, and at the next one the sink did this
pub record CutShort (fails : SinkSeen → SinkSeen → Type 0) (old : SinkSeen) (bytes : List ℕ) (new : SinkSeen) : Type 0 where
  pub count : ℕ
  pub fewer : count < length bytes
  pub fault : fails (grown old (take count bytes)) new

-- all bytes were given, or the first ones and the sink failed or wanted memory
abbrev pub GivesAll : SinkSeen → List ℕ → Result (Unit {0}) GiveFault → SinkSeen → Type 0
GivesAll old bytes (Ok _) new = new ≡ grown old bytes
GivesAll old bytes (Err fault.Failed) new = CutShort SinkFailed old bytes new
GivesAll old bytes (Err fault.Memory) new = CutShort SinkWanted old bytes new
