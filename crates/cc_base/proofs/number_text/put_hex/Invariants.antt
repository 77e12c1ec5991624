use Rattle.std.proofs.Common.{◌≡◌, ◌≤◌, false, length, take, drop}
use Rattle.std.specs.Fmt.{digits}
use Rattle.cc_base.proofs.HexLemmas.{hex_onto}
use Rattle.cc_base.proofs.number_text.put_hex.Given as goal

abbrev pub invariant-loop-at : goal.invariant-loop-at
invariant-loop-at l = record {
  within : l.at ≤ 20;
  long : length l.buffer ≡ 20;
  written : hex_onto l.at l.rest (drop l.at l.buffer) ≡ digits 16 false l.value;
  front : take l.at l.buffer ≡ take l.at l.fn.buffer;
}

abbrev pub decreases-loop-at : goal.decreases-loop-at
decreases-loop-at l = l.at
