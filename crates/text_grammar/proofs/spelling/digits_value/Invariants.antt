use Rattle.std.proofs.Common.{◌≡◌, ◌<◌, ◌^◌, take}
use Rattle.std.specs.Str.Parse.{AllDigits, digits_value}
use Rattle.text_grammar.proofs.spelling.digits_value.Given as goal

abbrev pub invariant-loop-byte : goal.invariant-loop-byte
invariant-loop-byte l = record { digits : AllDigits l.radix (take l.byte-index l.digits); same : l.value ≡ digits_value l.radix (take l.byte-index l.digits); fits : l.value < 2 ^ 32 }
