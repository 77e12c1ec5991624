use Rattle.std.proofs.Common.{◌≡◌, map, take}
use Rattle.typing_units.specs.Objects.{word_use}
use Rattle.typing_units.proofs.parts.word_uses.Given as goal

abbrev pub invariant-words : goal.invariant-words
invariant-words l = l.uses ≡ map (word_use l.symbols) (take l.word-index l.words)
