use Rattle.std.proofs.Common.{◌≡◌, ◌++◌, take}
use Rattle.commands.specs.Lines.{shown}
use Rattle.commands.proofs.words.put_shown.Given as goal

abbrev pub invariant-loop-byte : goal.invariant-loop-byte
invariant-loop-byte l = l.line ≡ l.fn.line ++ shown (take l.byte-index l.name)
