use Rattle.std.proofs.Common.{take}
use Rattle.elf_file.specs.Places.{Stands, words_bytes}
use Rattle.elf_file.proofs.image_read.words_stand.Given as goal

abbrev pub invariant-loop-i : goal.invariant-loop-i
invariant-loop-i l = Stands l.file l.at (words_bytes (take l.i l.words))
