use Rattle.std.proofs.Common.{take}
use Rattle.std.specs.List.{All}
use Rattle.second_form.specs.SecondForm.{IsWordByte}
use Rattle.second_form.proofs.second_rules.are_word_bytes.Given as goal

abbrev pub invariant-bytes : goal.invariant-bytes
invariant-bytes l = All IsWordByte (take l.byte-index l.name)
