use Rattle.std.proofs.lemmas.Result.{on_ok_weaker}
use Rattle.elf_file.proofs.Joined.{four_more}
use Rattle.elf_file.proofs.write.put_contents.Goals as goal

pub returns : goal.returns
returns c = on_ok_weaker c.put_padded-3.result (four_more _ _ _ _ _ _ _ _ _ c.in_ok-put_header.ensures c.in_ok-put_padded.ensures c.in_ok-put_padded-2.ensures) c.put_padded-3.ensures
