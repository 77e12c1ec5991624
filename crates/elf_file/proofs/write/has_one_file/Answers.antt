use Rattle.elf_file.proofs.OneFile.{one_file}
use Rattle.elf_file.proofs.write.has_one_file.Goals as goal

pub returns : goal.returns
returns c = λ parts one other f a b. one_file parts one other f a b
