use Rattle.elf_file.proofs.ImageFacts.{one_image_file}
use Rattle.elf_file.proofs.image_file.image_has_one_file.Goals as goal

pub returns : goal.returns
returns c = λ parts one other f a b. one_image_file parts one other f a b
