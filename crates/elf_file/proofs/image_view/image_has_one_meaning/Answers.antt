use Rattle.elf_file.proofs.ImageRead.{one_image}
use Rattle.elf_file.proofs.image_view.image_has_one_meaning.Goals as goal

pub returns : goal.returns
returns c = λ one other file a b. one_image one other file a b
