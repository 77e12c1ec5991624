use Rattle.std.proofs.Common.{sym, ◌∙◌, ap}
use Rattle.elf_file.specs.Checks.{parts_in}
use Rattle.elf_file.specs.declared.layout.Sizes.{Sizes}
use Rattle.elf_file.proofs.PartsBack.{parts_back}
use Rattle.elf_file.proofs.SizesBack.{sizes_back}
use Rattle.elf_file.proofs.view.object_has_one_meaning.Goals as goal

pub returns : goal.returns
returns c = λ one other file a b. sym (parts_back one file a) ∙ ap (λ (s : Sizes). parts_in file s) (sizes_back one file a ∙ sym (sizes_back other file b)) ∙ parts_back other file b
