use Rattle.std.proofs.Common.{◌/◌, ◌%◌, [], ◌∷◌, refl}
use Rattle.elf_linker.proofs.Patching.{kept_by}
use Rattle.elf_linker.proofs.relocating.put_word.Goals as goal

pub returns-clause-others : goal.returns-clause-others
returns-clause-others c k aside =
    let w = c.args.word in kept_by c.args.code.now c.write_u32.new.buf (w % 256 ∷ w / 256 % 256 ∷ w / 65536 % 256 ∷ w / 16777216 % 256 ∷ []) c.args.at c.requires refl c.write_u32.ensures k aside
