use Rattle.elf_file.proofs.ViewFacts.{relocs_count}
use Rattle.std.proofs.Common.{◌∙◌, sym}
use Rattle.elf_file.proofs.view.ObjectView.relocs.Goals as goal

pub returns : goal.returns
returns c = c.from.ensures ∙ sym (relocs_count c.self.inside.file.now c.self.inside.sizes c.args.self.now c.self.view_is)
