use Rattle.std.proofs.Common.{sym}
use Rattle.elf_file.proofs.ViewFacts.{symbols_count}
use Rattle.elf_file.proofs.view.ObjectView.symbols.Goals as goal

pub returns : goal.returns
returns c = sym (symbols_count c.self.inside.file.now c.self.inside.sizes c.args.self.now c.self.view_is)
