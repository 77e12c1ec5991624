use Rattle.std.proofs.Common.{arith}
use Rattle.std.proofs.Common.{◌∙◌, ap, sym}
use Rattle.elf_file.specs.Object.{Section}
use Rattle.elf_file.proofs.ViewFacts.{length-bytes_in, section_shown}
use Rattle.elf_file.proofs.view.ObjectView.size.Goals as goal

pub returns-in-1 : goal.returns-in-1
returns-in-1 c =
    sym (length-bytes_in c.self.inside.file.now 64 c.self.inside.sizes.text (omega (arith, c.self.invariant.whole.whole))) ∙ ap (λ (s : Section). s.size) (section_shown c.self.inside.file.now c.self.inside.sizes c.args.self.now c.args.section 1 c.self.view_is c.in-1.is)

pub returns-in-8 : goal.returns-in-8
returns-in-8 c = ap (λ (s : Section). s.size) (section_shown c.self.inside.file.now c.self.inside.sizes c.args.self.now c.args.section 8 c.self.view_is c.in-8.is)
