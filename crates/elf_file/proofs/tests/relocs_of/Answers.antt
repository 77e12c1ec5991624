use Rattle.std.proofs.Common.{◌∙◌, arith}
use Rattle.elf_file.proofs.TestFacts.{reloc_next}
use Rattle.elf_file.proofs.tests.relocs_of.Goals as goal

pub loop-index-preserved : goal.loop-index-preserved
loop-index-preserved c =
    let count = c.relocs-index-end.ensures in
    c.in_ok-push.ensures.ok ∙ reloc_next c.args.view.now c.loop-index.relocs c.reloc.result c.loop-index.index (omega arith) c.loop-index.invariant c.reloc.ensures
