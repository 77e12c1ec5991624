use Rattle.std.proofs.Common.{arith}
use Rattle.elf_loader.proofs.LoadFacts.{apart_here}
use Rattle.elf_loader.proofs.loading.add_segments.Goals as goal

pub add_segment-requires-clause-apart : goal.add_segment-requires-clause-apart
add_segment-requires-clause-apart c = apart_here c.args.image.now c.loop-index.index _ (omega arith) c.requires.apart c.requires.inside c.loop-index.invariant.1
