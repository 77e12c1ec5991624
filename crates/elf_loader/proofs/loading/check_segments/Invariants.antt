use Rattle.std.proofs.Common.{◌≡◌, ℕ, ◌<◌, false, get_or}
use Rattle.elf_file.specs.declared.image.SegmentPart.{SegmentPart}
use Rattle.elf_loader.specs.Load.{leaves, first_outside}
use Rattle.elf_loader.proofs.LoadFacts.{outside_from}
use Rattle.elf_loader.proofs.loading.check_segments.Given as goal

abbrev pub invariant-loop-index : goal.invariant-loop-index
invariant-loop-index l = (first_outside l.image ≡ outside_from l.image l.index) × ((k : ℕ) (d : SegmentPart) → k < l.index → leaves (get_or l.image.segments k d) ≡ false)
