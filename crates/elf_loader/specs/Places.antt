-- How the segments of an image lie in memory: the shapes of their regions, and the range that they are in.
use Rattle.std.specs.Prelude.{◌≡◌, ◌-◌, true, false, All}
use Rattle.elf_file.specs.declared.image.ImageParts.{ImageParts}
use Rattle.elf_file.specs.declared.image.SegmentPart.{SegmentPart}
use Rattle.i386_machine.specs.Regions.{Shape}
use Rattle.elf_loader.specs.Load.{stack_size, is_executable, is_writable, leaves}

-- the shape of a segment's region, and of the stack's
abbrev pub segment_shape : SegmentPart → Shape
segment_shape segment = record { base = segment.start; size = segment.size; writable = is_writable segment; executable = is_executable segment }

abbrev pub stack_shape : Shape
stack_shape = record { base = 0xc0000000 - stack_size; size = stack_size; writable = true; executable = false }

-- no segment leaves the addresses of images
abbrev pub AllInside : ImageParts → Type 0
AllInside image = All (λ segment. leaves segment ≡ false) image.segments
