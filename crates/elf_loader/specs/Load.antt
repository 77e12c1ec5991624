-- The machine that an image starts, and what the image does (gABI, chapter 5: program loading, process initialization).
use Rattle.std.specs.Prelude.{ℕ, ◌+◌, ◌/◌, ◌%◌, ◌==◌, nat_lt, nat_le, Bool, cond, ◌||◌, ◌&&◌, List, ◌∷◌, map, Option, Some, None}
use Rattle.std.specs.List.{list_any}
use Rattle.std.specs.Option.{option_or}
use Rattle.cc_base.specs.Runs.{State}
use Rattle.cc_base.specs.Faces.{first_answer}
use Rattle.elf_file.specs.Image.{file_address, end_address}
use Rattle.elf_file.specs.declared.image.ImageParts.{ImageParts}
use Rattle.elf_file.specs.declared.image.SegmentPart.{SegmentPart}
use Rattle.i386_machine.specs.Machine as machine
use Rattle.i386_machine.specs.Regions.{Region}
use Rattle.i386_machine.specs.Runs.{after, seen_of}
use Rattle.elf_loader.specs.declared.fault.LoadFault.{LoadFault}
use Rattle.elf_loader.specs.declared.fault.LoadFault.TheVariants.{Segment, Entry}

-- a stack of 1 MiB
abbrev pub stack_size : ℕ
stack_size = 1048576

-- flag 1 is executable, flag 2 writable
abbrev pub is_executable : SegmentPart → Bool
is_executable segment = segment.flags % 2 == 1

abbrev pub is_writable : SegmentPart → Bool
is_writable segment = segment.flags / 2 % 2 == 1

-- the region of a segment
abbrev pub region_of : SegmentPart → Region
region_of segment = machine.filled segment.start segment.bytes segment.size (is_writable segment) (is_executable segment)

-- the machine at its start: the stack and the segments, at the entry
abbrev pub loaded : ImageParts → machine.State
loaded image = machine.started image.entry (machine.stack_region stack_size ∷ map region_of image.segments)

-- the first segment that leaves the addresses of images, else an entry that no executable segment has
abbrev pub leaves : SegmentPart → Bool
leaves segment = nat_lt segment.start file_address || nat_lt end_address (segment.start + segment.size)

abbrev pub has_entry : ℕ → SegmentPart → Bool
has_entry entry segment = is_executable segment && (nat_le segment.start entry && nat_lt entry (segment.start + segment.size))

-- the first segment that is a fault, where segments are counted from 0
abbrev pub first_outside : ImageParts → Option LoadFault
first_outside image = first_answer (λ index segment. cond (leaves segment) (Some (Segment index)) None) 0 image.segments

abbrev pub without_entry : ImageParts → Option LoadFault
without_entry image = cond (list_any (has_entry image.entry) image.segments) None (Some Entry)

abbrev pub load_fault : ImageParts → Option LoadFault
load_fault image = option_or (first_outside image) (without_entry image)

-- what the image does on an input, after so many instructions
abbrev pub image_after : ImageParts → List ℕ → ℕ → State
image_after image input n = seen_of (after (loaded image) input n)
