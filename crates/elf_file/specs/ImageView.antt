-- A segment of an image, by its number, and how segments lie in memory.
use Rattle.std.specs.Prelude.{ℕ, ◌+◌, ◌<◌, ◌≤◌, ◌^◌, [], length, slice_index_or, All, AllPairs}
use Rattle.elf_file.specs.declared.image.ImageParts.{ImageParts}
use Rattle.elf_file.specs.declared.image.SegmentPart.{SegmentPart}

abbrev pub no_segment : SegmentPart
no_segment = record { start = 0; flags = 0; size = 0; bytes = [] }

abbrev pub segment_of : ImageParts → ℕ → SegmentPart
segment_of image index = slice_index_or image.segments index no_segment

-- It is not empty, has no more bytes than its size, and ends with the address space at the latest.
pub record SegmentFits (segment : SegmentPart) : Type 0 where
  pub some : 0 < segment.size
  pub short : length segment.bytes ≤ segment.size
  pub ends : segment.start + segment.size ≤ 2 ^ 32

-- Each segment fits, and lies behind those before it (gABI, chapter 5: loadable entries ascend in p_vaddr).
pub record SegmentsApart (image : ImageParts) : Type 0 where
  pub each : All SegmentFits image.segments
  pub rise : AllPairs (λ first later. first.start + first.size ≤ later.start) image.segments
